use Rattle.std.proofs.Common.{ap, cond}
use Rattle.dp_blend.specs.Color.{of_argb}
use Rattle.dp_blend.specs.Blending.{blend}
use Rattle.dp_ops.proofs.Filed.{fill_met}
use Rattle.dp_ops.proofs.filing.RectFillTileSource.op.Goals as goal

pub returns-clause-drawn : goal.returns-clause-drawn
returns-clause-drawn c = λ on i j p at_col at_row among in_x in_y.
    let f = c.args.self.now in
    ap (λ t. cond t (blend f.mode (of_argb f.color) p) p)
    (fill_met (record {
      color = f.color;
      left = c.part_of_side-left.result.0;
      right = c.part_of_side-left.result.1;
      top = c.part_of_side-top.result.0;
      bottom = c.part_of_side-top.result.1;
      mode = f.mode;
    }) f.x f.y f.w f.h c.args.col c.args.row i j
    (c.part_of_side-left.ensures.among i in_x) (c.part_of_side-left.ensures.all i in_x)
    (c.part_of_side-top.ensures.among j in_y) (c.part_of_side-top.ensures.all j in_y))
