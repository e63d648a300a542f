use Rattle.std.proofs.Common.{refl}
use Rattle.dp_blend.specs.Blending.{blend}
use Rattle.dp_blend.proofs.Rects.{part_filled}
use Rattle.dp_blend.proofs.rows.fill_part.Goals as goal

pub returns-clause-places : goal.returns-clause-places
returns-clause-places g c =
    part_filled (blend (g.F.Fill.mode c.args.fill) (g.F.Fill.source c.args.fill)) c.args.left
    c.args.right _ c.args.row.now c.fill_by.new.row c.requires.order c.requires.within refl
    c.fill_by.ensures
