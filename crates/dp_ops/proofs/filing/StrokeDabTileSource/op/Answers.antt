use Rattle.std.proofs.Common.{Fits, SFits, rules, w16, w64, w8}
use Rattle.std.proofs.lemmas.Int.{to_z-of_z}
use Rattle.dp_blend.specs.Color.{of_argb}
use Rattle.dp_ops.proofs.Filed.{dab_moved}
use Rattle.dp_ops.proofs.filing.StrokeDabTileSource.op.Goals as goal

pub returns-clause-drawn : goal.returns-clause-drawn
returns-clause-drawn c = λ t i j p at_col at_row among in_x in_y.
    let s = c.args.self.now.stroke in
    let dab = c.args.self.now.dab.dab in
    let size : Fits w8 dab.size = search rules in
    let at_x : SFits w64 dab.at.x = search rules in
    let at_y : SFits w64 dab.at.y = search rules in
    let x : SFits w16 c.from_tile.result = search rules in
    let y : SFits w16 c.from_tile-2.result = search rules in
    rw (
      to_z-of_z w16 c.from_tile.result x,
      to_z-of_z w16 c.from_tile-2.result y,
      rw (to_z-of_z w64 dab.at.x at_x) at c.from_tile.ensures,
      rw (to_z-of_z w64 dab.at.y at_y) at c.from_tile-2.ensures,
    ) (dab_moved dab size.fits c.args.col c.args.row i j in_x in_y s.shape s.mode
    (of_argb s.color) p)
