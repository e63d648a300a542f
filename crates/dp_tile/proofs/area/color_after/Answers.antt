use Rattle.std.proofs.Common.{◌≡◌, length, subst, replicate, arith}
use Rattle.dp_tile.specs.Areas.{row_painted}
use Rattle.dp_tile.specs.Tiles.{tile_of}
use Rattle.dp_tile.proofs.Areas.{row_becomes}
use Rattle.dp_tile.proofs.Tiles.{length-tile_of}
use Rattle.dp_tile.proofs.area.color_after.Goals as goal

pub returns-in-Becomes-clause-painted : goal.returns-in-Becomes-clause-painted
returns-in-Becomes-clause-painted g c =
    let painted = g.P.TilePainter.painted c.args.work.now.painter.now in
    let left = c.args.work.now.left in
    let right = c.args.work.now.right in
    let row = c.args.row in
    let cells = c.args.cells.now in
    let old = c.in_ok-color.color in
    let new = c.in-Becomes.p in
    let first : 0 ≡ left = omega arith in
    let long : length cells ≡ right = omega arith in
    subst (λ k. row_painted painted k right row cells ≡ replicate right (tile_of new)) first
    (row_becomes painted row old new right cells long
    (subst (λ k. cells ≡ replicate k (tile_of old)) long c.in_ok-color.ensures)
    (λ k below. c.in-Becomes.ensures k (omega arith) below (tile_of old) (length-tile_of old)
    (λ p is. cc)))
