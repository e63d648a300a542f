use Rattle.std.proofs.Common.{subst}
use Rattle.dp_plain.specs.Board.{HasPixels}
use Rattle.dp_plain.proofs.Pixels.{contents-All}
use Rattle.dp_layered.proofs.layered.LayeredBoardBoardView.known_pixels.Goals as goal

pub returns : goal.returns
returns g c =
    let inside = c.self.inside in
    let w = inside.width in
    let h = inside.height in
    subst HasPixels c.self.view_is
    (contents-All (g.C.LayerPixels.fits w h) (g.C.LayerPixels.pixels w h) inside.tree
    (c.laws.ensures.pixels w h) c.self.invariant.each)
