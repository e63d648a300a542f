use Rattle.std.proofs.Common.{subst}
use Rattle.dp_plain.specs.Board.{IsBoard}
use Rattle.dp_plain.proofs.Holds.{board_of_held}
use Rattle.dp_layered.proofs.layered.LayeredBoardBoard.known.Goals as goal

pub returns : goal.returns
returns g c =
    let inside = c.self.inside in
    subst IsBoard c.self.view_is
    (board_of_held g.C.LayerPixels.fits g.C.LayerPixels.pixels inside.width inside.height
    inside.background
    inside.tree c.laws.ensures.covers c.self.invariant)
