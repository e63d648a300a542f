use Rattle.std.proofs.Common.{Some, [], sym, subst}
use Rattle.std.specs.Prelude.{IfSome}
use Rattle.dp_pixels.specs.Tiles.{ShowsTile}
use Rattle.dp_plain.specs.Board.{Board}
use Rattle.dp_plain.specs.Picture.{pixels_of}
use Rattle.dp_plain.proofs.Holds.{fit_found}
use Rattle.dp_layered.proofs.Views.{pixels_seen}
use Rattle.dp_layered.proofs.layered.LayeredBoardBoardView.tile_color.Goals as goal

pub tile_color-requires-clause-fits : goal.tile_color-requires-clause-fits
tile_color-requires-clause-fits g c =
    let inside = c.self.inside in
    fit_found (g.C.LayerPixels.fits inside.width inside.height) inside.tree c.args.id
    c.in_ok-content.content.now
    c.self.invariant.each (sym c.in_ok-content.ensures.value)

pub returns : goal.returns
returns g c =
    let inside = c.self.inside in
    subst
    (λ (board : Board). IfSome c.tile_color.result (λ color. ShowsTile board.width board.height
    (pixels_of board c.args.id) c.args.col c.args.row (Some color) [])) c.self.view_is
    (subst (λ pixels. IfSome c.tile_color.result (λ color. ShowsTile inside.width inside.height
    pixels c.args.col c.args.row (Some color) []))
    (sym
    (pixels_seen (g.C.LayerPixels.pixels inside.width inside.height) inside.tree c.args.id
    c.in_ok-content.content.now (sym c.in_ok-content.ensures.value))) c.tile_color.ensures)
