use Rattle.std.proofs.Common.{◌≡◌, ◌∙◌, sym, subst}
use Rattle.dp_layers.specs.Rows.{layers_of}
use Rattle.dp_plain.specs.Board.{Board}
use Rattle.dp_layered.proofs.Views.{layers_seen}
use Rattle.dp_layered.proofs.layered.LayeredBoardBoardView.rows.Goals as goal

pub returns : goal.returns
returns g c =
    let inside = c.self.inside in
    subst (λ (board : Board). c.rows.result.now ≡ layers_of board.rows) c.self.view_is
    (c.rows.ensures.rows ∙ sym (layers_seen (g.C.LayerPixels.pixels inside.width inside.height)
    inside.tree))
