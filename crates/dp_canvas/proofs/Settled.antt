-- A layer that is taken out of a board and put back.
use Rattle.std.proofs.Common.{◌≡◌, ℕ, List, Some, ap, ◌∙◌}
use Rattle.dp_blend.specs.Color.{Channels}
use Rattle.dp_layers.specs.Rows.{Row, content_of, with_content}
use Rattle.dp_plain.specs.Board.{Board, IsBoard}
use Rattle.dp_plain.proofs.Rows.{filled_back}

-- the board is as it was, if what the layer held comes back
pub put_back : (board out back : Board) (id : ℕ) (old clear new : List Channels) → IsBoard board
    → content_of board.rows id ≡ Some old
    → out ≡ record board { rows = with_content board.rows id clear }
    → back ≡ record out { rows = with_content out.rows id new } → new ≡ old
    → back ≡ board
put_back board out back id old clear new whole found taken put same =
    put
    ∙ ap (λ (b : Board). record b { rows = with_content b.rows id new }) taken
    ∙ ap (λ (pixels : List Channels). record board {
      rows = with_content (with_content board.rows id clear) id pixels;
    }) same
    ∙ ap (λ (rows : List (Row (List Channels))). record board { rows = rows })
    (filled_back board.rows id old clear whole.tree.layers.distinct found)
