use Rattle.std.proofs.Common.{◌≡◌, ◌*◌, ◌/◌, ◌<◌, min, ℕ}
use Rattle.std.specs.List.{flat_map}
use Rattle.dp_flat.specs.Composed.{seen_first}
use Rattle.dp_flat.specs.Texts.{pixel_text_of}
use Rattle.dp_flat.proofs.picture.push_line.Given as goal

-- the text is that of the columns before, in each row of pixels
abbrev pub invariant-loop-col : goal.invariant-loop-col
invariant-loop-col g l =
    let board = g.V.BoardView.board l.board in
    (y : ℕ) → y / 64 ≡ l.row → y < board.height → l.text.items
    ≡ flat_map (pixel_text_of l.format) (seen_first board y (min (l.col * 64) board.width))
