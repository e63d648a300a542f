-- The board on new sides.
use Rattle.std.proofs.Common.{◌≡◌, ℕ, ◌≤◌, cond, true, Some, None, Option, List, sym, ◌∙◌, ap}
use Rattle.std.specs.Prelude.{ℤ, pos, negsuc, ◌+ℤ◌, nat_le}
use Rattle.std.proofs.lemmas.Bool.{and_parts, cond-true, leb-true, false≢true}
use Rattle.std.proofs.lemmas.Option.{cond_some}
use Rattle.dp_blend.specs.Color.{Channels}
use Rattle.dp_layers.specs.Rows.{Row, map_contents}
use Rattle.dp_plain.specs.Board.{Board}
use Rattle.dp_pixels.specs.declared.resize.Resize.{Resize}
use Rattle.dp_pixels.specs.Resizes.{IsResizeOf, is_side, side, pixels_resized, pixels_shifted}
use Rattle.dp_plain.specs.Commands.{resized}

-- the length of a side, if the whole number is one
abbrev pub side_if : ℤ → Option ℕ
side_if n = cond (is_side n) (Some (side n)) None

-- a side is from 1 to 4096 long
pub side_bounds : (n : ℤ) → is_side n ≡ true → (1 ≤ side n) × (side n ≤ 4096)
side_bounds (pos n) is =
    let bounds = and_parts (nat_le 1 n) (nat_le n 4096) is in
    (leb-true 1 n bounds.0, leb-true n 4096 bounds.1)
side_bounds (negsuc n) is = absurd (false≢true is)

-- with both sides the board is resized
pub resized_to : (board : Board) (top right bottom left : ℤ) (width height : ℕ)
    (rows : List (Row (List Channels)))
    → Some width ≡ side_if (pos board.width +ℤ left +ℤ right)
    → Some height ≡ side_if (pos board.height +ℤ top +ℤ bottom)
    → rows ≡ map_contents
    (λ pixels. pixels_shifted board.width board.height pixels width height left top)
    board.rows
    → record { width = width; height = height; background = board.background; rows = rows }
    ≡ resized
    board top right bottom left
resized_to board top right bottom left width height rows is_width is_height is =
    let w = cond_some (is_side (pos board.width +ℤ left +ℤ right))
    (side (pos board.width +ℤ left +ℤ right)) width (sym is_width) in
    let h = cond_some (is_side (pos board.height +ℤ top +ℤ bottom))
    (side (pos board.height +ℤ top +ℤ bottom)) height (sym is_height) in
    rw (w.0, h.0, w.1, h.1)
    (ap
    (λ (rs : List (Row (List Channels))). record
    { width = width; height = height; background = board.background; rows = rs }) is)

-- so it is by a resize of its sides
pub resized_by : (board : Board) (top right bottom left : ℤ) (change : Resize)
    (rows : List (Row (List Channels)))
    → IsResizeOf board.width board.height top right bottom left change
    → rows ≡ map_contents (pixels_resized change) board.rows
    → record {
      width = change.new_width;
      height = change.new_height;
      background = board.background;
      rows = rows;
    } ≡ resized board top right bottom left
resized_by board top right bottom left change rows of is =
    let width : ℤ = pos board.width +ℤ left +ℤ right in
    let height : ℤ = pos board.height +ℤ top +ℤ bottom in
    let shifted = λ (w h : ℕ) (l t : ℤ). map_contents (λ pixels.
    pixels_shifted w h pixels change.new_width change.new_height l t) board.rows in
    resized_to board top right bottom left change.new_width change.new_height rows
    (ap (λ (n : ℕ). Some n) of.to_width ∙ sym (cond-true (is_side width) (Some (side width)) None
    of.wide))
    (ap (λ (n : ℕ). Some n) of.to_height
    ∙ sym (cond-true (is_side height) (Some (side height)) None of.high))
    (is
    ∙ (ap (λ (n : ℕ). shifted n change.height change.left change.top) of.from_width
    ∙ (ap (λ (n : ℕ). shifted board.width n change.left change.top) of.from_height
    ∙ (ap (λ (z : ℤ). shifted board.width board.height z change.top) of.across
    ∙ ap (λ (z : ℤ). shifted board.width board.height left z) of.down))))
