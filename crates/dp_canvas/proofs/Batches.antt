-- Commands that are drawn one after the other, some of them together.
use Rattle.std.proofs.Common.{◌≡◌, ℕ, ◌+◌, ◌-◌, List, ◌++◌, length, take, drop, Some, ap, sym}
use Rattle.std.proofs.Common.{◌∙◌, subst, arith}
use Rattle.std.specs.Prelude.{All, sum_by}
use Rattle.std.proofs.lemmas.List.{drop-take, length-drop, take-append-drop, take-take, take_all}
use Rattle.std.proofs.lemmas.List.Elements.{All-weaker}
use Rattle.std.proofs.lemmas.List.Sums.{fold-append, sum_by-append, sum_by-take-drop}
use Rattle.dp_blend.specs.Color.{Channels, IsPixel}
use Rattle.dp_msg_draw.specs.declared.draw.Draw.{Draw}
use Rattle.dp_layers.specs.Rows.{content_of}
use Rattle.dp_paint.specs.Painting.{pixels_after_all}
use Rattle.dp_pixels.specs.Feet.{reach}
use Rattle.dp_plain.specs.Board.{Board, HasPixels}
use Rattle.dp_plain.specs.Commands.{draw, draw_all, painted_layer}
use Rattle.dp_plain.proofs.Holds.{fit_found}
use Rattle.dp_tile.specs.Tiles.{TileGrid, grid_pixels}
use Rattle.dp_canvas.specs.Batches.{PaintsOn}

-- ---- a run on one layer

pub are_named : (layer : ℕ) (run : List Draw) → All (PaintsOn layer) run
    → All (λ c. painted_layer c ≡ Some layer) run
are_named layer run on =
    All-weaker (PaintsOn layer) (λ c. painted_layer c ≡ Some layer) (λ c is. is.named) run on

-- the pixels of a layer that was found are pixels
pub found_pixels : (board : Board) (id : ℕ) (pixels : List Channels) → HasPixels board
    → Some pixels ≡ content_of board.rows id → All IsPixel pixels
found_pixels board id pixels has found =
    fit_found (All IsPixel) board.rows id pixels has (sym found)

-- what commands make of a grid, on the sides of the board
pub run_on : (board : Board) (w h : ℕ) (run : List Draw) (old new : TileGrid) → w ≡ board.width
    → h ≡ board.height
    → grid_pixels w h new ≡ pixels_after_all w h run (grid_pixels w h old)
    → grid_pixels board.width board.height new
    ≡ pixels_after_all board.width board.height run (grid_pixels board.width board.height old)
run_on board w h run old new wide high is =
    subst (λ (n : ℕ). grid_pixels n board.height new
    ≡ pixels_after_all n board.height run (grid_pixels n board.height old)) wide
    (subst (λ (n : ℕ). grid_pixels w n new ≡ pixels_after_all w n run (grid_pixels w n old)) high
    is)

-- ---- one run after another

-- the commands from a place on
pub rest_is : (ops : List Draw) (n : ℕ) → take (length ops - n) (drop n ops) ≡ drop n ops
rest_is ops n = take_all (length ops - n) (drop n ops) (omega (arith, length-drop n ops))

-- the first commands, and as many of those after them
taken : {X : Type 0} (n m : ℕ) (xs : List X) → take (n + m) xs ≡ take n xs ++ take m (drop n xs)
taken {X} n m xs =
    sym (take-append-drop n (take (n + m) xs))
    ∙ ap (λ (ys : List X). ys ++ drop n (take (n + m) xs))
    (take-take n (n + m) xs (omega arith))
    ∙ ap (λ (ys : List X). take n xs ++ ys) (drop-take n m xs)

pub drawn_further : (start now next : Board) (ops : List Draw) (n m : ℕ)
    → now ≡ draw_all start (take n ops) → next ≡ draw_all now (take m (drop n ops))
    → next ≡ draw_all start (take (n + m) ops)
drawn_further start now next ops n m before after =
    after ∙ ap (λ (b : Board). draw_all b (take m (drop n ops))) before
    ∙ sym (fold-append draw start (take n ops) (take m (drop n ops)))
    ∙ ap (draw_all start) (sym (taken n m ops))

pub weighed_further : (ops : List Draw) (n m : ℕ)
    → sum_by reach (take (n + m) ops)
    ≡ sum_by reach (take n ops) + sum_by reach (take m (drop n ops))
weighed_further ops n m =
    ap (sum_by reach) (taken n m ops)
    ∙ sum_by-append reach (take n ops) (take m (drop n ops))

pub weighed_rest : (ops : List Draw) (n : ℕ)
    → sum_by reach (take n ops) + sum_by reach (drop n ops) ≡ sum_by reach ops
weighed_rest ops n = sum_by-take-drop reach ops n
