-- Tiles of pixels at all places.
use Rattle.std.proofs.Common.{◌≡◌, ℕ, ◌+◌, ◌-◌, ◌*◌, ◌<◌, ◌≤◌, List, length, get_or, ap, ◌∙◌}
use Rattle.std.proofs.Common.{arith, ⊎_elim}
use Rattle.std.specs.Prelude.{ℤ, pos, ◌+ℤ◌}
use Rattle.std.proofs.lemmas.Bool.{cases_lt}
use Rattle.std.proofs.lemmas.Int.{ints}
use Rattle.dp_blend.specs.Color.{Channels, clear}
use Rattle.dp_blend.specs.Canvas.{pixel_at}
use Rattle.dp_blend.proofs.Canvas.{is_canvas_of, pixel_at-canvas_of}
use Rattle.dp_tile.specs.Areas.{with_part}
use Rattle.dp_tile.proofs.Areas.{get_or-before, get_or-inside, length-with_part}
use Rattle.dp_blend.proofs.Parts.{pixel_of_part}
use Rattle.dp_shift.specs.Reading.{row_from, tile_from}
use Rattle.dp_shift.proofs.RowLemmas.{length-row_from}

module _ (pixel : ℤ → ℤ → Channels) (col row : ℕ) where
  -- one of them
  pub pixel-tile_from : (i j : ℕ) → i < 64 → j < 64
      → pixel_at 64 (tile_from pixel col row) i j ≡ pixel (pos (col * 64 + i)) (pos (row * 64 + j))
  unfolding tile_from
  pixel-tile_from i j in_x in_y =
      pixel_at-canvas_of 64 64 (λ i j. pixel (pos (col * 64 + i)) (pos (row * 64 + j))) i j in_x
      in_y

  -- a list that has them at its places
  pub is_tile_from : (new : List Channels) → length new ≡ 4096
      → ((i j : ℕ) → i < 64 → j < 64
      → pixel_at 64 new i j ≡ pixel (pos (col * 64 + i)) (pos (row * 64 + j)))
      → new ≡ tile_from pixel col row
  unfolding tile_from
  is_tile_from new count each =
      is_canvas_of 64 64 (λ i j. pixel (pos (col * 64 + i)) (pos (row * 64 + j))) new count each

-- ---- a tile that is put row by row

module _ (pixel : ℤ → ℤ → Channels) (col row j : ℕ) (old part : List Channels) (n : ℕ) (x y : ℤ)
    (are : part ≡ row_from pixel x y n) (at_x : x ≡ pos (col * 64)) (at_y : y ≡ pos (row * 64 + j))
    (wide : n ≡ 64) (high : j < 64) (count : length old ≡ 4096) where
  long : length part ≡ j * 64 + 64 - j * 64
  long = omega (arith, ap length are, length-row_from pixel x y n, wide)

  order : j * 64 ≤ j * 64 + 64
  order = omega arith

  fits : j * 64 + 64 ≤ length old
  fits = omega (arith, high, count)

  pub length-row_put : length (with_part (j * 64) (j * 64 + 64) old part) ≡ 4096
  length-row_put = length-with_part (j * 64) (j * 64 + 64) old order fits part long ∙ count

  pub row_put : ((i k : ℕ) → i < 64 → k < j
      → pixel_at 64 old i k ≡ pixel (pos (col * 64 + i)) (pos (row * 64 + k)))
      → (i k : ℕ) → i < 64 → k < j + 1
      → pixel_at 64 (with_part (j * 64) (j * 64 + 64) old part) i k
      ≡ pixel (pos (col * 64 + i)) (pos (row * 64 + k))
  row_put each i k in_x up_to =
      ⊎_elim (λ before.
      get_or-before (j * 64) (j * 64 + 64) old order fits part long (k * 64 + i) clear
      (omega (arith, before, in_x)) ∙ each i k in_x before)
      (λ last.
      get_or-inside (j * 64) (j * 64 + 64) old order fits part long (k * 64 + i) clear
      (omega (arith, last)) (omega (arith, up_to, in_x))
      ∙ ap (λ a. get_or part a clear) (index last)
      ∙ ap (λ xs. get_or xs i clear) are
      ∙ pixel_of_part (λ a. pixel (x +ℤ pos a) y) n i (omega (arith, wide, in_x))
      ∙ ap (λ z. pixel z y) across
      ∙ ap (pixel (pos (col * 64 + i))) (at_y ∙ ap (λ a. pos (row * 64 + a)) (is last)))
      (cases_lt k j) where
        is : j ≤ k → j ≡ k
        is last = omega (arith, last, up_to)

        index : j ≤ k → k * 64 + i - j * 64 ≡ i
        index last = omega (arith, last, up_to)

        across : x +ℤ pos i ≡ pos (col * 64 + i)
        across = omega (arith, ints, at_x)
