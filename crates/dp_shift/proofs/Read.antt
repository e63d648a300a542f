-- Rows that are read off a canvas of tiles.
use Rattle.std.proofs.Common.{◌≡◌, ℕ, ◌+◌, ◌-◌, ◌<◌, ◌≤◌, List, length, get_or, ap, sym, ◌∙◌}
use Rattle.std.proofs.Common.{arith, refl, ⊎_elim}
use Rattle.std.specs.Prelude.{ℤ, pos, ◌+ℤ◌, ◌<ℤ◌, ◌≤ℤ◌}
use Rattle.std.proofs.lemmas.Bool.{cases_lt}
use Rattle.std.proofs.lemmas.Int.{ints}
use Rattle.dp_blend.specs.Color.{Channels, clear}
use Rattle.dp_tile.specs.Areas.{with_part}
use Rattle.dp_tile.specs.Tiles.{TileGrid, grid_pixel, part_of_grid}
use Rattle.dp_blend.proofs.Parts.{is_part, pixel_of_part}
use Rattle.dp_tile.proofs.Stretches.{length-part_of_grid}
use Rattle.dp_shift.specs.Reading.{row_from, shown}
use Rattle.dp_shift.proofs.RowLemmas.{is_row_with_part}
use Rattle.dp_shift.proofs.Shown.{shown_above, shown_at, shown_below, shown_left, shown_right}

module _ (w h : ℕ) (g : TileGrid) (x y : ℤ) (len : ℕ) (xs : List Channels) (count : length xs ≡ len)
    (blank : (i : ℕ) → i < len → get_or xs i clear ≡ clear) where
  -- a row above the canvas
  pub row_above : y <ℤ pos 0 → xs ≡ row_from (shown w h g) x y len
  row_above above =
      is_part (λ i. shown w h g (x +ℤ pos i) y) len xs count
      (λ i few. blank i few ∙ sym (shown_above w h g (x +ℤ pos i) y above))

  -- a row below it
  pub row_below : pos h ≤ℤ y → xs ≡ row_from (shown w h g) x y len
  row_below below =
      is_part (λ i. shown w h g (x +ℤ pos i) y) len xs count
      (λ i few. blank i few ∙ sym (shown_below w h g (x +ℤ pos i) y below))

  module _ (start end : ℕ) (left : (i : ℕ) → i < len → i < start → (x +ℤ pos i) <ℤ pos 0)
      (right : (i : ℕ) → i < len → end ≤ i → pos w ≤ℤ (x +ℤ pos i)) where
    -- a row of no place on it
    pub row_beside : end ≤ start → xs ≡ row_from (shown w h g) x y len
    row_beside none =
        is_part (λ i. shown w h g (x +ℤ pos i) y) len xs count
        (λ i few. blank i few
        ∙ sym (⊎_elim (λ less. shown_left w h g (x +ℤ pos i) y (left i few less))
        (λ past. shown_right w h g (x +ℤ pos i) y (right i few (omega (arith, none, past))))
        (cases_lt i start)))

    -- a row of which a part is on it
    pub row_across : (k n : ℕ) (ys : List Channels) → start < end → end ≤ len
        → pos k ≡ x +ℤ pos start → pos n ≡ y → n < h
        → ((i : ℕ) → i < len → i < end → (x +ℤ pos i) <ℤ pos w)
        → ys ≡ part_of_grid g k n (end - start)
        → with_part start end xs ys ≡ row_from (shown w h g) x y len
    row_across k n ys some within at_x at_y in_y inside are =
        is_row_with_part (λ _. clear) (λ i. shown w h g (x +ℤ pos i) y)
        (λ i. shown w h g (x +ℤ pos i) y) start end len xs ys (omega (arith, some)) within count
        (ap length are ∙ length-part_of_grid g k n (end - start))
        blank
        (λ i few. ap (λ part. get_or part i clear) are
        ∙ pixel_of_part (λ i. grid_pixel g (k + i) n) (end - start) i few
        ∙ sym (ap (λ z. shown w h g z y) (place i)
        ∙ ap (shown w h g (pos (k + i))) (sym at_y)
        ∙ shown_at w h g (k + i) n (in_x i few) in_y))
        (λ i few less. sym (shown_left w h g (x +ℤ pos i) y (left i few less)))
        (λ i _ _. refl)
        (λ i few past. sym (shown_right w h g (x +ℤ pos i) y (right i few past))) where
          place : (i : ℕ) → x +ℤ pos (start + i) ≡ pos (k + i)
          place i = omega (arith, ints, at_x)

          in_x : (i : ℕ) → i < end - start → k + i < w
          in_x i few =
              let less = inside (start + i) (omega (arith, few, within)) (omega (arith, few)) in
              omega (arith, ints, less, place i)
