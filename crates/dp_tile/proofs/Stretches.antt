-- Parts of rows of tiles and grids.
use Rattle.std.proofs.Common.{◌≡◌, ℕ, ◌+◌, ◌-◌, ◌*◌, ◌/◌, ◌%◌, ◌<◌, ◌≤◌, List, length, get_or}
use Rattle.std.proofs.Common.{map, replicate, refl, sym, ◌∙◌, ap, arith, ⊎_elim}
use Rattle.std.proofs.lemmas.Bool.{cases_lt}
use Rattle.std.proofs.lemmas.List.{get_or-replicate, length-replicate, length-map}
use Rattle.std.proofs.lemmas.List.FromFn.{length-range_with_len}
use Rattle.dp_blend.specs.Color.{Channels, clear}
use Rattle.dp_blend.specs.Canvas.{below, part_of_row, pixel_at}
use Rattle.dp_blend.proofs.Parts.{is_part, length-part_of_row, parts_same, pixel_of_part}
use Rattle.dp_tile.specs.Tiles.{TileGrid, cell_at, grid_pixel, part_of_grid, tile_of}
use Rattle.dp_tile.specs.Areas.{with_part}
use Rattle.dp_tile.proofs.Areas.{length-with_part, get_or-before, get_or-inside}
use Rattle.dp_tile.proofs.Tiles.{pixel-tile_of}

-- a part of a tile of one colour
pub part_of_one_color : (p : Channels) (x y n : ℕ) → x + n ≤ 64 → y < 64
    → part_of_row 64 (tile_of p) x y n ≡ replicate (length (part_of_row 64 (tile_of p) x y n)) p
part_of_one_color p x y n within inside =
    sym (is_part (λ i. pixel_at 64 (tile_of p) (x + i) y) n (replicate n p) (length-replicate n p)
    (λ i few. get_or-replicate n i p clear few
    ∙ sym (pixel-tile_of p (y * 64 + (x + i)) (omega (arith, within, inside, few)))))
    ∙ ap (λ k. replicate k p) (sym (length-part_of_row 64 (tile_of p) x y n))

-- n pixels of a row of a grid
pub length-part_of_grid : (g : TileGrid) (x y n : ℕ) → length (part_of_grid g x y n) ≡ n
length-part_of_grid g x y n =
    length-map (below n) (λ i. grid_pixel g (x + i) y) ∙ length-range_with_len 0 n

-- a part of a row of a grid, as one of its cell
pub part_of_cell : (g : TileGrid) (x y n : ℕ) → x % 64 + n ≤ 64
    → part_of_row 64 (cell_at g (x / 64) (y / 64)) (x % 64) (y % 64) n ≡ part_of_grid g x y n
part_of_cell g x y n within =
    parts_same (λ i. pixel_at 64 (cell_at g (x / 64) (y / 64)) (x % 64 + i) (y % 64))
    (λ i. grid_pixel g (x + i) y) n
    (λ i few.
    let col : (x + i) / 64 ≡ x / 64 = omega (arith, within, few) in
    let at : (x + i) % 64 ≡ x % 64 + i = omega (arith, within, few) in
    rw (col, at) refl)

-- a part more is copied
module _ (f : ℕ → Channels) (done n : ℕ) (xs ys : List Channels) (within : done + n ≤ length xs)
    (are : ys ≡ map (λ i. f (done + i)) (below n)) where
  long : length ys ≡ done + n - done
  long =
      ap length are ∙ length-map (below n) (λ i. f (done + i)) ∙ length-range_with_len 0 n
      ∙ omega arith

  order : done ≤ done + n
  order = omega arith

  pub length-copied : length (with_part done (done + n) xs ys) ≡ length xs
  length-copied = length-with_part done (done + n) xs order within ys long

  pub copied_more : ((i : ℕ) → i < done → get_or xs i clear ≡ f i) → (i : ℕ) → i < done + n
      → get_or (with_part done (done + n) xs ys) i clear ≡ f i
  copied_more each i few =
      ⊎_elim (λ before. get_or-before done (done + n) xs order within ys long i clear before
      ∙ each i before)
      (λ after. get_or-inside done (done + n) xs order within ys long i clear after few
      ∙ ap (λ part. get_or part (i - done) clear) are
      ∙ pixel_of_part (λ k. f (done + k)) n (i - done) (omega (arith, after, few))
      ∙ ap f (back i after))
      (cases_lt i done) where
        back : (k : ℕ) → done ≤ k → done + (k - done) ≡ k
        back k after = omega (arith, after)
