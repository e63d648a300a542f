-- Grids as the pixels of a layer.
use Rattle.std.proofs.Common.{◌≡◌, ℕ, ◌+◌, ◌*◌, ◌/◌, ◌%◌, ◌<◌, ◌≤◌, ap, sym, ◌∙◌}
use Rattle.std.proofs.Common.{arith}
use Rattle.std.proofs.Common.{replicate, ⊎_elim}
use Rattle.std.proofs.Common.{Result, Ok, Err, OnOk}
use Rattle.std.proofs.lemmas.Bool.{cases_lt}
use Rattle.std.proofs.lemmas.List.{get_or-replicate, get_or_past, length-replicate}
use Rattle.dp_blend.specs.Color.{clear}
use Rattle.dp_blend.specs.Canvas.{canvas_of, part_of_row, pixel_at}
use Rattle.dp_blend.proofs.Canvas.{canvas_of-same, pixel_at-canvas_of}
use Rattle.dp_tile.specs.Tiles.{TileGrid, cell_at, clear_grid, grid_pixel, grid_pixels}
use Rattle.dp_tile.specs.Tiles.{part_of_grid, tile_of}
use Rattle.dp_blend.proofs.Parts.{parts_same}
use Rattle.dp_tile.proofs.Tiles.{pixel-tile_of}

-- a cell of a grid that shows nothing
clear_cell : (cols rows col row : ℕ) → cell_at (clear_grid cols rows) col row ≡ tile_of clear
clear_cell cols rows col row =
    ⊎_elim (λ inside. get_or-replicate (cols * rows) (row * cols + col) (tile_of clear)
    (tile_of clear) inside)
    (λ past. get_or_past (replicate (cols * rows) (tile_of clear)) (row * cols + col)
    (tile_of clear) (omega (arith, past, length-replicate (cols * rows) (tile_of clear))))
    (cases_lt (row * cols + col) (cols * rows))

-- a grid that shows nothing is clear
pub clear_grid_pixels : (w h cols rows : ℕ)
    → grid_pixels w h (clear_grid cols rows) ≡ canvas_of w h (λ x y. clear)
clear_grid_pixels w h cols rows =
    canvas_of-same w h (grid_pixel (clear_grid cols rows)) (λ x y. clear)
    (λ x y in_x in_y. ap (λ cell. pixel_at 64 cell (x % 64) (y % 64))
    (clear_cell cols rows (x / 64) (y / 64))
    ∙ pixel-tile_of clear (y % 64 * 64 + x % 64) (omega arith))

-- a part of a row of a grid is that of its pixels
pub part_of_pixels : (w h : ℕ) (g : TileGrid) (x y n : ℕ) → x + n ≤ w → y < h
    → part_of_grid g x y n ≡ part_of_row w (grid_pixels w h g) x y n
part_of_pixels w h g x y n within inside =
    parts_same (λ i. grid_pixel g (x + i) y) (λ i. pixel_at w (grid_pixels w h g) (x + i) y) n
    (λ i few. sym (pixel_at-canvas_of w h (grid_pixel g) (x + i) y (omega (arith, within, few))
    inside))

-- if two things hold of a success, a third one does that follows from them
pub on_ok_both : {T E : Type 0} (r : Result T E) (P Q R : Type 0) → (P → Q → R) → OnOk r P
    → OnOk r Q → OnOk r R
on_ok_both (Ok x) P Q R f p q = f p q
on_ok_both (Err e) P Q R f p q = tt
