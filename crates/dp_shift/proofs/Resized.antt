-- Grids of a canvas that got new sides.
use Rattle.std.proofs.Common.{◌≡◌, ℕ, ◌/◌, ◌<◌, ◌≤◌, true, refl, arith}
use Rattle.std.specs.Prelude.{pos, ◌-ℤ◌}
use Rattle.std.proofs.lemmas.Bool.{le-leb, lt-ltb}
use Rattle.dp_blend.proofs.Canvas.{canvas_of-same}
use Rattle.dp_pixels.specs.declared.resize.Resize.{Resize}
use Rattle.dp_pixels.specs.Tiles.{tiles_along}
use Rattle.dp_tile.specs.Tiles.{TileGrid, clear_grid, grid_pixel}
use Rattle.dp_tile.specs.Areas.{IsPaintedOn, is_in_cells}
use Rattle.dp_shift.specs.Reading.{IsResized, shown, tile_from}
use Rattle.dp_shift.proofs.Moving.{pixel_in_area}

module _ (r : Resize) (old new : TileGrid) (narrow : r.new_width ≤ 4096)
    (low : r.new_height ≤ 4096)
    (painted : IsPaintedOn (record {
      left = 0;
      right = tiles_along r.new_width;
      top = 0;
      bottom = tiles_along r.new_height;
    })
    (λ col row _. tile_from (λ x y. shown r.width r.height old (x -ℤ r.left) (y -ℤ r.top)) col row)
    (clear_grid (tiles_along r.new_width) (tiles_along r.new_height)) new) where
  in_all : (col row : ℕ) → col < tiles_along r.new_width → row < tiles_along r.new_height
      → is_in_cells (record {
        left = 0;
        right = tiles_along r.new_width;
        top = 0;
        bottom = tiles_along r.new_height;
      }) col row ≡ true
  in_all col row in_cols in_rows =
      rw (
        le-leb 0 col (omega arith),
        lt-ltb col (tiles_along r.new_width) in_cols,
        le-leb 0 row (omega arith),
        lt-ltb row (tiles_along r.new_height) in_rows,
      ) refl

  pub is_resized : IsResized r old new
  is_resized = record {
    of = record { wide = narrow; high = low; cols = painted.cols; rows = painted.rows };
    pixels =
        canvas_of-same r.new_width r.new_height (grid_pixel new)
        (λ x y. shown r.width r.height old (pos x -ℤ r.left) (pos y -ℤ r.top))
        (λ x y in_x in_y.
        let in_cols : x / 64 < tiles_along r.new_width = omega (arith, in_x) in
        let in_rows : y / 64 < tiles_along r.new_height = omega (arith, in_y) in
        pixel_in_area (λ x y. shown r.width r.height old (x -ℤ r.left) (y -ℤ r.top)) (record {
          left = 0;
          right = tiles_along r.new_width;
          top = 0;
          bottom = tiles_along r.new_height;
        })
        (clear_grid (tiles_along r.new_width) (tiles_along r.new_height)) new painted x y in_cols
        in_rows (in_all (x / 64) (y / 64) in_cols in_rows));
  }
