-- Pixels of a grid of which an area was painted.
use Rattle.std.proofs.Common.{◌≡◌, ℕ, ◌/◌, ◌%◌, ◌<◌, ap, ◌∙◌, true, false}
use Rattle.std.proofs.lemmas.Bool.{cond-true, cond-false}
use Rattle.dp_blend.specs.Canvas.{pixel_at}
use Rattle.dp_tile.specs.declared.area.CellArea.{CellArea}
use Rattle.dp_tile.specs.Tiles.{TileGrid, cell_at, grid_pixel}
use Rattle.dp_tile.specs.Areas.{IsPaintedOn, Painted, is_in_cells}

-- the pixel at a place of a grid of which an area was painted
module _ (area : CellArea) (painted : Painted) (old new : TileGrid)
    (is : IsPaintedOn area painted old new) (x y : ℕ) (in_cols : x / 64 < old.cols)
    (in_rows : y / 64 < old.rows) where
  pub pixel_in : is_in_cells area (x / 64) (y / 64) ≡ true → grid_pixel new x y
      ≡ pixel_at 64 (painted (x / 64) (y / 64) (cell_at old (x / 64) (y / 64))) (x % 64) (y % 64)
  pixel_in inside =
      ap (λ pixels. pixel_at 64 pixels (x % 64) (y % 64))
      (is.cells (x / 64) (y / 64) in_cols in_rows
      ∙ cond-true (is_in_cells area (x / 64) (y / 64))
      (painted (x / 64) (y / 64) (cell_at old (x / 64) (y / 64))) (cell_at old (x / 64) (y / 64))
      inside)

  pub pixel_off : is_in_cells area (x / 64) (y / 64) ≡ false
      → grid_pixel new x y ≡ grid_pixel old x y
  pixel_off outside =
      ap (λ pixels. pixel_at 64 pixels (x % 64) (y % 64))
      (is.cells (x / 64) (y / 64) in_cols in_rows
      ∙ cond-false (is_in_cells area (x / 64) (y / 64))
      (painted (x / 64) (y / 64) (cell_at old (x / 64) (y / 64))) (cell_at old (x / 64) (y / 64))
      outside)
