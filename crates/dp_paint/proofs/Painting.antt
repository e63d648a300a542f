-- Commands painted on tiles, by their places.
use Rattle.std.proofs.Common.{◌≡◌, ℕ, ◌+◌, ◌*◌, ◌/◌, ◌%◌, ◌<◌, ◌≤◌, arith}
use Rattle.std.proofs.Common.{ap, sym, ◌∙◌, refl, true, false, ⊎_elim}
use Rattle.std.specs.Prelude.{pos, ℤ}
use Rattle.std.proofs.lemmas.Bool.{lt-ltb, cases_Bool, false≢true, false_from_ne_true}
use Rattle.dp_blend.specs.Color.{Channels}
use Rattle.dp_blend.specs.Canvas.{canvas_of}
use Rattle.dp_blend.proofs.Canvas.{canvas_of-same, pixel_at-canvas_of}
use Rattle.dp_msg_draw.specs.declared.draw.Draw.{Draw}
use Rattle.dp_msg_draw.specs.declared.draw.Draw.TheVariants as draws
use Rattle.dp_pixels.specs.Commands.{drawn, pixel_drawn, pixel_of, pixels_after}
use Rattle.dp_pixels.specs.Feet.{foot, is_in_foot, reach, squares_of_foot}
use Rattle.dp_tile.specs.declared.area.CellArea.{CellArea}
use Rattle.dp_tile.specs.Tiles.{TileGrid, cell_at, grid_pixel, grid_pixels}
use Rattle.dp_tile.specs.Areas.{IsPaintedOn, is_in_cells}
use Rattle.dp_shift.specs.Grids.{IsGridOf}
use Rattle.dp_shift.proofs.AreaLemmas.{pixel_in, pixel_off}
use Rattle.dp_paint.specs.Painting.{IsPainting}
use Rattle.dp_ops.specs.Drawn.{tile_drawn}
use Rattle.dp_ops.proofs.Drawn.{pixel-tile_drawn}

-- a command that is no move changes each pixel from the old one
pub by_pixels : (width height : ℕ) (op : Draw) → IsPainting op → (old : ℤ → ℤ → Channels) (x y : ℤ)
    → drawn width height op old x y ≡ pixel_drawn width height op x y (old x y)
by_pixels width height (draws.FillRect layer mode x y w h color) is old px py = refl
by_pixels width height (draws.PutImage layer mode x y w h colors) is old px py = refl
by_pixels width height (draws.PutTile layer col row repeat content) is old px py = refl
by_pixels width height (draws.DabsRound layer x y r g b mode dabs) is old px py = refl
by_pixels width height (draws.DabsSquare layer x y r g b mode dabs) is old px py = refl
by_pixels width height _ is old px py = absurd is

-- outside its foot a command keeps each pixel
abbrev pub StaysOutside : Type 0
StaysOutside = (width height : ℕ) (op : Draw) (old : ℤ → ℤ → Channels) (x y : ℤ)
    → width ≤ 4096 → height ≤ 4096 → is_in_foot (foot op) x y ≡ false
    → drawn width height op old x y ≡ old x y

module _ (width height : ℕ) (op : Draw) (is : IsPainting op) (law : StaysOutside)
    (wide : width ≤ 4096) (high : height ≤ 4096) where
  -- a place outside the foot keeps its pixel
  pub kept_outside : (x y : ℤ) (p : Channels) → is_in_foot (foot op) x y ≡ false
      → p ≡ pixel_drawn width height op x y p
  kept_outside x y p out =
      sym (sym (by_pixels width height op is (λ _ _. p) x y)
      ∙ law width height op (λ _ _. p) x y wide high out)

  -- pixels of which each is what a command makes of the old one
  pub by_each : (before after : ℕ → ℕ → Channels)
      → ((x y : ℕ) → x < width → y < height
      → after x y ≡ pixel_drawn width height op (pos x) (pos y) (before x y))
      → canvas_of width height after ≡ pixels_after width height op (canvas_of width height before)
  by_each before after each =
      let first = pixel_of width height (canvas_of width height before) in
      canvas_of-same width height after (λ x y. drawn width height op first (pos x) (pos y))
      (λ x y in_x in_y. each x y in_x in_y
      ∙ sym (by_pixels width height op is first (pos x) (pos y)
      ∙ ap (pixel_drawn width height op (pos x) (pos y))
      (rw (lt-ltb x width in_x, lt-ltb y height in_y)
      (pixel_at-canvas_of width height before x y in_x in_y))))

  -- what is painted, by whether the cell of a place is in an area that has the foot
  pub by_cells : (area : CellArea) (before after : ℕ → ℕ → Channels)
      → ((x y : ℕ) → x < width → y < height → is_in_foot (foot op) (pos x) (pos y) ≡ true
      → is_in_cells area (x / 64) (y / 64) ≡ true)
      → ((x y : ℕ) → x < width → y < height → is_in_cells area (x / 64) (y / 64) ≡ true
      → after x y ≡ pixel_drawn width height op (pos x) (pos y) (before x y))
      → ((x y : ℕ) → x < width → y < height → is_in_cells area (x / 64) (y / 64) ≡ false
      → after x y ≡ before x y)
      → canvas_of width height after ≡ pixels_after width height op (canvas_of width height before)
  by_cells area before after covers inside outside =
      by_each before after
      (λ x y in_x in_y. ⊎_elim (inside x y in_x in_y)
      (λ t. outside x y in_x in_y t
      ∙ kept_outside (pos x) (pos y) (before x y) (false_from_ne_true
      (is_in_foot (foot op) (pos x) (pos y))
      (λ f. false≢true (sym t ∙ covers x y in_x in_y f))))
      (cases_Bool (is_in_cells area (x / 64) (y / 64))))

-- a grid of which an area was painted
pub grid_painted : (width height : ℕ) (op : Draw) → IsPainting op → StaysOutside
    → (area : CellArea) (old new : TileGrid) → IsGridOf width height old
    → ((x y : ℕ) → x < old.cols * 64 → y < old.rows * 64
    → is_in_foot (foot op) (pos x) (pos y) ≡ true → is_in_cells area (x / 64) (y / 64) ≡ true)
    → IsPaintedOn area (tile_drawn width height op) old new
    → grid_pixels width height new ≡ pixels_after width height op (grid_pixels width height old)
grid_painted width height op is law area old new is_of covers painted =
    by_cells width height op is law is_of.wide is_of.high area (grid_pixel old) (grid_pixel new)
    (λ x y in_x in_y. covers x y (omega (arith, is_of.cols, in_x))
    (omega (arith, is_of.rows, in_y)))
    (λ x y in_x in_y t.
    let at_x : x / 64 * 64 + x % 64 ≡ x = omega arith in
    let at_y : y / 64 * 64 + y % 64 ≡ y = omega arith in
    pixel_in area (tile_drawn width height op) old new painted x y (omega (arith, is_of.cols, in_x))
    (omega (arith, is_of.rows, in_y)) t
    ∙ pixel-tile_drawn width height op (x / 64) (y / 64) (cell_at old (x / 64) (y / 64)) (x % 64)
    (y % 64) (omega arith) (omega arith)
    ∙ (rw (at_x, at_y) refl))
    (λ x y in_x in_y t.
    pixel_off area (tile_drawn width height op) old new painted x y
    (omega (arith, is_of.cols, in_x)) (omega (arith, is_of.rows, in_y)) t)

-- it reaches the squares of its foot
pub reach_painting : (op : Draw) → IsPainting op → reach op ≡ squares_of_foot (foot op)
reach_painting (draws.FillRect layer mode x y w h color) is = refl
reach_painting (draws.PutImage layer mode x y w h colors) is = refl
reach_painting (draws.PutTile layer col row repeat content) is = refl
reach_painting (draws.DabsRound layer x y r g b mode dabs) is = refl
reach_painting (draws.DabsSquare layer x y r g b mode dabs) is = refl
reach_painting _ is = absurd is
