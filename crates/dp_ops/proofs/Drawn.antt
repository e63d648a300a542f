-- The pixels of a tile after a command.
use Rattle.std.proofs.Common.{◌≡◌, ℕ, ◌+◌, ◌*◌, ◌/◌, ◌%◌, ◌<◌, List, [], ◌∷◌, length, refl, ◌∙◌}
use Rattle.std.proofs.Common.{arith, get_or}
use Rattle.std.proofs.Common.{true}
use Rattle.std.proofs.lemmas.Int.{ints}
use Rattle.std.specs.Prelude.{pos, slice_get, Some, None}
use Rattle.dp_blend.specs.Color.{Channels}
use Rattle.dp_blend.specs.Canvas.{pixel_at}
use Rattle.dp_blend.specs.Color.{clear}
use Rattle.dp_blend.proofs.Canvas.{is_canvas_of, pixel_at-canvas_of}
use Rattle.dp_msg_draw.specs.declared.draw.Draw.{Draw}
use Rattle.dp_pixels.specs.Commands.{pixel_drawn}
use Rattle.dp_pixels.specs.Regions.{IsPainted}
use Rattle.dp_pixels.specs.declared.region.Region.{Region}
use Rattle.dp_ops.specs.declared.op.TileOp.TheVariants.{Command}
use Rattle.dp_ops.specs.Ops.{command_at, on_tile, tile_after}
use Rattle.dp_ops.specs.Drawn.{length-tile_drawn, tile_drawn}
use Rattle.dp_ops.proofs.Ops.{is_tile_after}

module _ (width height : ℕ) (op : Draw) (col row : ℕ) (pixels : List Channels) where
  -- one of them
  pub pixel-tile_drawn : (i j : ℕ) → i < 64 → j < 64
      → pixel_at 64 (tile_drawn width height op col row pixels) i j
      ≡ pixel_drawn width height op (pos (col * 64 + i)) (pos (row * 64 + j))
      (pixel_at 64 pixels i j)
  unfolding tile_drawn
  pixel-tile_drawn i j in_x in_y =
      pixel_at-canvas_of 64 64 (λ i j. pixel_drawn width height op (pos (col * 64 + i))
      (pos (row * 64 + j)) (pixel_at 64 pixels i j)) i j in_x in_y

  -- a list that has them at its places
  pub is_tile_drawn : (new : List Channels) → length new ≡ 4096
      → ((i j : ℕ) → i < 64 → j < 64 → pixel_at 64 new i j
      ≡ pixel_drawn width height op (pos (col * 64 + i)) (pos (row * 64 + j))
      (pixel_at 64 pixels i j))
      → new ≡ tile_drawn width height op col row pixels
  unfolding tile_drawn
  is_tile_drawn new count each =
      is_canvas_of 64 64 (λ i j. pixel_drawn width height op (pos (col * 64 + i))
      (pos (row * 64 + j)) (pixel_at 64 pixels i j)) new count each

-- a window of one tile that was painted
pub tile_painted : (width height : ℕ) (op : Draw) (col row : ℕ) (region : Region)
    (old new : List Channels) → region.x ≡ col * 64 → region.y ≡ row * 64
    → region.width ≡ 64 → region.height ≡ 64 → length old ≡ 4096
    → IsPainted region 64 (pixel_drawn width height op) old new
    → new ≡ tile_drawn width height op col row old
tile_painted width height op col row region old new at_x at_y wide high count is =
    is_tile_drawn width height op col row old new (is.len ∙ count)
    (λ i j in_x in_y. rw (← at_x, ← at_y)
    (is.inside i j clear (omega (arith, wide, in_x)) (omega (arith, high, in_y))))

-- ---- the command of a number

module _ (width height : ℕ) (commands : List Draw) (number col row : ℕ) (pixels : List Channels)
  where
    -- a tile on which it was drawn
    pub number_drawn : (op : Draw) → slice_get commands number ≡ Some op → length pixels ≡ 4096
        → tile_drawn width height op col row pixels
        ≡ tile_after (on_tile width height commands col row) (Command number ∷ []) pixels
    number_drawn op is count =
        is_tile_after (on_tile width height commands col row) (Command number ∷ []) pixels
        (tile_drawn width height op col row pixels)
        (length-tile_drawn width height op col row pixels)
        (λ i j in_x in_y.
        pixel-tile_drawn width height op col row pixels i j in_x in_y ∙ (rw is refl))

    -- there is none
    pub no_number : slice_get commands number ≡ None → length pixels ≡ 4096
        → pixels ≡ tile_after (on_tile width height commands col row) (Command number ∷ []) pixels
    no_number is count =
        is_tile_after (on_tile width height commands col row) (Command number ∷ []) pixels pixels
        count (λ i j in_x in_y. rw is refl)

-- the pixel at a place, on which it was drawn
pub number_pixel : (width height : ℕ) (commands : List Draw) (number : ℕ) (op : Draw)
    (region : Region) (x y : ℕ) (old : Channels) (new : List Channels) (d : Channels)
    → slice_get commands number ≡ Some op → region.x ≡ x → region.y ≡ y → region.width ≡ 1
    → region.height ≡ 1 → region.canvas_width ≡ width → region.canvas_height ≡ height
    → IsPainted region 1 (pixel_drawn region.canvas_width region.canvas_height op) (old ∷ []) new
    → get_or new 0 d
    ≡ command_at (on_tile width height commands (x / 64) (y / 64)) number (x % 64) (y % 64) old
number_pixel width height commands number op region x y old new d numbered at_x at_y wide high cw
    ch is =
    let no_x : x + 0 ≡ x = omega arith in
    let no_y : y + 0 ≡ y = omega arith in
    let place_x : x / 64 * 64 + x % 64 ≡ x = omega arith in
    let place_y : y / 64 * 64 + y % 64 ≡ y = omega arith in
    is.inside 0 0 d (omega (arith, wide)) (omega (arith, high))
    ∙ (rw (at_x, at_y, cw, ch, no_x, no_y, numbered, place_x, place_y) refl)
