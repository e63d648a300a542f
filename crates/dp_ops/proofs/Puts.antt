-- Tiles that PutTile puts, of one pixel each.
use Rattle.std.proofs.Common.{◌≡◌, ℕ, ◌+◌, ◌*◌, ◌/◌, ◌<◌, ◌≤◌, Bool, true, false, ◌&&◌, cond}
use Rattle.std.proofs.Common.{List, length, refl, ◌∙◌, ap, arith}
use Rattle.std.specs.Prelude.{pos, nat_lt, nat_le}
use Rattle.std.specs.Option.{option_map_or}
use Rattle.std.proofs.lemmas.Bool.{and_parts, cond-true, cond-false, le-leb, leb-true}
use Rattle.dp_blend.specs.Color.{Channels}
use Rattle.dp_blend.specs.Canvas.{pixel_at}
use Rattle.dp_msg_draw.specs.declared.draw.TileContent.{TileContent}
use Rattle.dp_pixels.specs.Rectangles.{canvas_rect, is_in}
use Rattle.dp_pixels.specs.Tiles.{content_at, is_in_tiles, replaced_by, tile_number, tile_put}
use Rattle.dp_pixels.specs.Tiles.{tiles_along}
use Rattle.dp_tile.specs.Tiles.{tile_of}
use Rattle.dp_ops.specs.declared.put.TileRun.{TileRun}
use Rattle.dp_ops.specs.Drawn.{tile_drawn}
use Rattle.dp_ops.specs.Puts.{put_of}
use Rattle.dp_pixels.proofs.Rectangles.{on_canvas}
use Rattle.dp_ops.proofs.Plain.{becomes, keeps}

module _ (width height col row repeat : ℕ) where
  abbrev first : ℕ
  first = tile_number width col row

  -- the test of a tile
  abbrev pub has : ℕ → ℕ → Bool
  has x y =
      nat_lt col (tiles_along width) && nat_lt row (tiles_along height)
      && nat_le first (tile_number width x y) && nat_le (tile_number width x y) (first + repeat)

  -- it is that of each place of the tile
  pub has_place : (x y i j : ℕ) → i < 64 → j < 64
      → is_in_tiles width height col row repeat (x * 64 + i) (y * 64 + j) ≡ has x y
  has_place x y i j in_x in_y =
      let at_x : (x * 64 + i) / 64 ≡ x = omega (arith, in_x) in
      let at_y : (y * 64 + j) / 64 ≡ y = omega (arith, in_y) in
      ap (λ k. has k ((y * 64 + j) / 64)) at_x ∙ ap (has x) at_y

  pub has_corner : (x y : ℕ) → is_in_tiles width height col row repeat (x * 64) (y * 64) ≡ has x y
  has_corner x y =
      let at_x : x * 64 / 64 ≡ x = omega arith in
      let at_y : y * 64 / 64 ≡ y = omega arith in
      ap (λ k. has k (y * 64 / 64)) at_x ∙ ap (has x) at_y

  -- a tile between two of a row
  pub has_between : (left x last y : ℕ) → left ≤ x → x ≤ last → has left y ≡ true
      → has last y ≡ true → has x y ≡ true
  has_between left x last y after before start end =
      let cols = tiles_along width in
      let on = nat_lt col cols && nat_lt row (tiles_along height) in
      let most = and_parts (on && nat_le first (tile_number width left y))
      (nat_le (tile_number width left y) (first + repeat)) start in
      let some = and_parts on (nat_le first (tile_number width left y)) most.0 in
      let from = leb-true first (tile_number width left y) some.1 in
      let to = leb-true (tile_number width last y) (first + repeat)
      (and_parts (on && nat_le first (tile_number width last y))
      (nat_le (tile_number width last y) (first + repeat)) end).1 in
      rw (
        some.0,
        le-leb first (tile_number width x y) (omega (arith, from, after)),
        le-leb (tile_number width x y) (first + repeat) (omega (arith, to, before)),
      ) refl

-- a pixel that stays, on a canvas or off it
kept : (on t : Bool) (put old : Channels) → t ≡ false → cond on (cond t put old) old ≡ old
kept true t put old isnt = cond-false t put old isnt
kept false t put old isnt = refl

module _ (run : TileRun) (content : TileContent) (x y : ℕ) (pixels : List Channels) where
  abbrev w : ℕ
  w = run.width

  abbrev h : ℕ
  h = run.height

  abbrev has_tile : Bool
  has_tile = has w h run.col run.row run.repeat x y

  -- a tile that is put on the canvas
  pub put_becomes : (q : Channels) → ((a b : ℕ) (old : Channels)
      → option_map_or (λ p. replaced_by p old) (content_at content a b) old ≡ q)
      → has_tile ≡ true → x * 64 + 64 ≤ w → y * 64 + 64 ≤ h
      → tile_drawn w h (put_of run content) x y pixels ≡ tile_of q
  put_becomes q solid is wide high =
      becomes w h (put_of run content) x y pixels q
      (λ i j in_x in_y.
      let old = pixel_at 64 pixels i j in
      let a = x * 64 + i in
      let b = y * 64 + j in
      let put = option_map_or (λ p. replaced_by p old) (content_at content a b) old in
      cond-true (is_in (canvas_rect w h) (pos a) (pos b))
      (tile_put w h run.col run.row run.repeat content a b old) old
      (on_canvas w h a b (omega (arith, wide, in_x)) (omega (arith, high, in_y)))
      ∙ cond-true (is_in_tiles w h run.col run.row run.repeat a b) put old
      (has_place w h run.col run.row run.repeat x y i j in_x in_y ∙ is)
      ∙ solid a b old)

  -- another tile
  pub put_stays : has_tile ≡ false → length pixels ≡ 4096
      → tile_drawn w h (put_of run content) x y pixels ≡ pixels
  put_stays isnt count =
      keeps w h (put_of run content) x y pixels count
      (λ i j in_x in_y.
      let old = pixel_at 64 pixels i j in
      let a = x * 64 + i in
      let b = y * 64 + j in
      kept (is_in (canvas_rect w h) (pos a) (pos b))
      (is_in_tiles w h run.col run.row run.repeat a b)
      (option_map_or (λ p. replaced_by p old) (content_at content a b) old) old
      (has_place w h run.col run.row run.repeat x y i j in_x in_y ∙ isnt))
