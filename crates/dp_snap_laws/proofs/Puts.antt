-- The tiles of a layer, put on a clear canvas one after the other, give its pixels.
use Rattle.std.proofs.Common.{◌≡◌, ◌≢◌, ℕ, zero, suc, ◌+◌, ◌*◌, ◌/◌, ◌%◌, ◌<◌, ◌≤◌}
use Rattle.std.proofs.Common.{true, false, List, [], ◌∷◌, map, length, Option}
use Rattle.std.proofs.Common.{None, Some, refl, ap, sym, ◌∙◌, subst, ◌⊎◌, inl, inr, ⊎_elim, arith}
use Rattle.std.specs.Prelude.{All, pos}
use Rattle.std.specs.List.{fold, flat_map, range_with_len, list_all}
use Rattle.std.specs.Option.{option_map, option_map_or}
use Rattle.std.proofs.lemmas.Int.{ints}
use Rattle.std.proofs.lemmas.Bool.{cases_Bool, cases_eq, cases_lt, lt-ltb, le-leb}
use Rattle.std.proofs.lemmas.Bool.{false_from_ne_true}
use Rattle.std.proofs.lemmas.Nat.{div-add-mod', div-mul-add, mod-mul-add, mul-add-lt}
use Rattle.std.proofs.lemmas.Option.{slice_get-get_or, slice_get-map}
use Rattle.dp_blend.specs.Color.{Channels, IsPixel, clear}
use Rattle.dp_blend.specs.Canvas.{below, canvas_of, pixel_at}
use Rattle.dp_blend.proofs.Canvas.{length-canvas_of, pixel_at-canvas_of, same_canvas}
use Rattle.dp_msg_draw.specs.declared.draw.Draw.{Draw}
use Rattle.dp_msg_draw.specs.declared.draw.Draw.TheVariants.{PutTile}
use Rattle.dp_msg_draw.specs.declared.draw.TileContent.{TileContent}
use Rattle.dp_msg_draw.specs.declared.draw.TileContent.TheVariants.{Solid, Pixels}
use Rattle.dp_pixels.specs.Commands.{pixel_of, pixels_after, drawn}
use Rattle.dp_pixels.specs.Rectangles.{is_in, canvas_rect}
use Rattle.dp_pixels.specs.Tiles.{tiles_along, tile_number, is_in_tiles, tile_put, is_tile_pixel}
use Rattle.dp_pixels.specs.Tiles.{content_at, replaced_by}
use Rattle.dp_pixels.proofs.Rectangles.{is_in_by}
use Rattle.dp_pixels.proofs.TileLaws.{between}
use Rattle.dp_snap.specs.Tiles.{is_same, tile_pixel, pixels_of_tile, shown_of, on_canvas}
use Rattle.dp_snap.specs.Tiles.{content_of_tile}
use Rattle.dp_snap.specs.Snapshot.{put_of_tile, puts_of}
use Rattle.dp_snap.proofs.Tests.{same_is_equal, canvas_at}
use Rattle.dp_snap.proofs.Parts.{pixel_of-inside}
use Rattle.dp_snap_laws.proofs.Lists.{fold-flat_map}

-- ---- steps numbered from a first one on

module _ {S : Type 0} (step : ℕ → S → S) (limit : ℕ) where
  -- the steps of the n numbers from a on
  abbrev pub after_steps : ℕ → ℕ → S → S
  after_steps a n s = fold (λ t k. step k t) s (range_with_len a n)

  pub steps_keep : (P : S → Type 0) → ((k : ℕ) (s : S) → k < limit → P s → P (step k s))
      → (a n : ℕ) (s : S) → a + n ≤ limit → P s → P (after_steps a n s)
  steps_keep P keeps a zero s within holds = holds
  steps_keep P keeps a (suc n) s within holds =
      steps_keep P keeps (a + 1) n (step a s) (omega arith) (keeps a s (omega arith) holds)

  -- one step reaches what is wanted of what is still open, and the others keep both
  pub steps_reach : (Open Reached : S → Type 0) (wanted : ℕ)
      → ((k : ℕ) (s : S) → k < limit → Open s → Open (step k s))
      → ((k : ℕ) (s : S) → k < limit → Reached s → Reached (step k s))
      → ((s : S) → Open s → Reached (step wanted s))
      → (a n : ℕ) (s : S) → a + n ≤ limit → a ≤ wanted → wanted < a + n → Open s
      → Reached (after_steps a n s)
  steps_reach Open Reached wanted opens keeps hits a zero s within low high was_open =
      absurd (omega arith)
  steps_reach Open Reached wanted opens keeps hits a (suc n) s within low high was_open =
      ⊎_elim
      (λ (here : a ≡ wanted).
      steps_keep Reached keeps (a + 1) n (step a s) (omega arith)
      (subst (λ k. Reached (step k s)) (sym here) (hits s was_open)))
      (λ (later : a ≢ wanted).
      steps_reach Open Reached wanted opens keeps hits (a + 1) n (step a s) (omega arith)
      (⊎_elim (λ (past : wanted < a + 1). absurd (later (omega arith)))
      (λ (not_past : a + 1 ≤ wanted). not_past) (cases_lt wanted (a + 1))) (omega arith)
      (opens a s (omega arith) was_open))
      (cases_eq a wanted)

-- ---- the pixels of a layer

module _ (w h id : ℕ) (pixels : List Channels) where
  abbrev paint : List Channels → Draw → List Channels
  paint q op = pixels_after w h op q

  -- the pixels after the tile of a row and a column
  abbrev put : ℕ → ℕ → List Channels → List Channels
  put row col q = fold paint q (put_of_tile w h id pixels row col)

  -- those after a row of tiles
  abbrev put_row : ℕ → List Channels → List Channels
  put_row row q =
      fold paint q (flat_map (put_of_tile w h id pixels row) (below (tiles_along w)))

  length-painted : (ops : List Draw) (q : List Channels) → length q ≡ w * h
      → length (fold paint q ops) ≡ w * h
  length-painted [] q long = long
  length-painted (op ∷ ops) q long =
      length-painted ops (paint q op) (length-canvas_of w h _)

  -- ---- at one place

  module _ (x y : ℕ) (in_x : x < w) (in_y : y < h) where
    -- the pixel at the place
    abbrev pixel : List Channels → Channels
    pixel q = pixel_at w q x y

    inside : is_in (canvas_rect w h) (pos x) (pos y) ≡ true
    inside = is_in_by (canvas_rect w h) (pos x) (pos y) (record {
      x0 = omega (arith, ints);
      x1 = omega (arith, ints);
      y0 = omega (arith, ints);
      y1 = omega (arith, ints);
    })

    pixel-put : (col row : ℕ) (content : TileContent) (q : List Channels)
        → pixel (paint q (PutTile id col row 0 content))
        ≡ tile_put w h col row 0 content x y (pixel q)
    pixel-put col row content q =
        pixel_at-canvas_of w h
        (λ u v. drawn w h (PutTile id col row 0 content) (pixel_of w h q) (pos u) (pos v)) x y in_x
        in_y
        ∙ rw (inside, pixel_of-inside w h q x y in_x in_y) refl

    -- its own tile
    own_tile : is_in_tiles w h (x / 64) (y / 64) 0 x y ≡ true
    own_tile =
        let cols : x / 64 < tiles_along w = omega arith in
        let rows : y / 64 < tiles_along h = omega arith in
        let number = tile_number w (x / 64) (y / 64) in
        rw (
          lt-ltb (x / 64) (tiles_along w) cols,
          lt-ltb (y / 64) (tiles_along h) rows,
          le-leb number number (omega arith),
          le-leb number (number + 0) (omega arith),
        )
        refl

    -- no other tile
    other_tile : (col row : ℕ) → col < tiles_along w → (col ≡ x / 64 → row ≡ y / 64 → ⊥)
        → is_in_tiles w h col row 0 x y ≡ false
    other_tile col row in_cols other =
        false_from_ne_true (is_in_tiles w h col row 0 x y) (λ is.
        let cols = tiles_along w in
        let own : x / 64 < cols = omega arith in
        let bounds = between w h col row 0 x y is in
        let same : row * cols + col ≡ y / 64 * cols + x / 64 =
        omega (arith, bounds.from, bounds.to) in
        other
        (sym (mod-mul-add row cols col in_cols) ∙ ap (λ n. n % cols) same
        ∙ mod-mul-add (y / 64) cols (x / 64) own)
        (sym (div-mul-add row cols col in_cols) ∙ ap (λ n. n / cols) same
        ∙ div-mul-add (y / 64) cols (x / 64) own))

    put_kept : (content : TileContent) (col row : ℕ) (q : List Channels)
        → is_in_tiles w h col row 0 x y ≡ false
        → pixel (paint q (PutTile id col row 0 content)) ≡ pixel q
    put_kept content col row q away = pixel-put col row content q ∙ rw away refl

    -- the tile of another place leaves the pixel
    put_other : (row col : ℕ) (q : List Channels) → col < tiles_along w
        → (col ≡ x / 64 → row ≡ y / 64 → ⊥) → pixel (put row col q) ≡ pixel q
    put_other row col q in_cols other =
        kept (content_of_tile (shown_of w col) (shown_of h row)
        (pixels_of_tile w h pixels col row))
      where
        kept : (found : Option TileContent)
            → pixel (fold paint q (option_map_or (λ c. PutTile id col row 0 c ∷ []) found []))
            ≡ pixel q
        kept None = refl
        kept (Some content) =
            put_kept content col row q (other_tile col row in_cols other)

    -- ---- its own tile

    module _ (each : All IsPixel pixels) (long : length pixels ≡ w * h) where
      abbrev goal : Channels
      goal = pixel pixels

      abbrev tile : List Channels
      tile = pixels_of_tile w h pixels (x / 64) (y / 64)

      abbrev corner : Channels
      corner = pixel_at 64 tile 0 0

      goal_is_pixel : IsPixel goal
      goal_is_pixel =
          each (y * w + x) clear (omega (arith, long, mul-add-lt y w x h in_y in_x))

      tile_at : pixel_at 64 tile (x % 64) (y % 64) ≡ goal
      tile_at =
          let col : x / 64 * 64 + x % 64 ≡ x = div-add-mod' x 64 in
          let row : y / 64 * 64 + y % 64 ≡ y = div-add-mod' y 64 in
          pixel_at-canvas_of 64 64 (λ u v.
          pixel_of w h pixels (pos (x / 64 * 64 + u)) (pos (y / 64 * 64 + v))) (x % 64) (y % 64)
          (omega arith) (omega arith)
          ∙ ap (λ n. pixel_of w h pixels (pos n) (pos (y / 64 * 64 + y % 64))) col
          ∙ ap (λ n. pixel_of w h pixels (pos x) (pos n)) row
          ∙ pixel_of-inside w h pixels x y in_x in_y

      corner_at : list_all (is_same corner)
          (on_canvas (shown_of w (x / 64)) (shown_of h (y / 64)) tile) ≡ true → corner ≡ goal
      corner_at pass =
          same_is_equal corner (pixel_at 64 tile (x % 64) (y % 64))
          (canvas_at (is_same corner) (shown_of w (x / 64)) (shown_of h (y / 64)) (pixel_at 64 tile)
          pass (x % 64) (y % 64) (shown_at w x in_x) (shown_at h y in_y))
          ∙ tile_at
        where
          shown_at : (side place : ℕ) → place < side → place % 64 < shown_of side (place / 64)
          shown_at side place within =
              let whole = div-add-mod' place 64 in
              let low : place % 64 < 64 = omega arith in
              omega arith

      pixel_passes : (p : Channels) → IsPixel p → is_tile_pixel (tile_pixel p) ≡ true
      pixel_passes p is =
          rw (
            le-leb p.r p.a is.r,
            le-leb p.g p.a is.g,
            le-leb p.b p.a is.b,
            le-leb p.a 32768 is.a,
          )
          refl

      replaced : (p old : Channels) → p ≡ goal → replaced_by (tile_pixel p) old ≡ goal
      replaced p old is =
          rw (pixel_passes p (subst IsPixel (sym is) goal_is_pixel)) is

      put_solid : (p : Channels) (q : List Channels) → p ≡ goal
          → pixel (paint q (PutTile id (x / 64) (y / 64) 0 (Solid (tile_pixel p)))) ≡ goal
      put_solid p q is =
          pixel-put (x / 64) (y / 64) (Solid (tile_pixel p)) q
          ∙ rw own_tile (replaced p (pixel q) is)

      put_all : (q : List Channels)
          → pixel (paint q (PutTile id (x / 64) (y / 64) 0 (Pixels (map tile_pixel tile)))) ≡ goal
      put_all q =
          let k : ℕ = y % 64 * 64 + x % 64 in
          let in_tile : k < length tile = omega (
            arith,
            length-canvas_of 64 64 (λ u v.
                pixel_of w h pixels (pos (x / 64 * 64 + u)) (pos (y / 64 * 64 + v))),
          ) in
          let found : content_at (Pixels (map tile_pixel tile)) x y
          ≡ Some (tile_pixel (pixel_at 64 tile (x % 64) (y % 64))) =
          slice_get-map tile_pixel tile k
          ∙ ap (option_map tile_pixel) (slice_get-get_or tile k clear in_tile) in
          pixel-put (x / 64) (y / 64) (Pixels (map tile_pixel tile)) q
          ∙ rw (own_tile, found)
          (replaced (pixel_at 64 tile (x % 64) (y % 64)) (pixel q) tile_at)

      -- if the pixel is clear or its own, the tile of its place gives its own
      put_own : (q : List Channels) → (pixel q ≡ clear) ⊎ (pixel q ≡ goal)
          → pixel (put (y / 64) (x / 64) q) ≡ goal
      put_own q was_open =
          ⊎_elim
          (λ (pass : list_all (is_same corner)
          (on_canvas (shown_of w (x / 64)) (shown_of h (y / 64)) tile) ≡ true).
          ⊎_elim
          (λ (none : is_same clear corner ≡ true).
          rw (pass, none)
          (⊎_elim
          (λ (blank : pixel q ≡ clear).
          blank ∙ same_is_equal clear corner none ∙ corner_at pass)
          (λ (done : pixel q ≡ goal). done) was_open))
          (λ (some : is_same clear corner ≡ false).
          rw (pass, some) (put_solid corner q (corner_at pass)))
          (cases_Bool (is_same clear corner)))
          (λ (mixed : list_all (is_same corner)
          (on_canvas (shown_of w (x / 64)) (shown_of h (y / 64)) tile) ≡ false).
          rw mixed (put_all q))
          (cases_Bool (list_all (is_same corner)
          (on_canvas (shown_of w (x / 64)) (shown_of h (y / 64)) tile)))

      -- ---- all tiles

      -- the pixel is clear, or that of the layer
      abbrev Open : List Channels → Type 0
      Open q = (pixel q ≡ clear) ⊎ (pixel q ≡ goal)

      -- the pixel is that of the layer
      abbrev Reached : List Channels → Type 0
      Reached q = pixel q ≡ goal

      own_or_other : (row col : ℕ) (q : List Channels) → col < tiles_along w → Open q
          → (pixel (put row col q) ≡ goal) ⊎ (pixel (put row col q) ≡ pixel q)
      own_or_other row col q in_cols was_open =
          ⊎_elim
          (λ (same_col : col ≡ x / 64).
          ⊎_elim
          (λ (same_row : row ≡ y / 64).
          inl (ap (λ n. pixel (put n col q)) same_row ∙ ap (λ n. pixel (put (y / 64) n q)) same_col
          ∙ put_own q was_open))
          (λ (other : row ≢ y / 64). inr (put_other row col q in_cols (λ c r. other r)))
          (cases_eq row (y / 64)))
          (λ (other : col ≢ x / 64). inr (put_other row col q in_cols (λ c r. other c)))
          (cases_eq col (x / 64))

      put_opens : (row col : ℕ) (q : List Channels) → col < tiles_along w → Open q
          → Open (put row col q)
      put_opens row col q in_cols was_open =
          ⊎_elim (λ (done : pixel (put row col q) ≡ goal). inr done)
          (λ (same : pixel (put row col q) ≡ pixel q).
          ⊎_elim (λ (blank : pixel q ≡ clear). inl (same ∙ blank))
          (λ (was : pixel q ≡ goal). inr (same ∙ was)) was_open)
          (own_or_other row col q in_cols was_open)

      put_keeps : (row col : ℕ) (q : List Channels) → col < tiles_along w → Reached q
          → Reached (put row col q)
      put_keeps row col q in_cols was =
          ⊎_elim (λ (done : pixel (put row col q) ≡ goal). done)
          (λ (same : pixel (put row col q) ≡ pixel q). same ∙ was)
          (own_or_other row col q in_cols (inr was))

      -- a row of tiles, one after the other
      row_is : (row : ℕ) (q : List Channels)
          → put_row row q ≡ after_steps (put row) (tiles_along w) 0 (tiles_along w) q
      row_is row q = fold-flat_map paint (put_of_tile w h id pixels row) q (below (tiles_along w))

      row_opens : (row : ℕ) (q : List Channels) → row < tiles_along h → Open q
          → Open (put_row row q)
      row_opens row q in_rows was_open =
          subst Open (sym (row_is row q))
          (steps_keep (put row) (tiles_along w) Open (put_opens row) 0 (tiles_along w) q
          (omega arith) was_open)

      row_keeps : (row : ℕ) (q : List Channels) → row < tiles_along h → Reached q
          → Reached (put_row row q)
      row_keeps row q in_rows was =
          subst Reached (sym (row_is row q))
          (steps_keep (put row) (tiles_along w) Reached (put_keeps row) 0 (tiles_along w) q
          (omega arith) was)

      row_hits : (q : List Channels) → Open q → Reached (put_row (y / 64) q)
      row_hits q was_open =
          subst Reached (sym (row_is (y / 64) q))
          (steps_reach (put (y / 64)) (tiles_along w) Open Reached (x / 64) (put_opens (y / 64))
          (put_keeps (y / 64)) put_own 0 (tiles_along w) q (omega arith) (omega arith)
          (omega arith) was_open)

      pub all_put : (q : List Channels) → Open q → Reached (fold paint q (puts_of w h id pixels))
      all_put q was_open =
          subst Reached
          (sym (fold-flat_map paint
          (λ row. flat_map (put_of_tile w h id pixels row) (below (tiles_along w))) q
          (below (tiles_along h))))
          (steps_reach put_row (tiles_along h) Open Reached (y / 64) row_opens row_keeps row_hits 0
          (tiles_along h) q (omega arith) (omega arith) (omega arith) was_open)

  -- the tiles give the pixels, on a clear canvas
  pub puts_give : All IsPixel pixels → length pixels ≡ w * h
      → fold paint (canvas_of w h (λ x y. clear)) (puts_of w h id pixels) ≡ pixels
  puts_give each long =
      let blank : List Channels = canvas_of w h (λ x y. clear) in
      same_canvas w h (fold paint blank (puts_of w h id pixels)) pixels
      (length-painted (puts_of w h id pixels) blank (length-canvas_of w h (λ x y. clear))) long
      (λ x y in_x in_y.
      all_put x y in_x in_y each long blank
      (inl (pixel_at-canvas_of w h (λ x y. clear) x y in_x in_y)))
