-- Operations on tiles.
use Rattle.std.proofs.Common.{◌≡◌, ℕ, ◌+◌, ◌-◌, ◌*◌, ◌/◌, ◌%◌, ◌<◌, ◌≤◌, List, [], ◌∷◌, ◌++◌}
use Rattle.std.proofs.Common.{length, get_or, take, drop, cond, true, false, ◌&&◌, leb, ltb}
use Rattle.std.proofs.Common.{refl, sym, ◌∙◌, ap, arith, ◌⊎◌, ⊎_elim, replicate, min}
use Rattle.std.specs.Prelude.{pos, ◌+ℤ◌, ◌-ℤ◌}
use Rattle.std.specs.Prelude.{Bool, ◌==◌}
use Rattle.std.proofs.lemmas.Int.{ints}
use Rattle.std.proofs.lemmas.Bool.{cases_lt, cases_Bool, cond-false, cond-true, false≢true}
use Rattle.std.proofs.lemmas.Bool.{false_from_ne_true, and_parts}
use Rattle.std.proofs.lemmas.Bool.{le-leb, lt-ltb, leb-true, ltb-true}
use Rattle.std.proofs.lemmas.List.{take_more, take_all, take-append-drop}
use Rattle.std.proofs.lemmas.List.Sums.{fold-append}
use Rattle.std.proofs.lemmas.Bool.{eqb-true}
use Rattle.std.proofs.lemmas.List.{nil_from_length}
use Rattle.dp_blend.specs.Color.{Channels, clear, of_argb}
use Rattle.dp_blend.specs.Blending.{blend, row_filled}
use Rattle.dp_blend.specs.declared.modes.Mode.{Mode}
use Rattle.dp_blend.specs.declared.modes.Mode.TheVariants as modes
use Rattle.dp_blend.specs.Canvas.{pixel_at}
use Rattle.dp_blend.proofs.Canvas.{is_canvas_of, pixel_at-canvas_of}
use Rattle.dp_pixels.specs.declared.dabs.Shape.{Shape}
use Rattle.dp_pixels.specs.declared.dabs.Shape.TheVariants as shapes
use Rattle.dp_pixels.specs.declared.region.Region.{Region}
use Rattle.dp_pixels.specs.Commands.{dab_blended}
use Rattle.dp_pixels.specs.Rectangles.{canvas_rect, is_in}
use Rattle.dp_pixels.specs.Regions.{IsPainted, on_canvas}
use Rattle.dp_pixels.proofs.Rectangles.{is_in_by}
use Rattle.dp_tile.specs.Tiles.{tile_of}
use Rattle.dp_tile.specs.Areas.{with_part}
use Rattle.dp_tile.proofs.Areas.{get_or-after, get_or-before, get_or-inside, length-with_part}
use Rattle.dp_tile.proofs.Tiles.{length-tile_of, pixel-tile_of}
use Rattle.dp_ops.specs.declared.op.TileFill.{TileFill}
use Rattle.dp_ops.specs.declared.op.TileDab.{TileDab}
use Rattle.dp_ops.specs.declared.op.TileOp.{TileOp}
use Rattle.dp_ops.specs.declared.op.TileOp.TheVariants.{Fill, Dab, Command}
use Rattle.dp_ops.specs.Ops.{OnTile, code_of, dab_at, dab_in_tile, fill_at, is_in_fill}
use Rattle.dp_ops.specs.Ops.{length-tile_after, mode_coded, op_at, ops_at, packed_dab}
use Rattle.dp_ops.specs.Ops.{packed_fill, packed_op, shape_code, shape_coded, tile_after}

-- ---- a tile after operations

module _ (t : OnTile) (ops : List TileOp) (pixels : List Channels) where
  -- one of its pixels
  pub pixel-tile_after : (x y : ℕ) → x < 64 → y < 64
      → pixel_at 64 (tile_after t ops pixels) x y ≡ ops_at t ops x y (pixel_at 64 pixels x y)
  unfolding tile_after
  pixel-tile_after x y in_x in_y =
      pixel_at-canvas_of 64 64 (λ x y. ops_at t ops x y (pixel_at 64 pixels x y)) x y in_x in_y

  -- a list that has them at its places
  pub is_tile_after : (new : List Channels) → length new ≡ 4096
      → ((x y : ℕ) → x < 64 → y < 64
      → pixel_at 64 new x y ≡ ops_at t ops x y (pixel_at 64 pixels x y))
      → new ≡ tile_after t ops pixels
  unfolding tile_after
  is_tile_after new count each =
      is_canvas_of 64 64 (λ x y. ops_at t ops x y (pixel_at 64 pixels x y)) new count each

-- no operation keeps the tile
pub none_after : (t : OnTile) (pixels : List Channels) → length pixels ≡ 4096
    → pixels ≡ tile_after t [] pixels
none_after t pixels count = is_tile_after t [] pixels pixels count (λ x y in_x in_y. refl)

pub tile_none : (t : OnTile) (ops : List TileOp) (pixels : List Channels) → ops ≡ []
    → length pixels ≡ 4096 → tile_after t ops pixels ≡ pixels
tile_none t ops pixels none count =
    ap (λ (l : List TileOp). tile_after t l pixels) none ∙ sym (none_after t pixels count)

-- one operation more at a place
pub ops_more : (t : OnTile) (ops : List TileOp) (op : TileOp) (x y : ℕ) (p : Channels)
    → ops_at t (ops ++ op ∷ []) x y p ≡ op_at t op x y (ops_at t ops x y p)
ops_more t ops op x y p =
    fold-append (λ (old : Channels) (o : TileOp). op_at t o x y old) p ops (op ∷ [])

-- one operation more on a tile
pub tile_more : (t : OnTile) (ops : List TileOp) (op : TileOp) (start before new : List Channels)
    → before ≡ tile_after t ops start → new ≡ tile_after t (op ∷ []) before
    → new ≡ tile_after t (ops ++ op ∷ []) start
tile_more t ops op start before new first then =
    is_tile_after t (ops ++ op ∷ []) start new
    (ap length then ∙ length-tile_after t (op ∷ []) before)
    (λ x y in_x in_y.
    ap (λ (ps : List Channels). pixel_at 64 ps x y) then
    ∙ pixel-tile_after t (op ∷ []) before x y in_x in_y
    ∙ ap (op_at t op x y) (ap (λ (ps : List Channels). pixel_at 64 ps x y) first
    ∙ pixel-tile_after t ops start x y in_x in_y)
    ∙ sym (ops_more t ops op x y (pixel_at 64 start x y)))

-- operations of which the first ones were done
module _ (t : OnTile) (ops : List TileOp) (k : ℕ) (op : TileOp) (inside : k < length ops)
    (is : op ≡ get_or ops k op) where
  pub take_op : take k ops ++ op ∷ [] ≡ take (k + 1) ops
  take_op = sym (take_more ops k op inside ∙ ap (λ (o : TileOp). take k ops ++ o ∷ []) (sym is))

  -- one of them more at a place
  pub ops_next : (x y : ℕ) (p : Channels)
      → op_at t op x y (ops_at t (take k ops) x y p) ≡ ops_at t (take (k + 1) ops) x y p
  ops_next x y p =
      sym (ops_more t (take k ops) op x y p) ∙ ap (λ (l : List TileOp). ops_at t l x y p) take_op

  -- one of them more on a tile
  pub tile_next : (start before new : List Channels) → before ≡ tile_after t (take k ops) start
      → new ≡ tile_after t (op ∷ []) before → new ≡ tile_after t (take (k + 1) ops) start
  tile_next start before new first then =
      tile_more t (take k ops) op start before new first then
      ∙ ap (λ (l : List TileOp). tile_after t l start) take_op

-- a tile of a colour on which nothing waits
pub shows_none : (t : OnTile) (ops : List TileOp) (color : Channels) (cell : List Channels)
    → ops ≡ [] → cell ≡ tile_of color → tile_of color ≡ tile_after t ops cell
shows_none t ops color cell none is =
    none_after t (tile_of color) (length-tile_of color)
    ∙ (rw (none, is) refl)

-- a tile of a colour that operations make of another one
pub tile_becomes : (t : OnTile) (ops : List TileOp) (p q : Channels) (pixels : List Channels)
    → ((x y : ℕ) → x < 64 → y < 64 → ops_at t ops x y p ≡ q) → pixels ≡ tile_of p
    → tile_after t ops pixels ≡ tile_of q
tile_becomes t ops p q pixels each is =
    sym (is_tile_after t ops pixels (tile_of q) (length-tile_of q)
    (λ x y in_x in_y.
    let old : pixel_at 64 pixels x y ≡ p =
    ap (λ (ps : List Channels). pixel_at 64 ps x y) is
    ∙ pixel-tile_of p (y * 64 + x) (omega (arith, in_x, in_y)) in
    pixel-tile_of q (y * 64 + x) (omega (arith, in_x, in_y))
    ∙ sym (ap (ops_at t ops x y) old ∙ each x y in_x in_y)))

-- a tile of a colour of which the first operations make one of another colour: the others are left
pub tile_rest : (t : OnTile) (ops : List TileOp) (n : ℕ) (p q : Channels)
    → ((x y : ℕ) → x < 64 → y < 64 → ops_at t (take n ops) x y p ≡ q)
    → tile_after t (drop n ops) (tile_of q) ≡ tile_after t ops (tile_of p)
tile_rest t ops n p q each =
    let left = drop n ops in
    is_tile_after t ops (tile_of p) (tile_after t left (tile_of q))
    (length-tile_after t left (tile_of q))
    (λ x y in_x in_y.
    let old = pixel_at 64 (tile_of p) x y in
    let is_old : old ≡ p = pixel-tile_of p (y * 64 + x) (omega (arith, in_x, in_y)) in
    let is_new : pixel_at 64 (tile_of q) x y ≡ ops_at t (take n ops) x y old =
    pixel-tile_of q (y * 64 + x) (omega (arith, in_x, in_y))
    ∙ sym (ap (ops_at t (take n ops) x y) is_old ∙ each x y in_x in_y) in
    pixel-tile_after t left (tile_of q) x y in_x in_y
    ∙ ap (ops_at t left x y) is_new
    ∙ sym (fold-append (λ (under : Channels) (o : TileOp). op_at t o x y under) old (take n ops)
    left)
    ∙ ap (λ (l : List TileOp). ops_at t l x y old) (take-append-drop n ops))

-- a tile of a colour of which all operations make one of another colour
pub all_after : (t : OnTile) (ops : List TileOp) (n : ℕ) (p q : Channels) → length ops ≤ n
    → ((x y : ℕ) → x < 64 → y < 64 → ops_at t (take n ops) x y p ≡ q)
    → (x y : ℕ) → x < 64 → y < 64 → ops_at t ops x y p ≡ q
all_after t ops n p q all each x y in_x in_y =
    ap (λ (l : List TileOp). ops_at t l x y p) (sym (take_all n ops all)) ∙ each x y in_x in_y

-- ---- the part of a fill on a tile

-- a column and a row are among those that are filled
pub record IsFilled (f : TileFill) (x y : ℕ) : Type 0 where
  pub left : f.left ≤ x
  pub right : x < f.right
  pub top : f.top ≤ y
  pub bottom : y < f.bottom

pub fill_facts : (f : TileFill) (x y : ℕ) → is_in_fill f x y ≡ true → IsFilled f x y
fill_facts f x y t =
    let a = and_parts (leb f.left x && ltb x f.right && leb f.top y) (ltb y f.bottom) t in
    let b = and_parts (leb f.left x && ltb x f.right) (leb f.top y) a.0 in
    let c = and_parts (leb f.left x) (ltb x f.right) b.0 in
    record {
      left = leb-true f.left x c.0;
      right = ltb-true x f.right c.1;
      top = leb-true f.top y b.1;
      bottom = ltb-true y f.bottom a.1;
    }

pub fill_by : (f : TileFill) (x y : ℕ) → IsFilled f x y → is_in_fill f x y ≡ true
fill_by f x y is =
    rw (
      le-leb f.left x is.left,
      lt-ltb x f.right is.right,
      le-leb f.top y is.top,
      lt-ltb y f.bottom is.bottom,
    ) refl

-- ---- dabs

-- a tile on which a dab was drawn
pub dab_drawn : (t : OnTile) (d : TileDab) (region : Region) (shape : Shape) (mode : Mode)
    (color : Channels)
    (old new : List Channels) → region.x ≡ 0 → region.y ≡ 0 → region.width ≡ 64
    → region.height ≡ 64 → region.canvas_width ≡ 64 → region.canvas_height ≡ 64
    → shape ≡ d.shape → mode ≡ d.mode → color ≡ of_argb d.color → length old ≡ 4096
    → IsPainted region 64 (on_canvas region (dab_blended shape mode color (dab_in_tile d))) old new
    → new ≡ tile_after t (Dab d ∷ []) old
dab_drawn t d region shape mode color old new at_x at_y wide high cw ch by_shape by_mode by_color
    count is =
    is_tile_after t (Dab d ∷ []) old new (is.len ∙ count)
    (λ x y in_x in_y.
    let here : is_in (canvas_rect 64 64) (pos x) (pos y) ≡ true =
    is_in_by (canvas_rect 64 64) (pos x) (pos y) (record {
      x0 = omega (arith, ints);
      x1 = omega (arith, ints);
      y0 = omega (arith, ints);
      y1 = omega (arith, ints);
    }) in
    let no_x : 0 + x ≡ x = omega arith in
    let no_y : 0 + y ≡ y = omega arith in
    is.inside x y clear (omega (arith, wide, in_x)) (omega (arith, high, in_y))
    ∙ (rw (at_x, at_y, cw, ch, by_shape, by_mode, by_color, no_x, no_y, here) refl))

-- a pixel on which a dab was drawn
pub dab_pixel : (d : TileDab) (region : Region) (shape : Shape) (mode : Mode) (color : Channels)
    (x y : ℕ) (old : Channels) (new : List Channels) (d0 : Channels) → region.x ≡ x → region.y ≡ y
    → region.width ≡ 1 → region.height ≡ 1 → region.canvas_width ≡ 64
    → region.canvas_height ≡ 64 → shape ≡ d.shape → mode ≡ d.mode → color ≡ of_argb d.color
    → x < 64 → y < 64
    → IsPainted region 1 (on_canvas region (dab_blended shape mode color (dab_in_tile d)))
    (old ∷ []) new
    → get_or new 0 d0 ≡ dab_at d x y old
dab_pixel d region shape mode color x y old new d0 at_x at_y wide high cw ch by_shape by_mode
    by_color in_x in_y is =
    let here : is_in (canvas_rect 64 64) (pos x) (pos y) ≡ true =
    is_in_by (canvas_rect 64 64) (pos x) (pos y) (record {
      x0 = omega (arith, ints);
      x1 = omega (arith, ints);
      y0 = omega (arith, ints);
      y1 = omega (arith, ints);
    }) in
    let no_x : x + 0 ≡ x = omega arith in
    let no_y : y + 0 ≡ y = omega arith in
    is.inside 0 0 d0 (omega (arith, wide)) (omega (arith, high))
    ∙ (rw (at_x, at_y, cw, ch, by_shape, by_mode, by_color, no_x, no_y, here) refl)

-- ---- packing

modes_coded : (m : Mode) → mode_coded (code_of m) ≡ m
modes_coded modes.Erase = refl
modes_coded modes.Normal = refl
modes_coded modes.Multiply = refl
modes_coded modes.Add = refl
modes_coded modes.Recolor = refl
modes_coded modes.Replace = refl

shapes_coded : (s : Shape) → shape_coded (shape_code s) ≡ s
shapes_coded shapes.Round = refl
shapes_coded shapes.Square = refl

-- the numbers of a dab
pub is_packed_dab : (low high : ℕ) → 2147483648 ≤ high → high < 3221225472
    → packed_op low high ≡ packed_dab low (high - 2147483648)
is_packed_dab low high big below =
    let dab = packed_dab low (high - 2147483648) in
    cond-false (ltb high 2147483648) (packed_fill low high)
    (cond (ltb high 3221225472) dab (Command low))
    (false_from_ne_true (ltb high 2147483648)
    (λ t. absurd (omega (arith, ltb-true high 2147483648 t, big))))
    ∙ cond-true (ltb high 3221225472) dab (Command low) (lt-ltb high 3221225472 below)

-- the numbers of a command
pub is_packed_command : (low high : ℕ) → 3221225472 ≤ high → packed_op low high ≡ Command low
is_packed_command low high big =
    let dab = packed_dab low (high - 2147483648) in
    cond-false (ltb high 2147483648) (packed_fill low high)
    (cond (ltb high 3221225472) dab (Command low))
    (false_from_ne_true (ltb high 2147483648)
    (λ t. absurd (omega (arith, ltb-true high 2147483648 t, big))))
    ∙ cond-false (ltb high 3221225472) dab (Command low)
    (false_from_ne_true (ltb high 3221225472)
    (λ t. absurd (omega (arith, ltb-true high 3221225472 t, big))))

pub dab_packed : (d : TileDab) (low high x y shape mode : ℕ) → pos x ≡ d.x +ℤ pos 256 → x < 512
    → pos y ≡ d.y +ℤ pos 256 → y < 512 → d.size < 256 → d.opacity < 256
    → shape ≡ shape_code d.shape → shape < 2 → mode ≡ code_of d.mode → mode < 8
    → d.color / 16777216 ≡ 255 → low ≡ d.color % 16777216 + d.opacity * 16777216
    → high ≡ x + y * 512 + d.size * 262144 + shape * 67108864 + mode * 134217728 + 2147483648
    → packed_op low high ≡ Dab d
dab_packed d low high x y shape mode at_x few_x at_y few_y size opacity shaped few_shapes coded
    few_modes opaque color is =
    let big : 2147483648 ≤ high = omega (arith, is) in
    let h = high - 2147483648 in
    let rest : h ≡ x + y * 512 + d.size * 262144 + shape * 67108864 + mode * 134217728 =
    omega (arith, is) in
    let mod_x : h % 512 ≡ x = omega (arith, rest, few_x) in
    let mod_y : h / 512 % 512 ≡ y = omega (arith, rest, few_x, few_y) in
    let by_x : pos x -ℤ pos 256 ≡ d.x = omega (arith, ints, at_x) in
    let by_y : pos y -ℤ pos 256 ≡ d.y = omega (arith, ints, at_y) in
    let by_size : h / 262144 % 256 ≡ d.size = omega (arith, rest, few_x, few_y, size) in
    let by_opacity : low / 16777216 ≡ d.opacity = omega (arith, color) in
    let by_shape : h / 67108864 % 2 ≡ shape_code d.shape =
    omega (arith, rest, few_x, few_y, size, few_shapes, shaped) in
    let by_mode : h / 134217728 ≡ code_of d.mode =
    omega (arith, rest, few_x, few_y, size, few_shapes, coded) in
    let by_color : low % 16777216 + 4278190080 ≡ d.color = omega (arith, color, opaque) in
    let below : high < 3221225472 =
    omega (arith, is, few_x, few_y, size, few_shapes, few_modes) in
    is_packed_dab low high big below
    ∙ (rw (
      mod_x,
      mod_y,
      by_x,
      by_y,
      by_size,
      by_opacity,
      by_shape,
      by_mode,
      by_color,
      shapes_coded d.shape,
      modes_coded d.mode,
    ) refl)

-- ---- tiles of a colour

-- pixels that are all replaced by one colour
pub all_replaced : (p : Channels) (pixels : List Channels)
    → row_filled modes.Replace p pixels ≡ replicate (length pixels) p
all_replaced p [] = refl
all_replaced p (q ∷ pixels) = ap (λ (l : List Channels). p ∷ l) (all_replaced p pixels)

-- a tile whose pixels are all replaced
pub tile_replaced : (p : Channels) (old new : List Channels) → length old ≡ 4096
    → new ≡ row_filled modes.Replace p old → new ≡ tile_of p
unfolding tile_of
tile_replaced p old new count is =
    is ∙ all_replaced p old ∙ ap (λ (n : ℕ). replicate n p) count

-- ---- rows that are filled

-- rows of a tile, filled from a column on before another, are what the fill makes of the tile
module _ (t : OnTile) (f : TileFill) (left right top bottom : ℕ) (old part : List Channels)
    (at_left : left ≡ f.left) (at_right : right ≡ min f.right 64) (at_top : top ≡ f.top)
    (at_bottom : bottom ≡ min f.bottom 64) (order : top < bottom) (count : length old ≡ 4096)
    (long : length part ≡ bottom * 64 - top * 64)
    (each : (k : ℕ) (d : Channels) → k < bottom * 64 - top * 64 → get_or part k d
    ≡ cond (leb left (k % 64) && ltb (k % 64) right)
    (blend f.mode (of_argb f.color) (get_or old (top * 64 + k) d)) (get_or old (top * 64 + k) d))
  where
    abbrev new : List Channels
    new = with_part (top * 64) (bottom * 64) old part

    rising : top * 64 ≤ bottom * 64
    rising = omega (arith, order)

    fits : bottom * 64 ≤ length old
    fits = omega (arith, at_bottom, count)

    -- a pixel in the rows
    in_rows : (x y : ℕ) → x < 64 → top ≤ y → y < bottom → get_or new (y * 64 + x) clear
        ≡ cond (leb left x && ltb x right)
        (blend f.mode (of_argb f.color) (get_or old (y * 64 + x) clear))
        (get_or old (y * 64 + x) clear)
    in_rows x y in_x from_top to_bottom =
        let k = y * 64 + x - top * 64 in
        let at_x : k % 64 ≡ x = omega (arith, in_x, from_top) in
        let place : top * 64 + k ≡ y * 64 + x = omega (arith, from_top) in
        get_or-inside (top * 64) (bottom * 64) old rising fits part long (y * 64 + x) clear
        (omega (arith, from_top)) (omega (arith, to_bottom, in_x))
        ∙ each k clear (omega (arith, from_top, to_bottom, in_x))
        ∙ (rw (at_x, place) refl)

    -- a pixel that is filled
    is_filled : (x y : ℕ) → x < 64 → y < 64 → is_in_fill f x y ≡ true
        → get_or new (y * 64 + x) clear ≡ fill_at f x y (get_or old (y * 64 + x) clear)
    is_filled x y in_x in_y inside =
        let is = fill_facts f x y inside in
        in_rows x y in_x (omega (arith, at_top, is.top)) (omega (arith, at_bottom, in_y, is.bottom))
        ∙ (rw (
          le-leb left x (omega (arith, at_left, is.left)),
          lt-ltb x right (omega (arith, at_right, in_x, is.right)),
          inside,
        ) refl)

    -- a pixel that stays
    is_kept : (x y : ℕ) → x < 64 → y < 64 → is_in_fill f x y ≡ false
        → get_or new (y * 64 + x) clear ≡ get_or old (y * 64 + x) clear
    is_kept x y in_x in_y out =
        ⊎_elim (λ above.
        get_or-before (top * 64) (bottom * 64) old rising fits part long (y * 64 + x) clear
        (omega (arith, above, in_x)))
        (λ from_top. ⊎_elim (λ to_bottom.
        in_rows x y in_x from_top to_bottom
        ∙ cond-false (leb left x && ltb x right)
        (blend f.mode (of_argb f.color) (get_or old (y * 64 + x) clear))
        (get_or old (y * 64 + x) clear)
        (false_from_ne_true (leb left x && ltb x right) (λ both.
        let across = and_parts (leb left x) (ltb x right) both in
        let from_left = leb-true left x across.0 in
        let to_right = ltb-true x right across.1 in
        false≢true (sym out ∙ fill_by f x y (record {
          left = omega (arith, at_left, from_left);
          right = omega (arith, at_right, to_right);
          top = omega (arith, at_top, from_top);
          bottom = omega (arith, at_bottom, to_bottom);
        })))))
        (λ below.
        get_or-after (top * 64) (bottom * 64) old rising fits part long (y * 64 + x) clear
        (omega (arith, below)))
        (cases_lt y bottom))
        (cases_lt y top)

    pub rows_filled : new ≡ tile_after t (Fill f ∷ []) old
    rows_filled =
        is_tile_after t (Fill f ∷ []) old new
        (length-with_part (top * 64) (bottom * 64) old rising fits part long ∙ count)
        (λ x y in_x in_y.
        ⊎_elim (is_filled x y in_x in_y)
        (λ out. is_kept x y in_x in_y out ∙ (rw out refl))
        (cases_Bool (is_in_fill f x y)))

-- a fill without a column or a row keeps the tile
pub none_filled : (t : OnTile) (f : TileFill) (old : List Channels) → length old ≡ 4096
    → (min f.right 64 ≤ f.left) ⊎ (min f.bottom 64 ≤ f.top) → old ≡ tile_after t (Fill f ∷ []) old
none_filled t f old count none =
    is_tile_after t (Fill f ∷ []) old old count
    (λ x y in_x in_y.
    let out : is_in_fill f x y ≡ false = false_from_ne_true (is_in_fill f x y) (λ inside.
    let is = fill_facts f x y inside in
    let a = is.left in
    let b = is.right in
    let c = is.top in
    let d = is.bottom in
    ⊎_elim (λ narrow. absurd (omega (arith, narrow, a, b, in_x)))
    (λ low. absurd (omega (arith, low, c, d, in_y))) none) in
    rw out refl)

-- what is known to be none
pub known_none : {X : Type 0} (xs : List X) (empty : Bool) → empty ≡ (length xs == 0)
    → empty ≡ true → xs ≡ []
known_none xs empty is told = nil_from_length xs (eqb-true (length xs) 0 (sym is ∙ told))
