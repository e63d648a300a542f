-- Tests of each pixel of a row, of a canvas and of a tile.
use Rattle.std.proofs.Common.{◌≡◌, ◌==◌, ℕ, zero, suc, ◌+◌, ◌*◌, ◌-◌, ◌<◌, ◌≤◌, Bool, true}
use Rattle.std.proofs.Common.{◌&&◌, List, length, get_or, take, drop, map, refl, ap, sym, ◌∙◌}
use Rattle.std.proofs.Common.{subst, eq-eqb, arith}
use Rattle.std.specs.List.{list_all, flat_map, range_with_len}
use Rattle.std.proofs.lemmas.Bool.{and_parts, eqb-true}
use Rattle.std.proofs.lemmas.Nat.{mul-add-lt}
use Rattle.std.proofs.lemmas.List.{length-take, length-drop, get_or-take, get_or-drop, get_or-map}
use Rattle.std.proofs.lemmas.List.{length-map, get_or_default}
use Rattle.std.proofs.lemmas.List.Folds.{list_all-append, list_all-map}
use Rattle.std.proofs.lemmas.List.FromFn.{fill_by_all, length-range_with_len, get_or-range_with_len}
use Rattle.std.proofs.lemmas.List.FromFn.{length-map-range_with_len, get_or-map-range_with_len}
use Rattle.std.proofs.lemmas.List.Sums.{AllPass-from_list_all, list_all-from_AllPass}
use Rattle.dp_blend.specs.Color.{Channels, clear}
use Rattle.dp_blend.specs.Canvas.{below, canvas_of, pixel_at}
use Rattle.dp_blend.proofs.Canvas.{length-canvas_of, get_or-canvas_of}
use Rattle.dp_msg_draw.specs.declared.lists.TilePixel.{TilePixel}
use Rattle.dp_msg_draw.specs.Payloads.{AreAllEqual}
use Rattle.dp_snap.specs.Tiles.{is_same, tile_pixel, on_canvas}

-- ---- one pixel

pub equal_is_same : (p q : Channels) → p ≡ q → is_same p q ≡ true
equal_is_same p q is =
    rw (eq-eqb p.r q.r (cc), eq-eqb p.g q.g (cc), eq-eqb p.b q.b (cc), eq-eqb p.a q.a (cc)) refl

abbrev channels : ℕ → ℕ → ℕ → ℕ → Channels
channels r g b a = record { r = r; g = g; b = b; a = a }

pub same_is_equal : (p q : Channels) → is_same p q ≡ true → p ≡ q
same_is_equal p q same =
    let three = and_parts (p.r == q.r && p.g == q.g && p.b == q.b) (p.a == q.a) same in
    let two = and_parts (p.r == q.r && p.g == q.g) (p.b == q.b) three.0 in
    let one = and_parts (p.r == q.r) (p.g == q.g) two.0 in
    let r = eqb-true p.r q.r one.0 in
    let g = eqb-true p.g q.g one.1 in
    let b = eqb-true p.b q.b two.1 in
    let a = eqb-true p.a q.a three.1 in
    let made : channels p.r p.g p.b p.a ≡ channels q.r q.g q.b q.a = cc in
    made

pub tile_pixel-one : (p q : Channels) → tile_pixel p ≡ tile_pixel q → p ≡ q
tile_pixel-one p q is =
    ap (λ (t : TilePixel). let c : Channels = record { r = t.r; g = t.g; b = t.b; a = t.a } in c) is

-- ---- a row and a canvas

module _ (p : Channels → Bool) where
  pub row_passes : (w : ℕ) (f : ℕ → Channels) → ((x : ℕ) → x < w → p (f x) ≡ true)
      → list_all p (map f (below w)) ≡ true
  row_passes w f each =
      list_all-map p f (below w)
      ∙ list_all-from_AllPass (λ x. p (f x)) (below w) (λ k d in_list.
      let in_row : k < w = omega (arith, length-range_with_len 0 w) in
      let at : 0 + k ≡ k = omega arith in
      subst (λ x. p (f x) ≡ true) (sym (get_or-range_with_len 0 w k d in_row ∙ at)) (each k in_row))

  pub row_at : (w : ℕ) (f : ℕ → Channels) → list_all p (map f (below w)) ≡ true → (x : ℕ) → x < w
      → p (f x) ≡ true
  row_at w f pass x in_row =
      let each = AllPass-from_list_all p (map f (below w)) pass in
      subst (λ q. p q ≡ true) (get_or-map-range_with_len f 0 w x x clear in_row (omega arith))
      (each x clear (omega (arith, length-map-range_with_len f 0 w)))

  rows_pass : (w a n : ℕ) (f : ℕ → ℕ → Channels)
      → ((x y : ℕ) → x < w → a ≤ y → y < a + n → p (f x y) ≡ true)
      → list_all p (flat_map (λ y. map (λ x. f x y) (below w)) (range_with_len a n)) ≡ true
  rows_pass w a zero f each = refl
  rows_pass w a (suc n) f each =
      let rest = flat_map (λ y. map (λ x. f x y) (below w)) (range_with_len (a + 1) n) in
      list_all-append p (map (λ x. f x a) (below w)) rest
      ∙ rw (
        row_passes w (λ x. f x a) (λ x in_row. each x a in_row (omega arith) (omega arith)),
        rows_pass w (a + 1) n f
            (λ x y in_row low high. each x y in_row (omega arith) (omega arith)),
      )
      refl

  pub canvas_passes : (w h : ℕ) (f : ℕ → ℕ → Channels)
      → ((x y : ℕ) → x < w → y < h → p (f x y) ≡ true) → list_all p (canvas_of w h f) ≡ true
  canvas_passes w h f each =
      rows_pass w 0 h f (λ x y in_x low high. each x y in_x (omega arith))

  pub canvas_at : (w h : ℕ) (f : ℕ → ℕ → Channels) → list_all p (canvas_of w h f) ≡ true
      → (x y : ℕ) → x < w → y < h → p (f x y) ≡ true
  canvas_at w h f pass x y in_x in_y =
      let each = AllPass-from_list_all p (canvas_of w h f) pass in
      subst (λ q. p q ≡ true) (get_or-canvas_of w h f x y clear in_x in_y)
      (each (y * w + x) clear
      (omega (arith, length-canvas_of w h f, mul-add-lt y w x h in_y in_x)))

-- ---- a tile

-- the first pixels of a row of a tile, as they stand in the list
pub row_of_tile : (tile : List Channels) (y n : ℕ) → y * 64 + n ≤ length tile
    → take (y * 64 + n - y * 64) (drop (y * 64) tile)
    ≡ map (λ x. pixel_at 64 tile x y) (below n)
row_of_tile tile y n in_tile =
    let count : y * 64 + n - y * 64 ≡ n = omega arith in
    let rest : length (drop (y * 64) tile) ≡ length tile - y * 64 = length-drop (y * 64) tile in
    let len : length (take n (drop (y * 64) tile)) ≡ n = omega
    (arith, length-take n (drop (y * 64) tile)) in
    rw count (fill_by_all (λ x. pixel_at 64 tile x y) (take n (drop (y * 64) tile)) n clear len
    (λ x in_row. get_or-take n (drop (y * 64) tile) x clear in_row
    ∙ get_or-drop (y * 64) tile x clear))

-- if the pixels of a message are all equal, so are those of the tile
pub equal_tile : (tile : List Channels) (corner : Channels) (cols rows : ℕ) → length tile ≡ 4096
    → corner ≡ get_or tile 0 corner → cols ≤ 64 → rows ≤ 64
    → AreAllEqual (map tile_pixel tile)
    → list_all (is_same corner) (on_canvas cols rows tile) ≡ true
equal_tile tile corner cols rows whole first in_cols in_rows equal =
    let pixel = λ (k : ℕ). λ (inside : k < length tile).
    sym (get_or-map tile_pixel tile k clear (tile_pixel clear) inside)
    ∙ equal.1 k (tile_pixel clear) (omega (arith, length-map tile tile_pixel)) in
    let one : tile_pixel (get_or tile 0 clear) ≡ equal.0 = pixel 0 (omega arith) in
    let corner_is : get_or tile 0 clear ≡ corner =
    get_or_default tile 0 clear corner (omega arith) ∙ sym first in
    canvas_passes (is_same corner) cols rows (pixel_at 64 tile) (λ x y in_x in_y.
    equal_is_same corner (pixel_at 64 tile x y)
    (sym corner_is ∙ tile_pixel-one (get_or tile 0 clear) (pixel_at 64 tile x y)
    (one ∙ sym (pixel (y * 64 + x) (omega arith)))))
