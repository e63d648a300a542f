-- A canvas by its places: its length, the pixel at a place, and what lists of its length are equal
-- to it.
use Rattle.std.proofs.Common.{◌≡◌, ℕ, ◌+◌, ◌*◌, ◌/◌, ◌%◌, ◌<◌, List, length, get_or, map, suc, zero}
use Rattle.std.proofs.Common.{sym, ◌∙◌, arith, length-append}
use Rattle.std.proofs.lemmas.List.{ext_get_or, get_or_append_left, get_or-append-add}
use Rattle.std.proofs.lemmas.List.FromFn.{length-map-range_with_len, get_or-map-range_with_len}
use Rattle.std.proofs.lemmas.Nat.{div-add-mod', div_below, mod_below}
use Rattle.std.proofs.Math.Nat.{mul_comm}
use Rattle.std.specs.List.{range_with_len, flat_map}
use Rattle.dp_blend.specs.Color.{Channels, clear}
use Rattle.dp_blend.specs.Canvas.{below, canvas_of, pixel_at}

-- ---- pieces of one length, joined

length-pieces : {X : Type 0} (piece : ℕ → List X) (w a n : ℕ) → ((y : ℕ) → length (piece y) ≡ w)
    → length (flat_map piece (range_with_len a n)) ≡ n * w
length-pieces piece w a zero same = omega arith
length-pieces piece w a (suc n) same =
    let rest = length-pieces piece w (a + 1) n same in
    let here = same a in
    omega (arith, rest, here, length-append (piece a) (flat_map piece (range_with_len (a + 1) n)))

get_or-pieces : {X : Type 0} (piece : ℕ → List X) (w a n y x : ℕ) (d : X)
    → ((y : ℕ) → length (piece y) ≡ w) → y < n → x < w
    → get_or (flat_map piece (range_with_len a n)) (y * w + x) d ≡ get_or (piece (a + y)) x d
get_or-pieces piece w a zero y x d same in_y in_x = absurd (omega arith)
get_or-pieces piece w a (suc n) zero x d same in_y in_x =
    let prefix = get_or_append_left (piece a) (flat_map piece (range_with_len (a + 1) n)) d x
    (omega (arith, same a)) in
    let at_start : zero * w + x ≡ x = omega arith in
    let first : a + zero ≡ a = omega arith in
    rw (at_start, first) prefix
get_or-pieces piece w a (suc n) (suc y) x d same in_y in_x =
    let rest = get_or-pieces piece w (a + 1) n y x d same (omega arith) in_x in
    let past = get_or-append-add (piece a) (flat_map piece (range_with_len (a + 1) n)) (y * w + x) d
    in
    let place : suc y * w + x ≡ length (piece a) + (y * w + x) = omega (arith, same a) in
    let later : a + suc y ≡ a + 1 + y = omega arith in
    rw (place, later) (past ∙ rest)

-- ---- canvases

-- a canvas has a pixel for each place
pub length-canvas_of : (w h : ℕ) (f : ℕ → ℕ → Channels) → length (canvas_of w h f) ≡ w * h
length-canvas_of w h f =
    length-pieces (λ y. map (λ x. f x y) (below w)) w 0 h
    (λ y. length-map-range_with_len (λ x. f x y) 0 w) ∙ mul_comm h w

-- the pixel at a place of a canvas
pub get_or-canvas_of : (w h : ℕ) (f : ℕ → ℕ → Channels) (x y : ℕ) (d : Channels) → x < w → y < h
    → get_or (canvas_of w h f) (y * w + x) d ≡ f x y
get_or-canvas_of w h f x y d in_x in_y =
    get_or-pieces (λ y. map (λ x. f x y) (below w)) w 0 h y x d
    (λ y. length-map-range_with_len (λ x. f x y) 0 w) in_y in_x
    ∙ (let same_row : 0 + y ≡ y = omega arith in
    rw same_row (get_or-map-range_with_len (λ x. f x y) 0 w x x d in_x (omega arith)))

pub pixel_at-canvas_of : (w h : ℕ) (f : ℕ → ℕ → Channels) (x y : ℕ) → x < w → y < h
    → pixel_at w (canvas_of w h f) x y ≡ f x y
pixel_at-canvas_of w h f x y in_x in_y = get_or-canvas_of w h f x y clear in_x in_y

-- lists that have the same pixel at each place of a canvas have it at each index
same_at : (w h : ℕ) (ps qs : List Channels) (i : ℕ) → i < w * h
    → ((x y : ℕ) → x < w → y < h → pixel_at w ps x y ≡ pixel_at w qs x y)
    → get_or ps i clear ≡ get_or qs i clear
same_at zero h ps qs i in_list same = absurd (omega arith)
same_at (suc v) h ps qs i in_list same =
    let place : i / suc v * suc v + i % suc v ≡ i = div-add-mod' i (suc v) in
    let in_x : i % suc v < suc v = mod_below i (suc v) (omega arith) in
    let in_y : i / suc v < h = div_below i (suc v) h (omega arith) (rw (mul_comm h (suc v)) in_list)
    in
    rw place at (same (i % suc v) (i / suc v) in_x in_y)

-- two lists of a canvas's length that have the same pixel at each place are equal
pub same_canvas : (w h : ℕ) (ps qs : List Channels) → length ps ≡ w * h → length qs ≡ w * h
    → ((x y : ℕ) → x < w → y < h → pixel_at w ps x y ≡ pixel_at w qs x y) → ps ≡ qs
same_canvas w h ps qs ps_len qs_len same =
    ext_get_or clear ps qs (ps_len ∙ sym qs_len) (λ i in_list.
    same_at w h ps qs i (omega arith) same)

-- a list of a canvas's length that has pixel f x y at each place is the canvas of f
pub is_canvas_of : (w h : ℕ) (f : ℕ → ℕ → Channels) (ps : List Channels) → length ps ≡ w * h
    → ((x y : ℕ) → x < w → y < h → pixel_at w ps x y ≡ f x y) → ps ≡ canvas_of w h f
is_canvas_of w h f ps ps_len same =
    same_canvas w h ps (canvas_of w h f) ps_len (length-canvas_of w h f)
    (λ x y in_x in_y. same x y in_x in_y ∙ sym (pixel_at-canvas_of w h f x y in_x in_y))

-- canvases whose pixels are the same at each place are equal
pub canvas_of-same : (w h : ℕ) (f g : ℕ → ℕ → Channels) →
    ((x y : ℕ) → x < w → y < h → f x y ≡ g x y) → canvas_of w h f ≡ canvas_of w h g
canvas_of-same w h f g same =
    is_canvas_of w h g (canvas_of w h f) (length-canvas_of w h f)
    (λ x y in_x in_y. pixel_at-canvas_of w h f x y in_x in_y ∙ same x y in_x in_y)
