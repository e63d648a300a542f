-- The dabs of a message, one after the other.
use Rattle.std.proofs.Common.{◌≡◌, ℕ, ◌+◌, ◌*◌, ◌^◌, ◌<◌, ◌≤◌, List, [], ◌∷◌, ◌++◌, length, get_or}
use Rattle.std.proofs.Common.{take, map, fold, cond, Bool, true, false, refl, arith, ap, ◌∙◌, sym}
use Rattle.std.specs.Prelude.{ℤ, pos, ◌+ℤ◌, unsigned_abs}
use Rattle.std.specs.List.{enumerate_from, list_any}
use Rattle.std.proofs.lemmas.Int.{ints}
use Rattle.std.proofs.lemmas.List.{map_more, get_or-map, length-map, map-append, take_more}
use Rattle.std.proofs.lemmas.List.FromFn.{length-enumerate_from, get_or-enumerate_from}
use Rattle.std.proofs.lemmas.List.Sums.{fold_push, fold_more}
use Rattle.dp_blend.specs.Color.{Channels}
use Rattle.dp_blend.specs.declared.modes.Mode.{Mode}
use Rattle.dp_msg_draw.specs.declared.lists.Dab.{Dab}
use Rattle.dp_pixels.specs.declared.rect.Place.{Place}
use Rattle.dp_pixels.specs.declared.dabs.PlacedDab.{PlacedDab}
use Rattle.dp_pixels.specs.declared.dabs.Shape.{Shape}
use Rattle.dp_pixels.specs.declared.region.Region.{Region}
use Rattle.dp_pixels.specs.Rectangles.{is_in, canvas_rect}
use Rattle.dp_msg_draw.specs.declared.draw.Draw.{Draw}
use Rattle.dp_msg_draw.specs.declared.draw.Draw.TheVariants.{DabsRound, DabsSquare}
use Rattle.dp_pixels.specs.Commands.{IsDabs, dab_blended, dabs_blended, pixel_after, pixel_drawn}
use Rattle.dp_pixels.specs.Commands.{stroked}
use Rattle.dp_pixels.specs.Regions.{IsPainted, on_canvas}
use Rattle.dp_pixels.proofs.Regions.{painted_same, painted_then}
use Rattle.dp_pixels.specs.Near.{IsPlaceNear}
use Rattle.dp_pixels.specs.Dabs.{dab_covers, int_sum, placed_dabs}

-- the sum of the numbers of the first dabs
abbrev sum_of : (Dab → ℤ) → List Dab → ℕ → ℤ
sum_of f dabs k = int_sum (map f (take k dabs))

-- how many dabs there are
pub length-placed_dabs : (x y : ℤ) (dabs : List Dab) → length (placed_dabs x y dabs) ≡ length dabs
length-placed_dabs x y dabs = length-map (enumerate_from 0 dabs) _ ∙ length-enumerate_from 0 dabs

-- what stands for a dab past the end of a list
abbrev pub no_dab : Dab
no_dab = record { dx = pos 0; dy = pos 0; size = 0; opacity = 0 }

-- the dab at a place
abbrev pub put : ℤ → ℤ → Dab → PlacedDab
put x y dab = record { at = record { x = x; y = y }; size = dab.size; opacity = dab.opacity }

-- the dab after a place
abbrev pub placed_after : Place → Dab → PlacedDab
placed_after last dab = put (last.x +ℤ dab.dx) (last.y +ℤ dab.dy) dab

-- the dab at an index stands at the sums of the differences up to it
get_or-placed_dabs : (left top : ℤ) (dabs : List Dab) (k : ℕ) (d : PlacedDab) → k < length dabs
    → get_or (placed_dabs left top dabs) k d
    ≡ put (left +ℤ sum_of (λ (e : Dab). e.dx) dabs (k + 1))
    (top +ℤ sum_of (λ (e : Dab). e.dy) dabs (k + 1)) (get_or dabs k no_dab)
get_or-placed_dabs left top dabs k d within =
    let place = λ (entry : ℕ × Dab).
    put (left +ℤ sum_of (λ (e : Dab). e.dx) dabs (entry.0 + 1))
    (top +ℤ sum_of (λ (e : Dab). e.dy) dabs (entry.0 + 1)) entry.1 in
    let short : k < length (enumerate_from 0 dabs) = omega (arith, length-enumerate_from 0 dabs) in
    let here : 0 + k ≡ k = omega arith in
    get_or-map place (enumerate_from 0 dabs) k (0, no_dab) d short
    ∙ ap place (get_or-enumerate_from 0 dabs k (0, no_dab) within
    ∙ ap (λ (n : ℕ). (n, get_or dabs k no_dab)) here)

-- the sum of one number more
sum_of-more : (f : Dab → ℤ) (dabs : List Dab) (k : ℕ) → k < length dabs
    → sum_of f dabs (k + 1) ≡ sum_of f dabs k +ℤ f (get_or dabs k no_dab)
sum_of-more f dabs k within =
    ap int_sum (map_more f dabs k no_dab within) ∙ fold_push ◌+ℤ◌ (pos 0) (map f (take k dabs))
    (f (get_or dabs k no_dab))

-- the place of the last of the first k dabs, or that of the message
pub record IsLast (left top : ℤ) (dabs : List Dab) (k : ℕ) (last : Place) : Type 0 where
  pub x : last.x ≡ left +ℤ int_sum (map (λ (dab : Dab). dab.dx) (take k dabs))
  pub y : last.y ≡ top +ℤ int_sum (map (λ (dab : Dab). dab.dy) (take k dabs))
  pub near : IsPlaceNear (2 ^ 32 + 128 * k) last

-- the dab after the last one is the last of one dab more
last_more : (left top : ℤ) (dabs : List Dab) (k : ℕ) (last : Place) (placed : PlacedDab)
    → k < length dabs
    → placed ≡ placed_after last (get_or dabs k no_dab)
    → unsigned_abs placed.at.x ≤ unsigned_abs last.x
    + 128 → unsigned_abs placed.at.y ≤ unsigned_abs last.y + 128
    → IsLast left top dabs k last → IsLast left top dabs (k + 1) placed.at
last_more left top dabs k last placed within is near_x near_y before =
    let is_x = before.x in
    let is_y = before.y in
    let last_x = before.near.x in
    let last_y = before.near.y in
    let to_x : placed.at.x ≡ last.x +ℤ (get_or dabs k no_dab).dx = ap (λ (p : PlacedDab). p.at.x) is
    in
    let to_y : placed.at.y ≡ last.y +ℤ (get_or dabs k no_dab).dy = ap (λ (p : PlacedDab). p.at.y) is
    in
    record {
      x = omega (arith, ints, sum_of-more (λ (e : Dab). e.dx) dabs k within);
      y = omega (arith, ints, sum_of-more (λ (e : Dab). e.dy) dabs k within);
      near = record { x = omega arith; y = omega arith };
    }

-- and the next in the list
placed_is : (left top : ℤ) (dabs : List Dab) (k : ℕ) (last : Place) (placed d : PlacedDab)
    → k < length dabs
    → placed ≡ placed_after last (get_or dabs k no_dab) → IsLast left top dabs k last
    → get_or (placed_dabs left top dabs) k d ≡ placed
placed_is left top dabs k last placed d within is before =
    let is_x = before.x in
    let is_y = before.y in
    let dab = get_or dabs k no_dab in
    let to_x : left +ℤ sum_of (λ (e : Dab). e.dx) dabs (k + 1)
    ≡ last.x +ℤ dab.dx = omega (arith, ints, sum_of-more (λ (e : Dab). e.dx) dabs k within) in
    let to_y : top +ℤ sum_of (λ (e : Dab). e.dy) dabs (k + 1)
    ≡ last.y +ℤ dab.dy = omega (arith, ints, sum_of-more (λ (e : Dab). e.dy) dabs k within) in
    get_or-placed_dabs left top dabs k d within
    ∙ (ap (λ (z : ℤ). put z (top +ℤ sum_of (λ (e : Dab). e.dy) dabs (k + 1)) dab) to_x
    ∙ (ap (λ (z : ℤ). put (last.x +ℤ dab.dx) z dab) to_y ∙ sym is))

-- a region with one dab more
pub dabs_more : (region : Region) (stride : ℕ) (shape : Shape) (mode : Mode) (color : Channels)
    (dabs : List PlacedDab) (k : ℕ) (dab : PlacedDab) (old now new : List Channels)
    → k < length dabs → get_or dabs k dab ≡ dab
    → IsPainted region stride (on_canvas region (dabs_blended shape mode color (take k dabs))) old
    now
    → IsPainted region stride (on_canvas region (dab_blended shape mode color dab)) now new
    → IsPainted region stride (on_canvas region (dabs_blended shape mode color (take (k + 1) dabs)))
    old new
dabs_more region stride shape mode color dabs k dab old now new within is before here =
    painted_same region stride _ (on_canvas region (dabs_blended shape mode color
    (take (k + 1) dabs))) old new (λ i j p in_x in_y.
    let x = pos (region.x + i) in
    let y = pos (region.y + j) in
    let step = λ (under : Channels) (d : PlacedDab). dab_blended shape mode color d x y under in
    let more : step (fold step p (take k dabs)) dab ≡ fold step p (take (k + 1) dabs) =
    ap (step (fold step p (take k dabs))) (sym is) ∙ sym (fold_more step p dabs k dab within) in
    on_both (is_in (canvas_rect region.canvas_width region.canvas_height) x y) (λ q. step q dab)
    (fold step p (take k dabs)) p _ more)
    (painted_then region stride _ _ old now new before here)
  where
    on_both : (t : Bool) (f : Channels → Channels) (a p b : Channels) → f a ≡ b
        → cond t (f (cond t a p)) (cond t a p) ≡ cond t b p
    on_both true f a p b is = is
    on_both false f a p b is = refl

-- the dab after the last one is in the list of the dabs, and the last of one dab more
pub record IsNext (left top : ℤ) (dabs : List Dab) (k : ℕ) (placed : PlacedDab) : Type 0 where
  pub last : IsLast left top dabs (k + 1) placed.at
  pub within : k < length (placed_dabs left top dabs)
  pub is : get_or (placed_dabs left top dabs) k placed ≡ placed

pub next_is : (left top : ℤ) (dabs : List Dab) (k : ℕ) (last : Place) (placed : PlacedDab)
    → k < length dabs
    → placed ≡ placed_after last (get_or dabs k no_dab)
    → unsigned_abs placed.at.x ≤ unsigned_abs last.x
    + 128 → unsigned_abs placed.at.y ≤ unsigned_abs last.y + 128
    → IsLast left top dabs k last → IsNext left top dabs k placed
next_is left top dabs k last placed within is near_x near_y before = record {
  last = last_more left top dabs k last placed within is near_x near_y before;
  within = omega (arith, length-placed_dabs left top dabs);
  is = placed_is left top dabs k last placed placed within is before;
}

-- one dab more of a list is placed
pub placed_more : {X : Type 0} (f : X → PlacedDab) (now new : List X) (x : X)
    (dabs : List PlacedDab) (k : ℕ) → k < length dabs → get_or dabs k (f x) ≡ f x
    → new ≡ now ++ x ∷ [] → map f now ≡ take k dabs → map f new ≡ take (k + 1) dabs
placed_more f now new x dabs k within here pushed so_far =
    ap (map f) pushed
    ∙ (map-append f now (x ∷ [])
    ∙ (ap (λ (placed : List PlacedDab). placed ++ f x ∷ []) so_far
    ∙ (ap (λ (d : PlacedDab). take k dabs ++ d ∷ []) (sym here)
    ∙ sym (take_more dabs k (f x) within))))

-- a place is covered by one of the dabs
abbrev pub one_covers : Shape → List PlacedDab → ℤ → ℤ → Bool
one_covers shape dabs x y = list_any (λ (dab : PlacedDab). dab_covers shape dab x y) dabs

-- dabs of the same shape and list cover the same places
pub covered-same : (shape as_shape : Shape) (dabs as_dabs : List PlacedDab) → shape ≡ as_shape
    → dabs ≡ as_dabs → one_covers shape dabs ≡ one_covers as_shape as_dabs
covered-same shape as_shape dabs as_dabs shapes lists =
    ap (λ (s : Shape). one_covers s dabs) shapes
    ∙ ap (λ (l : List PlacedDab). one_covers as_shape l) lists

-- dabs are drawn on a canvas as at each place
pub drawn_dabs : (region : Region) (command : Draw) → IsDabs command
    → pixel_drawn region.canvas_width region.canvas_height command
    ≡ on_canvas region (pixel_after command)
drawn_dabs region (DabsRound layer x y r g b mode dabs) is = refl
drawn_dabs region (DabsSquare layer x y r g b mode dabs) is = refl
drawn_dabs region _ is = absurd is

-- dabs of the same colour, shape and list
pub stroked-same : (mode : ℕ) (color as_color : Channels) (shape as_shape : Shape)
    (dabs as_dabs : List PlacedDab) → color ≡ as_color → shape ≡ as_shape → dabs ≡ as_dabs
    → stroked mode color shape dabs ≡ stroked mode as_color as_shape as_dabs
stroked-same mode color as_color shape as_shape dabs as_dabs colors shapes lists =
    ap (λ (p : Channels). stroked mode p shape dabs) colors
    ∙ ap (λ (s : Shape). stroked mode as_color s dabs) shapes
    ∙ ap (λ (l : List PlacedDab). stroked mode as_color as_shape l) lists
