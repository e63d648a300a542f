-- The squares of 64 by 64 places that share a place with a rectangle.
use Rattle.std.proofs.Common.{◌≡◌, ℕ, zero, suc, ◌+◌, ◌-◌, ◌*◌, ◌/◌, ◌<◌, ◌≤◌}
use Rattle.std.proofs.Common.{min, max, List, [], ◌∷◌, Bool, true, false, cond, ◌&&◌}
use Rattle.std.proofs.Common.{fold, leb, ltb, refl, sym, ◌∙◌, ap, arith, ⊎_elim}
use Rattle.std.specs.Prelude.{ℤ, pos, negsuc, ◌+ℤ◌, ◌≤ℤ◌, ◌<ℤ◌, int_lt, unsigned_abs}
use Rattle.std.specs.Int.{int_max, int_min}
use Rattle.std.specs.List.{count_by, range_with_len, sum_by}
use Rattle.std.proofs.lemmas.Int.{ints, int_max_is, int_min_is}
use Rattle.std.proofs.lemmas.Bool.{cases_Bool, cond-true, cond-false, and_parts, le-leb, le-ltb}
use Rattle.std.proofs.lemmas.Bool.{lt-ltb, false≢true, leb-true, leb-false, ltb-true, ltb-false}
use Rattle.std.proofs.Math.Bool.{and-false}
use Rattle.std.proofs.Math.Nat.{mul-add, mul_comm}
use Rattle.dp_pixels.proofs.SpanLemmas.{same_test}
use Rattle.dp_pixels.specs.declared.rect.Rect.{Rect}
use Rattle.dp_pixels.specs.Rectangles.{rect_at, share_place}
use Rattle.dp_pixels.specs.Feet.{on_greatest, on_side, squares_of, squares_shared, stretches}

-- ---- sums

-- a sum of products with one number
scaled : (k : ℕ) (g h : ℕ → ℕ) → ((x : ℕ) → g x ≡ k * h x) → (xs : List ℕ) (s t : ℕ)
    → t ≡ k * s → fold (λ a x. a + g x) t xs ≡ k * fold (λ a x. a + h x) s xs
scaled k g h same [] s t start = start
scaled k g h same (x ∷ xs) s t start = scaled k g h same xs (s + h x) (t + g x) (next (same x))
  where
    next : g x ≡ k * h x → t + g x ≡ k * (s + h x)
    next e = omega (arith, e, start, mul-add k s (h x))

-- how many numbers from a on are at least low and below high
counted : (p : ℕ → Bool) (low high : ℕ) → ((x : ℕ) → p x ≡ (leb low x && ltb x high))
    → (n a s : ℕ)
    → fold (λ m x. m + cond (p x) 1 0) s (range_with_len a n) ≡ s + (min (a + n) high - max a low)
counted p low high test zero a s = omega arith
counted p low high test (suc n) a s =
    counted p low high test n (a + 1) (s + cond (p a) 1 0)
    ∙ (ap (λ (t : Bool). s + cond t 1 0 + (min (a + 1 + n) high - max (a + 1) low)) (test a)
    ∙ step (leb low a) (ltb a high) (leb-true low a) (leb-false low a) (ltb-true a high)
    (ltb-false a high))
  where
    step : (t u : Bool) → (t ≡ true → low ≤ a) → (t ≡ false → a < low)
        → (u ≡ true → a < high) → (u ≡ false → high ≤ a)
        → s + cond (t && u) 1 0 + (min (a + 1 + n) high - max (a + 1) low)
        ≡ s + (min (a + suc n) high - max a low)
    step true true from before below above = omega (arith, from refl, below refl)
    step true false from before below above = omega (arith, above refl)
    step false u from before below above = omega (arith, before refl)

-- a column of squares shares a place with the numbers from a up to b, without b
abbrev across : ℤ → ℤ → ℕ → Bool
across a b col = int_lt (int_max (pos (col * 64)) a) (int_min (pos (col * 64) +ℤ pos 64) b)

across_is : (a b col : ℕ) → a < b → across (pos a) (pos b) col
    ≡ (leb (a / 64) col && ltb col ((b + 63) / 64))
across_is a b col some =
    let m = int_max (pos (col * 64)) (pos a) in
    let n = int_min (pos (col * 64) +ℤ pos 64) (pos b) in
    same_test (int_lt m n) (leb (a / 64) col && ltb col ((b + 63) / 64))
    (λ is.
    let order : m <ℤ n = less m n is in
    let low : a / 64 ≤ col = omega (
      arith,
      ints,
      int_max_is (pos (col * 64)) (pos a),
      int_min_is
          (pos (col * 64) +ℤ pos 64) (pos b),
    ) in
    let high : col < (b + 63) / 64 = omega (
      arith,
      ints,
      int_max_is (pos (col * 64)) (pos a),
      int_min_is (pos (col * 64) +ℤ pos 64) (pos b),
    ) in
    rw (le-leb (a / 64) col low, lt-ltb col ((b + 63) / 64) high) refl)
    (λ is.
    let parts = and_parts (leb (a / 64) col) (ltb col ((b + 63) / 64)) is in
    let low : a / 64 ≤ col = leb-true (a / 64) col parts.0 in
    let high : col < (b + 63) / 64 = ltb-true col ((b + 63) / 64) parts.1 in
    more m n (omega (
      arith,
      ints,
      int_max_is (pos (col * 64)) (pos a),
      int_min_is
          (pos (col * 64) +ℤ pos 64) (pos b),
    )))
  where
    less : (y z : ℤ) → int_lt y z ≡ true → y <ℤ z
    less y z h = grind (arith, ints)

    more : (y z : ℤ) → y <ℤ z → int_lt y z ≡ true
    more y z h = grind (arith, ints)

across_none : (a b : ℤ) (col : ℕ) → int_lt a b ≡ false → across a b col ≡ false
across_none a b col none =
    let m = int_max (pos (col * 64)) a in
    let n = int_min (pos (col * 64) +ℤ pos 64) b in
    let order : b ≤ℤ a = least a b none in
    not_less m n (omega (
      arith,
      ints,
      int_max_is (pos (col * 64)) a,
      int_min_is
          (pos (col * 64) +ℤ pos 64) b,
    ))
  where
    least : (y z : ℤ) → int_lt y z ≡ false → z ≤ℤ y
    least y z h = grind (arith, ints)

    not_less : (y z : ℤ) → z ≤ℤ y → int_lt y z ≡ false
    not_less y z h = grind (arith, ints)

-- all numbers from low on and below high
all_below : (n low high : ℕ) → high ≤ n → 0 + (min (0 + n) high - max 0 low) ≡ high - low
all_below n low high h = omega arith

below_none : (col : ℕ) → (leb 0 col && ltb col 0) ≡ false
below_none col = ap (λ (t : Bool). leb 0 col && t) (le-ltb col 0 (omega arith))
    ∙ and-false (leb 0 col)

-- how many columns share a place with them
along : (n : ℕ) (a b : ℤ) → pos 0 ≤ℤ a → b ≤ℤ pos (64 * n)
    → count_by (across a b) (range_with_len 0 n) ≡ stretches a b
along n a b from to = ⊎_elim (some a b from to) (none a b) (cases_Bool (int_lt a b))
  where
    some : (a b : ℤ) → pos 0 ≤ℤ a → b ≤ℤ pos (64 * n) → int_lt a b ≡ true
        → count_by (across a b) (range_with_len 0 n) ≡ stretches a b
    some (pos a) (pos b) from to is =
        let order : a < b = ltb-true a b is in
        let within : b ≤ 64 * n = omega (arith, ints, to) in
        counted (across (pos a) (pos b)) (a / 64) ((b + 63) / 64) (λ col. across_is a b col order) n
        0 0
        ∙ (all_below n (a / 64) ((b + 63) / 64) (omega arith)
        ∙ sym (cond-true (int_lt (pos a) (pos b)) ((b + 63) / 64 - a / 64) 0 is))
    some (pos a) (negsuc b) from to is = absurd (false≢true is)
    some (negsuc a) b from to is = absurd (omega (arith, ints))

    none : (a b : ℤ) → int_lt a b ≡ false → count_by (across a b) (range_with_len 0 n)
        ≡ stretches a b
    none a b is =
        counted (across a b) 0 0 (λ col. across_none a b col is ∙ sym (below_none col)) n 0 0
        ∙ (all_below n 0 0 (omega arith) ∙ sym (cond-false (int_lt a b)
        ((unsigned_abs b + 63) / 64 - unsigned_abs a / 64) 0 is))

-- the squares of rows and columns
both : (t u : Bool) → cond (t && u) 1 0 ≡ cond u 1 0 * cond t 1 0
both true true = refl
both true false = refl
both false true = refl
both false false = refl

product : (r : Rect) (cols rows : List ℕ)
    → sum_by (λ row. count_by (λ col. share_place (rect_at (pos (col * 64)) (pos (row * 64)) 64 64)
    r) cols) rows
    ≡ count_by (across r.x0 r.x1) cols * count_by (across r.y0 r.y1) rows
product r cols rows =
    scaled (count_by (across r.x0 r.x1) cols) (λ row. count_by
    (λ col. share_place (rect_at (pos (col * 64)) (pos (row * 64)) 64 64) r) cols)
    (λ row. cond (across r.y0 r.y1 row) 1 0)
    each rows 0 0 (omega arith)
  where
    each : (row : ℕ) → count_by (λ col. share_place (rect_at (pos (col * 64)) (pos (row * 64)) 64
        64) r) cols ≡ count_by (across r.x0 r.x1) cols * cond (across r.y0 r.y1 row) 1 0
    each row =
        let down = cond (across r.y0 r.y1 row) 1 0 in
        scaled down (λ col. cond (share_place (rect_at (pos (col * 64)) (pos (row * 64)) 64 64) r) 1
        0) (λ col. cond (across r.x0 r.x1 col) 1 0)
        (λ col. both (across r.x0 r.x1 col) (across r.y0 r.y1 row)) cols 0 0 (omega arith)
        ∙ mul_comm down (count_by (across r.x0 r.x1) cols)

-- a number moved into the range of the greatest canvas is in it
on_side_bounds : (z : ℤ) → (pos 0 ≤ℤ on_side z) × (on_side z ≤ℤ pos 4096)
on_side_bounds z = (
  omega (arith, ints, int_max_is (pos 0) (int_min z (pos 4096))),
  omega (
    arith,
    ints,
    int_max_is (pos 0) (int_min z (pos 4096)),
    int_min_is z (pos 4096),
  ),
)

pub squares_by_counting : (r : Rect) → squares_of (on_greatest r) ≡ squares_shared (on_greatest r)
squares_by_counting r =
    let inside = on_greatest r in
    let cols = along 64 inside.x0 inside.x1 (on_side_bounds r.x0).0 (on_side_bounds r.x1).1 in
    let rows = along 64 inside.y0 inside.y1 (on_side_bounds r.y0).0 (on_side_bounds r.y1).1 in
    sym (product inside (range_with_len 0 64) (range_with_len 0 64)
    ∙ (ap (λ (m : ℕ). m * count_by (across inside.y0 inside.y1) (range_with_len 0 64)) cols
    ∙ ap (λ (m : ℕ). stretches inside.x0 inside.x1 * m) rows))
