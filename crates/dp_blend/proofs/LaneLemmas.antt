-- What the operations on lanes compute, lane by lane.
use Rattle.std.proofs.Common.{◌≡◌, ℕ, ◌+◌, ◌-◌, ◌*◌, ◌/◌, ◌%◌, ◌<◌, ◌≤◌, List, [], ◌∷◌, map, Fits}
use Rattle.std.proofs.Common.{w16, arith, refl, cond, ◌==◌, inl, inr, ltb, min}
use Rattle.std.specs.Simd.Lanes.{zip2, Each1, sel_l}
use Rattle.std.proofs.Math.Nat.{mul-le-mul_right, mul-add}
use Rattle.std.proofs.lemmas.Bool.Decides.{eqb_tells, nat_tests}
use Rattle.dp_blend.specs.Color.{mul}

-- the product of two numbers of 16 bits has 32
product_fits : (a b : ℕ) → Fits w16 a → Fits w16 b → a * b < 4294967296
product_fits a b h k =
    let e : a * b ≤ 65535 * b = mul-le-mul_right b (omega arith) in
    omega (arith, e)

-- the upper halves of the products, with the lanes widened and narrowed
pub halves_is : (v f : List ℕ) → Each1 (Fits w16) v → Each1 (Fits w16) f
    → map (λ x. x) (map (λ x. x / 65536) (zip2 (λ a b. a * b % 4294967296) (map (λ x. x) v)
    (map (λ x. x) f)))
    ≡ zip2 (λ a b. a * b / 65536) v f
halves_is [] f h k = refl
halves_is (v ∷ vs) [] h k = refl
halves_is (v ∷ vs) (f ∷ fs) h k =
    let small : v * f % 4294967296 ≡ v * f = omega (arith, product_fits v f h.0 k.0) in
    let rest = halves_is vs fs h.1 k.1 in
    cc

-- the upper half of a number of 32 bits has 16
pub halves_fit : (v f : List ℕ) → Each1 (Fits w16) (map (λ x. x / 65536)
    (zip2 (λ a b. a * b % 4294967296) v f))
halves_fit [] f = tt
halves_fit (v ∷ vs) [] = tt
halves_fit (v ∷ vs) (f ∷ fs) = (record { fits = omega arith }, halves_fit vs fs)

-- if the factor is one the product is the value, and else the upper half of twice the product
product_is : (v f : ℕ) → f ≤ 32768 → cond (f == 32768) v (v * ((f + f) % 65536) / 65536) ≡ mul v f
product_is v f h =
    elim (eqb_tells f 32768) [
      | inl e ↦ let one = e.1 in rw (e.0, one) (omega arith)
      | inr e ↦
          let twice : (f + f) % 65536 ≡ f + f = omega arith in
          let doubled : v * (f + f) ≡ v * f + v * f = mul-add v f f in
          rw (e.0, twice, doubled) (omega arith)
    ]

-- each lane is the product
pub products_is : (v f : List ℕ) → Each1 (λ x. x ≤ 32768) f
    → sel_l (map (λ x. x == 32768) f) v (zip2 (λ a b. a * b / 65536) v
    (zip2 (λ a b. (a + b) % 65536) f f)) ≡ zip2 mul v f
products_is [] [] h = refl
products_is [] (f ∷ fs) h = refl
products_is (v ∷ vs) [] h = refl
products_is (v ∷ vs) (f ∷ fs) h =
    let here = product_is v f h.0 in
    let rest = products_is vs fs h.1 in
    cc

-- if the factor is below one the product is the upper half of twice the product
lesser_is : (v f : ℕ) → f < 32768 → v * ((f + f) % 65536) / 65536 ≡ mul v f
lesser_is v f h =
    let twice : (f + f) % 65536 ≡ f + f = omega arith in
    let doubled : v * (f + f) ≡ v * f + v * f = mul-add v f f in
    rw (twice, doubled) (omega arith)

-- each lane is the product, if all factors are below one
pub lessers_are : (v f : List ℕ) → Each1 (λ x. x < 32768) f
    → zip2 (λ a b. a * b / 65536) v (zip2 (λ a b. (a + b) % 65536) f f) ≡ zip2 mul v f
lessers_are [] [] h = refl
lessers_are [] (f ∷ fs) h = refl
lessers_are (v ∷ vs) [] h = refl
lessers_are (v ∷ vs) (f ∷ fs) h =
    let here = lesser_is v f h.0 in
    let rest = lessers_are vs fs h.1 in
    cc

-- the smaller of each two lanes is chosen
pub smaller_is : (v w : List ℕ) → sel_l (zip2 ltb v w) v w ≡ zip2 min v w
smaller_is [] w = refl
smaller_is (v ∷ vs) [] = refl
smaller_is (v ∷ vs) (w ∷ ws) =
    let here : cond (ltb v w) v w ≡ min v w = grind (arith, nat_tests) in
    let rest = smaller_is vs ws in
    cc

-- a sum of as much as there is room for
pub capped_is : (v w : List ℕ) → Each1 (Fits w16) v
    → zip2 (λ a b. (a + b) % 65536) v (zip2 min w (map (λ x. 65535 - x) v))
    ≡ zip2 (λ a b. min (a + b) 65535) v w
capped_is [] w h = refl
capped_is (v ∷ vs) [] h = refl
capped_is (v ∷ vs) (w ∷ ws) h =
    let here : (v + min w (65535 - v)) % 65536 ≡ min (v + w) 65535 = omega arith in
    let rest = capped_is vs ws h.1 in
    cc
