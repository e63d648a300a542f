-- The lengths of sides.
use Rattle.std.proofs.Common.{◌≡◌, ℕ, ◌<◌, ◌≤◌, cond, Bool, Some, None, refl, ap, ◌∙◌, arith}
use Rattle.std.proofs.Common.{to_z, of_z, w32, w64}
use Rattle.std.specs.Prelude.{ℤ, pos, negsuc, ◌+ℤ◌, ◌≤ℤ◌, ◌<ℤ◌}
use Rattle.std.proofs.lemmas.Bool.Decides.{nat_tests}
use Rattle.std.proofs.lemmas.Int.{ints}
use lib.IntN.{nat_abs}
use Rattle.dp_pixels.specs.Resizes.{is_side, side}

-- a whole number from 1 to 4096 is the length of a side
side_in_range : (n : ℤ) → pos 1 ≤ℤ n → n ≤ℤ pos 4096
    → Some (nat_abs n) ≡ cond (is_side n) (Some (side n)) None
side_in_range (pos n) low high =
    let at_least : 1 ≤ n = omega (arith, ints) in
    let at_most : n ≤ 4096 = omega (arith, ints) in
    let test : is_side (pos n) ≡ Bool.true = grind (arith, nat_tests) in
    rw test refl
side_in_range (negsuc n) low high = absurd (omega (arith, ints))

-- the sum of a side and two offsets, as the code computes it
abbrev pub grown : ℕ → ℤ → ℤ → ℤ
grown old before after =
    to_z w64
    (of_z w64
    (to_z w64 (of_z w64 (to_z w64 old +ℤ to_z w64 (of_z w64 (to_z w32 (of_z w32 before))))) +ℤ
    to_z w64 (of_z w64 (to_z w32 (of_z w32 after)))))

pub side_from_range : (m n : ℤ) → m ≡ n → pos 1 ≤ℤ n → n ≤ℤ pos 4096
    → Some (nat_abs m) ≡ cond (is_side n) (Some (side n)) None
side_from_range m n is low high = ap (λ (z : ℤ). Some (nat_abs z)) is ∙ side_in_range n low high

-- another whole number is no length of a side
pub none_below_side : (n : ℤ) → n <ℤ pos 1 → None ≡ cond (is_side n) (Some (side n)) None
none_below_side (pos n) low =
    let at_most : n < 1 = omega (arith, ints) in
    let test : is_side (pos n) ≡ Bool.false = grind (arith, nat_tests) in
    rw test refl
none_below_side (negsuc n) low = refl

pub none_above_side : (n : ℤ) → pos 4096 <ℤ n → None ≡ cond (is_side n) (Some (side n)) None
none_above_side (pos n) high =
    let at_least : 4096 < n = omega (arith, ints) in
    let test : is_side (pos n) ≡ Bool.false = grind (arith, nat_tests) in
    rw test refl
none_above_side (negsuc n) high = refl
