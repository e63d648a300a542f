-- Roots of numbers, by a table.
use Rattle.std.proofs.Common.{◌≡◌, ℕ, zero, suc, ◌+◌, ◌*◌, ◌/◌, ◌<◌, ◌≤◌, List, [], ◌∷◌}
use Rattle.std.proofs.Common.{length, get_or, Bool, true, ◌&&◌, leb, arith, ap}
use Rattle.std.specs.Prelude.{slice_index}
use Rattle.std.proofs.lemmas.Bool.{and_parts, leb-true}
use Rattle.std.proofs.Math.Nat.{mul-le-mul_left, mul-le-mul_right}

-- the numbers of a list, counted from k on, have squares of at most 256 times their places
abbrev pub fit : List ℕ → ℕ → Bool
fit [] k = true
fit (x ∷ xs) k = leb (x * x) (256 * k) && fit xs (k + 1)

-- a number of such a list
pub fits_at : (xs : List ℕ) (k i d : ℕ) → fit xs k ≡ true → i < length xs
    → get_or xs i d * get_or xs i d ≤ 256 * (k + i)
fits_at [] k i d t inside = absurd (omega (arith, inside))
fits_at (x ∷ xs) k zero d t inside =
    let parts = and_parts (leb (x * x) (256 * k)) (fit xs (k + 1)) t in
    omega (arith, leb-true (x * x) (256 * k) parts.0)
fits_at (x ∷ xs) k (suc i) d t inside =
    let parts = and_parts (leb (x * x) (256 * k)) (fit xs (k + 1)) t in
    let here = fits_at xs (k + 1) i d parts.1 (omega (arith, inside)) in
    omega (arith, here)

-- one of 256 numbers that are counted from 0 on
pub root_in_table : (xs : List ℕ) (k root : ℕ) → root ≡ slice_index xs k → fit xs 0 ≡ true
    → length xs ≡ 256 → k < 256 → root * root ≤ 256 * k
root_in_table xs k root is t long inside =
    let fits = fits_at xs 0 k 0 t (omega (arith, long, inside)) in
    let same : root * root ≡ slice_index xs k * slice_index xs k = ap (λ n. n * n) is in
    omega (arith, fits, same)

-- a quarter of a root
pub quarter : (root n : ℕ) → root * root ≤ 256 * (n / 16) → root / 4 * (root / 4) ≤ n
quarter root n is =
    let q = root / 4 in
    let less : q * 4 ≤ root = omega arith in
    let first : q * 4 * (q * 4) ≤ q * 4 * root = mul-le-mul_left (q * 4) less in
    let second : q * 4 * root ≤ root * root = mul-le-mul_right root less in
    let all : q * 4 * (q * 4) ≡ 16 * (q * q) = omega arith in
    omega (arith, is, first, second, all)
