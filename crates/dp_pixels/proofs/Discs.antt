-- The cells of a round dab, row by row.
use Rattle.std.proofs.Common.{◌≡◌, ℕ, ◌+◌, ◌-◌, ◌*◌, ◌/◌, ◌<◌, ◌≤◌, true}
use Rattle.std.proofs.Common.{◌∙◌, ap, arith, ⊎_elim, leb}
use Rattle.std.specs.Prelude.{pos, ◌↔◌, unsigned_abs, IsTrue}
use Rattle.std.specs.Int.{abs_diff}
use Rattle.std.proofs.lemmas.Int.{ints}
use Rattle.std.proofs.lemmas.Bool.{cases_lt, leb-true}
use Rattle.std.proofs.lemmas.Bool.Decides.{nat_tests}
use Rattle.std.proofs.Math.Nat.{mul-le-mul_left, mul-le-mul_right}
use Rattle.dp_pixels.specs.Dabs.{squared, from_middle, is_in_disc}

-- squares are in the order of their numbers
square_mono : (a b : ℕ) → a ≤ b → a * a ≤ b * b
square_mono a b h =
    let first : a * a ≤ a * b = mul-le-mul_left a h in
    let second : a * b ≤ b * b = mul-le-mul_right b h in
    omega arith

-- how far a cell is from the middle
middle_is : (size i : ℕ) → unsigned_abs (from_middle size (pos i)) ≡ abs_diff (2 * i + 1) size
middle_is size i = omega (arith, ints)

-- the test of the disc, on natural numbers
in_disc : (size i j : ℕ) → IsTrue (is_in_disc size (pos i) (pos j)) ↔
    (abs_diff (2 * i + 1) size * abs_diff (2 * i + 1) size
    + abs_diff (2 * j + 1) size * abs_diff (2 * j + 1) size ≤ size * size)
in_disc size i j =
    let across = middle_is size i in
    let down = middle_is size j in
    let sum : squared (from_middle size (pos i)) + squared (from_middle size (pos j))
    ≡ abs_diff (2 * i + 1) size * abs_diff (2 * i + 1) size
    + abs_diff (2 * j + 1) size * abs_diff (2 * j + 1) size =
    ap (λ (n : ℕ). n * n + squared (from_middle size (pos j))) across
    ∙ ap (λ (n : ℕ). abs_diff (2 * i + 1) size * abs_diff (2 * i + 1) size + n * n) down in
    by (squared (from_middle size (pos i)) + squared (from_middle size (pos j))) _ (size * size) sum
  where
    by : (m n bound : ℕ) → m ≡ n → (leb m bound ≡ true) ↔ (n ≤ bound)
    by m n bound is = (
      λ test. omega (arith, is, leb-true m bound test),
      λ within. grind
          (arith, nat_tests),
    )

-- a square that fits in what another one leaves
within_root : (a down size root : ℕ) → down * down ≤ size * size
    → root * root ≤ size * size - down * down → size * size - down * down < (root + 1) * (root + 1)
    → (a * a + down * down ≤ size * size) ↔ (a ≤ root)
within_root a down size root fits low high = (
  λ inside. ⊎_elim (λ (over : root < a). let more = square_mono (root + 1) a (omega arith) in absurd
      (omega arith)) (λ (within : a ≤ root). within) (cases_lt root a),
  λ within. let less = square_mono a root within in omega arith,
)

-- the cells of a row of the disc are those between two ends
pub disc_cells : (size i j down root : ℕ) → i < size → j < size → down ≡ abs_diff (2 * j + 1) size
    → root * root ≤ size * size - down * down → size * size - down * down < (root + 1) * (root + 1)
    → IsTrue (is_in_disc size (pos i) (pos j)) ↔ (((size - root) / 2 ≤ i)
    × (i < size - (size - root) / 2))
disc_cells size i j down root in_size row is_down low high =
    let near : down ≤ size = omega arith in
    let fits : down * down ≤ size * size = square_mono down size near in
    let small : root ≤ size = ⊎_elim (λ (over : size < root). let more = square_mono (size + 1) root
    (omega arith) in absurd (omega arith)) (λ (within : root ≤ size). within)
    (cases_lt size root) in
    let test = in_disc size i j in
    let root_test = within_root (abs_diff (2 * i + 1) size) down size root fits low high in
    let to_sum = λ (n : ℕ). abs_diff (2 * i + 1) size * abs_diff (2 * i + 1) size + n * n in
    let rows : to_sum down ≡ to_sum (abs_diff (2 * j + 1) size) = ap to_sum is_down in (
      λ inside.
          let near_middle = root_test.0 (omega (arith, test.0 inside, rows)) in
          (omega (arith, near_middle), omega (arith, near_middle)),
      λ ends.
          let from = ends.0 in
          let before = ends.1 in
          let near_middle : abs_diff (2 * i + 1) size ≤ root = omega arith in
          test.1 (omega (arith, root_test.1 near_middle, rows)),
    )
