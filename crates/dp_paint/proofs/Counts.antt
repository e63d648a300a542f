-- How many tiles have operations that wait.
use Rattle.std.proofs.Common.{◌≡◌, ℕ, zero, suc, ◌+◌, ◌-◌, ◌*◌}
use Rattle.std.proofs.Common.{◌/◌, ◌%◌, ◌<◌, ◌≤◌, List, [], length}
use Rattle.std.proofs.Common.{ap, sym, ◌∙◌, refl, arith, ⊎_elim, cond}
use Rattle.std.proofs.Common.{true, false, eqb, min, Bool, ◌⊎◌, inl, inr}
use Rattle.std.proofs.lemmas.Bool.{cases_Bool, cases_lt, cond-true, cond-false, false_from_ne_true}
use Rattle.std.proofs.lemmas.Bool.{false≢true}
use Rattle.std.proofs.Math.Nat.{mul-le-mul_right}
use Rattle.dp_tile.specs.declared.area.CellArea.{CellArea}
use Rattle.dp_tile.specs.Areas.{is_in_cells}
use Rattle.dp_ops.specs.declared.op.TileOp.{TileOp}
use Rattle.dp_ops.specs.Lists.{IsInside, Lists, listed_at}
use Rattle.dp_paint.specs.Jobs.{waits_on}
use Rattle.dp_paint.specs.Jobs.{tiles_waiting}
use Rattle.dp_ops.proofs.Waits.{inside_by, inside_facts}

-- one or none
at_most_one : (t : Bool) → cond t 0 1 ≤ 1
at_most_one true = omega arith
at_most_one false = omega arith

pub waits_one : (l : Lists) (n : ℕ) → waits_on l n ≤ 1
waits_one l n = at_most_one (eqb (length (listed_at l (n % 64) (n / 64))) 0)

-- before the next number there is one more, if something waits
pub waiting_suc : (l : Lists) (n : ℕ)
    → tiles_waiting l (suc n) ≡ tiles_waiting l n + waits_on l n
unfolding tiles_waiting
waiting_suc l n = refl

pub waiting_zero : (l : Lists) → tiles_waiting l zero ≡ 0
unfolding tiles_waiting
waiting_zero l = refl

pub waiting_few : (l : Lists) (n : ℕ) → tiles_waiting l n ≤ n
waiting_few l zero = omega (arith, waiting_zero l)
waiting_few l (suc n) = omega (arith, waiting_suc l n, waiting_few l n, waits_one l n)

-- there are no fewer before a higher number
pub waiting_more : (l : Lists) (a n : ℕ) → tiles_waiting l a ≤ tiles_waiting l (a + n)
waiting_more l a zero =
    let same : a + zero ≡ a = omega arith in rw same (omega arith)
waiting_more l a (suc n) =
    let same : a + suc n ≡ suc (a + n) = omega arith in
    rw same (omega (arith, waiting_suc l (a + n), waiting_more l a n))

-- and those before a number are among those before a higher one
pub waiting_to : (l : Lists) (a b : ℕ) → a ≤ b → tiles_waiting l a ≤ tiles_waiting l b
waiting_to l a b order =
    let at : a + (b - a) ≡ b = omega (arith, order) in
    omega (arith, waiting_more l a (b - a), ap (tiles_waiting l) at)

-- a tile on which something waits, or nothing
pub waits_some : (l : Lists) (n : ℕ) (ops : List TileOp) (empty : Bool)
    → ops ≡ listed_at l (n % 64) (n / 64) → empty ≡ eqb (length ops) 0 → empty ≡ false
    → waits_on l n ≡ 1
waits_some l n ops empty are is some =
    ap (λ (list : List TileOp). cond (eqb (length list) 0) 0 1) (sym are)
    ∙ ap (λ (t : Bool). cond t 0 1) (sym is ∙ some)

pub waits_none : (l : Lists) (n : ℕ) → listed_at l (n % 64) (n / 64) ≡ [] → waits_on l n ≡ 0
waits_none l n none = ap (λ (ops : List TileOp). cond (eqb (length ops) 0) 0 1) none

pub waits_same : (l m : Lists) (n : ℕ)
    → listed_at l (n % 64) (n / 64) ≡ listed_at m (n % 64) (n / 64) → waits_on l n ≡ waits_on m n
waits_same l m n same = ap (λ (ops : List TileOp). cond (eqb (length ops) 0) 0 1) same

-- if the same wait, there are as many
pub waiting_same : (l m : Lists) (a n : ℕ)
    → ((k : ℕ) → a ≤ k → k < a + n → waits_on l k ≡ waits_on m k)
    → tiles_waiting l (a + n) + tiles_waiting m a ≡ tiles_waiting m (a + n) + tiles_waiting l a
waiting_same l m a zero same =
    let at : a + zero ≡ a = omega arith in rw at (omega arith)
waiting_same l m a (suc n) same =
    let at : a + suc n ≡ suc (a + n) = omega arith in
    let last = same (a + n) (omega arith) (omega arith) in
    let before = waiting_same l m a n (λ k from to. same k from (omega (arith, to))) in
    rw at (omega (arith, waiting_suc l (a + n), waiting_suc m (a + n), last, before))

-- ---- an area more

-- 1 if the cell of a number is in an area, and else 0
abbrev inside : CellArea → ℕ → ℕ
inside area n = cond (is_in_cells area (n % 64) (n / 64)) 1 0

-- how many of the cells before the one of a number are in the area
inside_before : CellArea → ℕ → ℕ
inside_before area zero = 0
inside_before area (suc n) = inside_before area n + inside area n

inside_suc : (area : CellArea) (n : ℕ)
    → inside_before area (suc n) ≡ inside_before area n + inside area n
unfolding inside_before
inside_suc area n = refl

inside_zero : (area : CellArea) → inside_before area zero ≡ 0
unfolding inside_before
inside_zero area = refl

module _ (area : CellArea) (n : ℕ) where
  in_area : is_in_cells area (n % 64) (n / 64) ≡ true → inside area n ≡ 1
  in_area t = cond-true (is_in_cells area (n % 64) (n / 64)) 1 0 t

  not_in_area : (IsInside area (n % 64) (n / 64) → ⊥) → inside area n ≡ 0
  not_in_area out =
      let test = is_in_cells area (n % 64) (n / 64) in
      cond-false test 1 0 (false_from_ne_true test
      (λ t. out (inside_facts area (n % 64) (n / 64) t)))

  inside_one : inside area n ≤ 1
  inside_one = either (is_in_cells area (n % 64) (n / 64)) where
    either : (t : Bool) → cond t 1 0 ≤ 1
    either true = omega arith
    either false = omega arith

-- what waits on an area alone is more
module _ (area : CellArea) (old new : Lists)
    (outside : (col row : ℕ) → col < 64 → (IsInside area col row → ⊥)
    → listed_at new col row ≡ listed_at old col row) where
  one_more : (n : ℕ) → waits_on new n ≤ waits_on old n + inside area n
  one_more n =
      ⊎_elim (λ t. omega (arith, waits_one new n, in_area area n t))
      (λ t. omega (
        arith,
        waits_same new old n (outside (n % 64) (n / 64) (omega arith)
            (λ is. false≢true (sym t ∙ inside_by area (n % 64) (n / 64) is))),
      ))
      (cases_Bool (is_in_cells area (n % 64) (n / 64)))

  all_more : (n : ℕ) → tiles_waiting new n ≤ tiles_waiting old n + inside_before area n
  all_more zero = omega (arith, waiting_zero new, inside_zero area)
  all_more (suc n) =
      omega (arith, waiting_suc new n, waiting_suc old n, inside_suc area n, all_more n, one_more n)

-- the first cells of a row that are in an area
module _ (area : CellArea) (row : ℕ) where
  in_row : (c : ℕ) → c ≤ 64
      → inside_before area (row * 64 + c)
      ≤ inside_before area (row * 64) + (min c area.right - area.left)
  in_row zero few =
      let same : row * 64 + zero ≡ row * 64 = omega arith in rw same (omega arith)
  in_row (suc c) few =
      let at : row * 64 + suc c ≡ suc (row * 64 + c) = omega arith in
      let at_col : (row * 64 + c) % 64 ≡ c = omega (arith, few) in
      let before = in_row c (omega (arith, few)) in
      rw at (⊎_elim (λ left.
      let none = not_in_area area (row * 64 + c)
      (λ is. let from = is.left in absurd (omega (arith, from, at_col, left))) in
      omega (arith, inside_suc area (row * 64 + c), before, none, left))
      (λ from. ⊎_elim (λ to. omega (
        arith,
        inside_suc area (row * 64 + c),
        before,
        inside_one area (row * 64 + c),
        from,
        to,
      ))
      (λ right.
      let none = not_in_area area (row * 64 + c)
      (λ is. let to = is.right in absurd (omega (arith, to, at_col, right))) in
      omega (arith, inside_suc area (row * 64 + c), before, none, right))
      (cases_lt c area.right))
      (cases_lt c area.left))

  out_of_rows : ((row < area.top) ⊎ (area.bottom ≤ row)) → (c : ℕ) → c ≤ 64
      → inside_before area (row * 64 + c) ≡ inside_before area (row * 64)
  out_of_rows out zero few =
      let same : row * 64 + zero ≡ row * 64 = omega arith in rw same refl
  out_of_rows out (suc c) few =
      let at : row * 64 + suc c ≡ suc (row * 64 + c) = omega arith in
      let at_row : (row * 64 + c) / 64 ≡ row = omega (arith, few) in
      let before = out_of_rows out c (omega (arith, few)) in
      let none = not_in_area area (row * 64 + c)
      (λ is.
      let from = is.top in
      let to = is.bottom in
      ⊎_elim (λ above. absurd (omega (arith, above, from, at_row)))
      (λ below. absurd (omega (arith, below, to, at_row))) out) in
      rw at (omega (arith, inside_suc area (row * 64 + c), before, none))

-- one row more
one_more_row : (a w : ℕ) → (a + 1) * w ≡ a * w + w
one_more_row a w = omega arith

-- the cells of the first rows that are in an area
rows_inside : (area : CellArea) (row : ℕ)
    → inside_before area (row * 64)
    ≤ (min row area.bottom - area.top) * (area.right - area.left)
rows_inside area zero =
    let at : zero * 64 ≡ zero = omega arith in
    omega (arith, inside_zero area, ap (inside_before area) at)
rows_inside area (suc row) =
    let w = area.right - area.left in
    let at : suc row * 64 ≡ row * 64 + 64 = omega arith in
    let before = rows_inside area row in
    let full : 64 ≤ 64 = omega arith in
    rw at (⊎_elim (λ (above : row < area.top).
    let same : min (suc row) area.bottom - area.top ≡ min row area.bottom - area.top =
    omega (arith, above) in
    let none = out_of_rows area row (inl above) 64 full in
    rw same (omega (arith, before, none)))
    (λ (from : area.top ≤ row). ⊎_elim (λ (to : row < area.bottom).
    let more : min (suc row) area.bottom - area.top ≡ min row area.bottom - area.top + 1 =
    omega (arith, from, to) in
    let some = in_row area row 64 full in
    rw (more, one_more_row (min row area.bottom - area.top) w) (omega (arith, before, some)))
    (λ (below : area.bottom ≤ row).
    let same : min (suc row) area.bottom - area.top ≡ min row area.bottom - area.top =
    omega (arith, below) in
    let none = out_of_rows area row (inr below) 64 full in
    rw same (omega (arith, before, none)))
    (cases_lt row area.bottom))
    (cases_lt row area.top))

-- on an area at most as many tiles more have operations as it has cells
pub filed_few : (area : CellArea) (old new : Lists)
    → ((col row : ℕ) → col < 64 → (IsInside area col row → ⊥)
    → listed_at new col row ≡ listed_at old col row)
    → tiles_waiting new 4096
    ≤ tiles_waiting old 4096 + (area.bottom - area.top) * (area.right - area.left)
filed_few area old new outside =
    let w = area.right - area.left in
    let high : min 64 area.bottom - area.top ≤ area.bottom - area.top = omega arith in
    let rows : inside_before area 4096 ≤ (min 64 area.bottom - area.top) * w =
    rows_inside area 64 in
    omega (arith, all_more area old new outside 4096, rows, mul-le-mul_right w high)

-- one number more
pub waiting_next : (l : Lists) (n : ℕ)
    → tiles_waiting l (n + 1) ≡ tiles_waiting l n + waits_on l n
waiting_next l n =
    let same : n + 1 ≡ suc n = omega arith in rw same (waiting_suc l n)
