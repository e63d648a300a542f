-- Going up from a row to its parents.
use Rattle.std.proofs.Common.{arith, ◌≡◌, ◌≢◌, ◌==◌, ℕ, zero, suc, true, false, ◌||◌, List, refl}
use Rattle.std.proofs.Common.{ap, sym, ◌∙◌, subst}
use Rattle.std.proofs.lemmas.Bool.{ne_eqb, eqb-true, false≢true}
use Rattle.dp_layers.specs.declared.row.LayerRow.{LayerRow}
use Rattle.dp_layers.specs.Layers.{parent_of, is_within, is_below}

-- the root is within each depth
pub is_within-root : (n : ℕ) (rows : List LayerRow) → is_within n rows 0 ≡ true
unfolding is_within
is_within-root zero rows = refl
is_within-root (suc n) rows = refl

-- one step up
pub is_within-step : (n : ℕ) (rows : List LayerRow) (id : ℕ) → id ≢ 0
    → is_within (suc n) rows id ≡ is_within n rows (parent_of rows id)
unfolding is_within
is_within-step n rows id ne = ap (λ b. b || is_within n rows (parent_of rows id)) (ne_eqb id 0 ne)

pub is_within-none : (rows : List LayerRow) (id : ℕ) → is_within 0 rows id ≡ (id == 0)
unfolding is_within
is_within-none rows id = refl

pub is_below-step : (n : ℕ) (rows : List LayerRow) (id other : ℕ)
    → is_below (suc n) rows id other ≡
    (parent_of rows id == other || is_below n rows (parent_of rows id) other)
unfolding is_below
is_below-step n rows id other = refl

pub is_below-none : (rows : List LayerRow) (id other : ℕ) → is_below 0 rows id other ≡ false
unfolding is_below
is_below-none rows id other = refl

-- the root is below no row
pub is_below-root : (n : ℕ) (rows : List LayerRow) (other : ℕ) → parent_of rows 0 ≡ 0 → other ≢ 0
    → is_below n rows 0 other ≡ false
unfolding is_below
is_below-root zero rows other root ne = refl
is_below-root (suc n) rows other root ne = grind (arith, is_below-root n rows other root ne)

-- a row that is below another is below the other's parent
is_below_up : (n : ℕ) (rows : List LayerRow) (id other : ℕ) → is_below n rows id other ≡ true
    → is_below (suc n) rows id (parent_of rows other) ≡ true
unfolding is_below
is_below_up zero rows id other h = absurd (false≢true h)
is_below_up (suc n) rows id other h = grind (arith, is_below_up n rows (parent_of rows id) other)

-- no row that leads to the root is below itself
pub no_loop : (n m : ℕ) (rows : List LayerRow) (id : ℕ) → parent_of rows 0 ≡ 0
    → is_within n rows id ≡ true → id ≢ 0 → is_below m rows id id ≡ true → ⊥
unfolding is_within is_below
no_loop zero m rows id root within ne loop = ne (eqb-true id 0 within)
no_loop (suc n) zero rows id root within ne loop = false≢true loop
no_loop (suc n) (suc m) rows id root within ne loop =
    let up : ℕ = parent_of rows id in
    let below = is_below-root m rows id root ne in
    let step = is_within-step n rows id ne in
    grind (arith, step, no_loop n (suc m) rows up, below, is_below_up m rows up id)

-- a row that is not met on the way to the root is not met later
pub is_below-more : (n : ℕ) (rows : List LayerRow) (id other : ℕ) → parent_of rows 0 ≡ 0 → other ≢ 0
    → is_within n rows id ≡ true → is_below n rows id other ≡ false
    → is_below (suc n) rows id other ≡ false
unfolding is_within is_below
is_below-more zero rows id other root ne within away =
    let P : ℕ → Type 0 = λ p. is_below 1 rows p other ≡ false in
    subst P (sym (eqb-true id 0 within)) (is_below-root 1 rows other root ne)
is_below-more (suc n) rows id other root ne within away =
    let more = is_below-more n rows (parent_of rows id) other root ne in
    grind (arith, is_below-root, more, is_within-step n rows id)

-- two lists in which the rows that are met have the same parents
module _ (C : ℕ → Type 0) (rows other : List LayerRow) (closed : (id : ℕ) → C id
    → C (parent_of rows id)) (agree : (id : ℕ) → C id
    → parent_of other id ≡ parent_of rows id) where
  pub is_within-agree : (n id : ℕ) → C id → is_within n other id ≡ is_within n rows id
  unfolding is_within
  is_within-agree zero id c = refl
  is_within-agree (suc n) id c =
      ap (λ b. id == 0 || b) (ap (is_within n other) (agree id c)
      ∙ is_within-agree n (parent_of rows id) (closed id c))
