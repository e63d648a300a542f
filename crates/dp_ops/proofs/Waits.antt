-- Lists of operations, by the columns and rows of their tiles.
use Rattle.std.proofs.Common.{◌≡◌, ℕ, zero, suc, ◌+◌, ◌-◌, ◌<◌, ◌≤◌, List, [], ◌∷◌, ◌++◌}
use Rattle.std.proofs.Common.{length, get_or}
use Rattle.std.proofs.Common.{refl, sym, ◌∙◌, ap, arith, ⊎_elim, ◌&&◌, leb, ltb, cond}
use Rattle.std.proofs.Common.{true, length-append}
use Rattle.std.proofs.lemmas.Bool.{cases_Bool, cases_eq, false≢true, and_parts, leb-true}
use Rattle.std.proofs.lemmas.Bool.{ltb-true}
use Rattle.std.proofs.lemmas.Bool.{le-leb, lt-ltb}
use Rattle.dp_tile.specs.declared.area.CellArea.{CellArea}
use Rattle.dp_tile.specs.Areas.{is_in_cells}
use Rattle.dp_ops.specs.declared.lists.Finish.{Finish}
use Rattle.dp_ops.specs.declared.lists.Finish.TheVariants as ways
use Rattle.dp_ops.specs.Lists.{AllCount, HasLists, HaveSameLists, IsChangedOn, IsFinished}
use Rattle.dp_ops.specs.Lists.{IsInside, Lists, Waiting, cell_place, finished, list_at, no_list}
use Rattle.dp_ops.specs.Lists.{row_to}

-- ---- cells of an area

pub inside_facts : (area : CellArea) (col row : ℕ) → is_in_cells area col row ≡ true
    → IsInside area col row
inside_facts area col row t =
    let a = and_parts (leb area.left col && ltb col area.right && leb area.top row)
    (ltb row area.bottom) t in
    let b = and_parts (leb area.left col && ltb col area.right) (leb area.top row) a.0 in
    let c = and_parts (leb area.left col) (ltb col area.right) b.0 in
    record {
      left = leb-true area.left col c.0;
      right = ltb-true col area.right c.1;
      top = leb-true area.top row b.1;
      bottom = ltb-true row area.bottom a.1;
    }

pub inside_by : (area : CellArea) (col row : ℕ) → IsInside area col row
    → is_in_cells area col row ≡ true
inside_by area col row is =
    rw (
      le-leb area.left col is.left,
      lt-ltb col area.right is.right,
      le-leb area.top row is.top,
      lt-ltb row area.bottom is.bottom,
    ) refl

-- ---- one list

abbrev at_first : Lists → ℕ → ℕ → List Waiting → Waiting
at_first l col row lists =
    cond (leb l.first row) (get_or lists (cell_place col (row - l.first)) no_list) no_list

-- ---- lists that are there

-- fewer columns and rows of as many lists
pub has_fewer : (right bottom few low : ℕ) (old new : Lists) → new.first ≡ old.first
    → length new.lists ≡ length old.lists → few ≤ right → low ≤ bottom
    → HasLists right bottom old → HasLists few low new
has_fewer right bottom few low old new first len across down has col row in_cols from in_rows =
    rw (first, len) (has col row (omega (arith, in_cols, across)) (omega (arith, from, first))
    (omega (arith, in_rows, down)))

-- ---- areas that change list by list

-- the rows of an area before a row
abbrev pub rows_to : CellArea → ℕ → CellArea
rows_to area row =
    record { left = area.left; right = area.right; top = area.top; bottom = row }

module _ (change : ℕ → ℕ → Waiting → Waiting → Type 0) where
  pub row_none : (row left : ℕ) (l : Lists) → IsChangedOn (row_to row left left) change l l
  row_none row left l = record {
    first = refl;
    len = refl;
    inside = λ col up is. absurd (omega (arith, is.left, is.right));
    outside = λ col up few out. refl;
  }

  pub rows_none : (area : CellArea) (l : Lists) → IsChangedOn (rows_to area area.top) change l l
  rows_none area l = record {
    first = refl;
    len = refl;
    inside = λ col up is. absurd (omega (arith, is.top, is.bottom));
    outside = λ col up few out. refl;
  }

  -- one more list of a row changed
  pub row_next : (row left at : ℕ) (old now new : Lists) → left ≤ at → at < 64
      → IsChangedOn (row_to row left at) change old now
      → IsChangedOn (row_to row at (at + 1)) change now new
      → IsChangedOn (row_to row left (at + 1)) change old new
  row_next row left at old now new order few before then = record {
    first = then.first ∙ before.first;
    len = then.len ∙ before.len;
    inside = λ col up i.
        let in_cols : col < 64 = omega (arith, i.right, few) in
        ⊎_elim (λ (same : col ≡ at).
        rw (← before.outside col up in_cols (λ j. absurd (omega (arith, j.right, same))))
        (then.inside col up (record {
          left = omega (arith, same);
          right = omega (arith, same);
          top = i.top;
          bottom = i.bottom;
        })))
        (λ (other : col ≡ at → ⊥).
        rw (then.outside col up in_cols (λ j. other (omega (arith, j.left, j.right))))
        (before.inside col up (record {
          left = i.left;
          right = omega (arith, i.right, other);
          top = i.top;
          bottom = i.bottom;
        })))
        (cases_eq col at);
    outside = λ col up few_cols out.
        then.outside col up few_cols (λ j. out (record {
          left = omega (arith, j.left, order);
          right = j.right;
          top = j.top;
          bottom = j.bottom;
        }))
        ∙ before.outside col up few_cols (λ j. out (record {
          left = j.left;
          right = omega (arith, j.right);
          top = j.top;
          bottom = j.bottom;
        }));
  }

  -- the next row changed
  pub rows_next : (area : CellArea) (row : ℕ) (old now new : Lists) → area.top ≤ row
      → area.right ≤ 64 → IsChangedOn (rows_to area row) change old now
      → IsChangedOn (row_to row area.left area.right) change now new
      → IsChangedOn (rows_to area (row + 1)) change old new
  rows_next area row old now new order few before then = record {
    first = then.first ∙ before.first;
    len = then.len ∙ before.len;
    inside = λ col up i.
        let in_cols : col < 64 = omega (arith, i.right, few) in
        ⊎_elim (λ (same : up ≡ row).
        rw (← before.outside col up in_cols (λ j. absurd (omega (arith, j.bottom, same))))
        (then.inside col up (record {
          left = i.left;
          right = i.right;
          top = omega (arith, same);
          bottom = omega (arith, same);
        })))
        (λ (other : up ≡ row → ⊥).
        rw (then.outside col up in_cols (λ j. other (omega (arith, j.top, j.bottom))))
        (before.inside col up (record {
          left = i.left;
          right = i.right;
          top = i.top;
          bottom = omega (arith, i.bottom, other);
        })))
        (cases_eq up row);
    outside = λ col up few_cols out.
        then.outside col up few_cols (λ j. out (record {
          left = j.left;
          right = j.right;
          top = omega (arith, j.top, order);
          bottom = j.bottom;
        }))
        ∙ before.outside col up few_cols (λ j. out (record {
          left = j.left;
          right = j.right;
          top = j.top;
          bottom = omega (arith, j.bottom);
        }));
  }

-- a list that was finished has none
finished_counts : (how : Finish) (w : Waiting) → (finished how w).more ≡ []
finished_counts ways.Keep w = refl
finished_counts ways.Drop w = refl
finished_counts ways.Clear w = refl

pub all_counts : (area : CellArea) (how : Finish) (old new : Lists)
    → IsChangedOn area (IsFinished how) old new
    → ((col row : ℕ) → col < 64 → (IsInside area col row → ⊥) → (list_at old col row).more ≡ [])
    → AllCount new
all_counts area how old new is before col row few =
    ⊎_elim (λ t.
    ap (λ (w : Waiting). w.more) (is.inside col row (inside_facts area col row t))
    ∙ finished_counts how (list_at old col row))
    (λ t.
    let out : IsInside area col row → ⊥ = λ i. false≢true (sym t ∙ inside_by area col row i) in
    ap (λ (w : Waiting). w.more) (is.outside col row few out) ∙ before col row few out)
    (cases_Bool (is_in_cells area col row))

-- ---- lists that are made and copied

get_or_push : (xs : List Waiting) (d : Waiting) (n : ℕ) → get_or (xs ++ d ∷ []) n d ≡ get_or xs n d
get_or_push [] d zero = refl
get_or_push [] d (suc n) = refl
get_or_push (x ∷ xs) d zero = refl
get_or_push (x ∷ xs) d (suc n) = get_or_push xs d n

-- one empty list more
pub pushed_same : (l : Lists) (new : List Waiting) → new ≡ l.lists ++ no_list ∷ []
    → HaveSameLists l (record { first = l.first; lists = new })
pushed_same l new is col row few =
    ap (λ (lists : List Waiting). at_first l col row lists) is
    ∙ ap (λ (w : Waiting). cond (leb l.first row) w no_list)
    (get_or_push l.lists no_list (cell_place col (row - l.first)))

-- a list of what counts alone
abbrev pub counted : Waiting → Waiting
counted w = record { ops = w.ops; more = [] }

-- n lists and one more
pub grown : (xs : List Waiting) (w : Waiting) (n : ℕ) → length xs ≡ n
    → length (xs ++ w ∷ []) ≡ n + 1
grown xs w n is = length-append xs (w ∷ []) ∙ ap (λ (k : ℕ). k + 1) is
