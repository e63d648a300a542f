-- Rows lead to one journal, or have one first row that may not stand.
use Rattle.std.proofs.Common.{◌≡◌, ℕ, zero, suc, List, [], ◌∷◌, ◌++◌, Some, take}
use Rattle.std.proofs.Common.{refl, sym, ap, subst, ◌∙◌, append_assoc, append-nil}
use Rattle.std.specs.Prelude.{slice_get}
use Rattle.dp_keeper.specs.declared.row.Row.{Row}
use Rattle.dp_epochs.specs.declared.event.Event.{Event}
use Rattle.dp_epochs.specs.Spelled.{RowSpells}
use Rattle.dp_epochs.specs.Resumed.{MayStand, MayNotStand, StandAfter}

-- bytes spell at most one event
abbrev pub OneEvent : Type 0
OneEvent =
    (bytes : List ℕ) (e f : Event) → RowSpells bytes e → RowSpells bytes f → e ≡ f

-- what stands after one event stands after an equal one
same-front : (before : List Event) (rows : List Row) (journal : List Event) (e f : Event) → e ≡ f
    → StandAfter (before ++ f ∷ []) rows journal → StandAfter (before ++ e ∷ []) rows journal
same-front before rows journal e f same =
    subst (λ x. StandAfter (before ++ x ∷ []) rows journal) (sym same)

pub one-journal : OneEvent → (before : List Event) (rows : List Row) (j k : List Event)
    → StandAfter before rows j → StandAfter before rows k → j ≡ k
one-journal one before [] [] [] s t = refl
one-journal one before [] [] (f ∷ k) s t = absurd t
one-journal one before [] (e ∷ j) k s t = absurd s
one-journal one before (row ∷ rows) [] k s t = absurd s
one-journal one before (row ∷ rows) (e ∷ j) [] s t = absurd t
one-journal one before (row ∷ rows) (e ∷ j) (f ∷ k) s t =
    let same : e ≡ f = one row.bytes e f s.0.spells t.0.spells in
    ap (λ x. x ∷ j) same
    ∙ ap (λ l. f ∷ l) (one-journal one (before ++ e ∷ []) rows j k s.1
    (same-front before rows k e f same t.1))

-- a row after those of these events is bad
pub record BadAfter (before : List Event) (rows : List Row) (n : ℕ) (row : Row) (c : List Event)
    : Type 0 where
  pub front : StandAfter before (take n rows) c
  pub at : slice_get rows n ≡ Some row
  pub bad : MayNotStand (before ++ c) row

-- a row that may stand after these events isn't the one that may not
no-first : (before : List Event) (row other : Row) (rest : List Row) (e : Event)
    → slice_get (other ∷ rest) 0 ≡ Some row → MayNotStand (before ++ []) row
    → MayStand before other e → ⊥
no-first before row other rest e at bad may =
    let same : other ≡ row = cc in
    bad e (subst (λ b. MayStand b row e) (sym (append-nil before))
    (subst (λ r. MayStand before r e) same may))

-- the events after the first
bad-rest : OneEvent → (before : List Event) (other : Row) (rows : List Row) (n : ℕ) (row : Row)
    (e f : Event) (c : List Event) → MayStand before other e
    → BadAfter before (other ∷ rows) (suc n) row (f ∷ c)
    → BadAfter (before ++ e ∷ []) rows n row c
bad-rest one before other rows n row e f c may b =
    let same : e ≡ f = one other.bytes e f may.spells b.front.0.spells in
    record {
      front = same-front before (take n rows) c e f same b.front.1;
      at = b.at;
      bad = subst (λ l. MayNotStand l row)
          (ap (λ x. before ++ x ∷ c) (sym same) ∙ sym (append_assoc before (e ∷ []) c)) b.bad;
    }

pub not-bad : OneEvent → (before : List Event) (rows : List Row) (j : List Event) (n : ℕ)
    (row : Row) (c : List Event) → StandAfter before rows j → BadAfter before rows n row c → ⊥
not-bad one before [] j n row c s b = let wrong = b.at in cc
not-bad one before (other ∷ rows) [] n row c s b = s
not-bad one before (other ∷ rows) (e ∷ j) zero row [] s b =
    no-first before row other rows e b.at b.bad s.0
not-bad one before (other ∷ rows) (e ∷ j) zero row (f ∷ c) s b = b.front
not-bad one before (other ∷ rows) (e ∷ j) (suc n) row [] s b = b.front
not-bad one before (other ∷ rows) (e ∷ j) (suc n) row (f ∷ c) s b =
    not-bad one (before ++ e ∷ []) rows j n row c s.1
    (bad-rest one before other rows n row e f c s.0 b)

pub one-bad : OneEvent → (before : List Event) (rows : List Row) (m n : ℕ) (r s : Row)
    (c d : List Event) → BadAfter before rows m r c → BadAfter before rows n s d
    → (m ≡ n) × (r ≡ s)
one-bad one before [] m n r s c d a b = let wrong = a.at in absurd cc
one-bad one before (row ∷ rows) zero zero r s c d a b = (refl, cc (a.at, b.at))
one-bad one before (row ∷ rows) zero (suc n) r s (e ∷ c) d a b = absurd a.front
one-bad one before (row ∷ rows) zero (suc n) r s [] [] a b = absurd b.front
one-bad one before (row ∷ rows) zero (suc n) r s [] (f ∷ d) a b =
    absurd (no-first before r row rows f a.at a.bad b.front.0)
one-bad one before (row ∷ rows) (suc m) zero r s c (f ∷ d) a b = absurd b.front
one-bad one before (row ∷ rows) (suc m) zero r s [] [] a b = absurd a.front
one-bad one before (row ∷ rows) (suc m) zero r s (e ∷ c) [] a b =
    absurd (no-first before s row rows e b.at b.bad a.front.0)
one-bad one before (row ∷ rows) (suc m) (suc n) r s [] d a b = absurd a.front
one-bad one before (row ∷ rows) (suc m) (suc n) r s (e ∷ c) [] a b = absurd b.front
one-bad one before (row ∷ rows) (suc m) (suc n) r s (e ∷ c) (f ∷ d) a b =
    let same = one-bad one (before ++ e ∷ []) rows m n r s c d
    (bad-rest one before row rows m r e e c a.front.0 a)
    (bad-rest one before row rows n s e f d a.front.0 b) in
    (ap suc same.0, same.1)
