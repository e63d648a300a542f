-- ListLemmas, logs and beginnings.
use Rattle.std.specs.Prelude.{if◌then◌else◌}
use Rattle.std.proofs.Common.{◌≡◌, ◌≢◌, ◌⊎◌, ℕ, zero, suc, ◌<◌, ◌≤◌, Bool, true, false, List, []}
use Rattle.std.proofs.Common.{◌∷◌, ◌++◌, ◌+◌, map, length, refl, sym, ap, ◌∙◌, subst, ⊎_elim, inl}
use Rattle.std.proofs.Common.{inr, arith, length-append, true≢false}
use Rattle.std.proofs.lemmas.List.{append-nil}
use Rattle.std.proofs.lemmas.Bool.Decides.{nat_tests}
use mathlib.Core.List.{IsPrefix}
use mathlib.Core.Option.{some, some-ne-none, some-injective}
use lib.ListN.{get_elem?}
use Rattle.dp_hall.specs.declared.view.Entry.{Entry}
use Rattle.dp_hall.specs.Logs.{is_same_name, left_by, IsLegal, entries_by}
use Rattle.dp_hall.specs.Names.{IsIn, AreDistinct, is_child_of, children}

module _ {A : Type 0} where
  pub at_inside : (l : List A) (i : ℕ) (a : A) → get_elem? l i ≡ some a → i < length l
  at_inside [] i a e = absurd (some-ne-none a (sym e))
  at_inside (x ∷ xs) zero a e = omega arith
  at_inside (x ∷ xs) (suc i) a e = let h = at_inside xs i a e in omega (arith, h)

  pub prefix_all : (l : List A) → IsPrefix l l
  prefix_all l = ([], append-nil l)

  pub prefix_more : (xs ys : List A) (a : A) → IsPrefix xs ys → IsPrefix xs (ys ++ a ∷ [])
  prefix_more [] ys a p = (ys ++ a ∷ [], refl)
  prefix_more (x ∷ xs) [] a p = absurd (cc (p.1))
  prefix_more (x ∷ xs) (y ∷ ys) a p = let rest = prefix_more xs ys a (p.0, cc (p.1)) in
      (rest.0, cc (p.1, rest.1))

  pub prefix_length : (xs ys : List A) → IsPrefix xs ys → length xs ≤ length ys
  prefix_length xs ys p = let h = ap length p.1 in omega (arith, h, length-append xs p.0)

  pub in_more : (x a : A) (l : List A) → IsIn x (l ++ a ∷ []) → IsIn x l ⊎ (x ≡ a)
  in_more x a [] (inl e) = inr e
  in_more x a [] (inr h) = absurd h
  in_more x a (y ∷ l) (inl e) = inl (inl e)
  in_more x a (y ∷ l) (inr h) = push (in_more x a l h)
    where
      push : IsIn x l ⊎ (x ≡ a) → IsIn x (y ∷ l) ⊎ (x ≡ a)
      push (inl h) = inl (inr h)
      push (inr e) = inr e

  pub in_map : {B : Type 0} (f : A → B) (x : A) (l : List A) → IsIn x l → IsIn (f x) (map f l)
  in_map f x [] h = absurd h
  in_map f x (y ∷ l) (inl e) = inl (ap f e)
  in_map f x (y ∷ l) (inr h) = inr (in_map f x l h)

pub not_true : (b : Bool) → (b ≡ true → ⊥) → b ≡ false
not_true true h = absurd (h refl)
not_true false h = refl

pub is_not : (b : Bool) → b ≡ true → b ≡ false → ⊥
is_not b t f = true≢false (sym t ∙ f)

pub same_self : (n : List ℕ) → is_same_name n n ≡ true
same_self [] = refl
same_self (x ∷ xs) = let h = same_self xs in grind (arith, nat_tests, h)

pub same_is : (n m : List ℕ) → is_same_name n m ≡ true → n ≡ m
same_is [] [] e = refl
same_is [] (y ∷ ys) e = absurd (true≢false (sym e))
same_is (x ∷ xs) [] e = absurd (true≢false (sym e))
same_is (x ∷ xs) (y ∷ ys) e = let h = same_is xs ys in grind (arith, nat_tests, h, e)

pub same_not : (n m : List ℕ) → n ≢ m → is_same_name n m ≡ false
same_not n m ne = not_true (is_same_name n m) (λ t. ne (same_is n m t))

module _ {E O M : Type 0} where
  pub left_more : (m : M) (log : List (Entry E O M)) (e : Entry E O M)
      → left_by m (log ++ e ∷ []) ≡ e.left
  left_more m [] e = refl
  left_more m (x ∷ log) e = left_more x.left log e

  pub legal_more : (may : M → E → O → M → Type 0) (m : M) (log : List (Entry E O M))
      (e : Entry E O M) → IsLegal may m log → may (left_by m log) e.event e.outcome e.left
      → IsLegal may m (log ++ e ∷ [])
  legal_more may m [] e legal step = (step, tt)
  legal_more may m (x ∷ log) e legal step = (legal.0, legal_more may x.left log e legal.1 step)

  pub entries_same : (name : List ℕ) (log : List (Entry E O M)) (e : Entry E O M) → e.by ≡ name
      → entries_by name (log ++ e ∷ []) ≡ entries_by name log ++ e ∷ []
  entries_same name [] e is = rw (ap (λ n. is_same_name n name) is ∙ same_self name) refl
  entries_same name (x ∷ log) e is = step (is_same_name x.by name) (entries_same name log e is)
    where
      step : (b : Bool) → entries_by name (log ++ e ∷ []) ≡ entries_by name log ++ e ∷ []
          → (if◌then◌else◌ b (x ∷ entries_by name (log ++ e ∷ []))
          (entries_by name (log ++ e ∷ []))) ≡ (if◌then◌else◌ b (x ∷ entries_by name log)
          (entries_by name log)) ++ e ∷ []
      step true h = ap (λ l. x ∷ l) h
      step false h = h

  pub entries_other : (name : List ℕ) (log : List (Entry E O M)) (e : Entry E O M) → e.by ≢ name
      → entries_by name (log ++ e ∷ []) ≡ entries_by name log
  entries_other name [] e ne = rw (same_not e.by name ne) refl
  entries_other name (x ∷ log) e ne = step (is_same_name x.by name) (entries_other name log e ne)
    where
      step : (b : Bool) → entries_by name (log ++ e ∷ []) ≡ entries_by name log
          → (if◌then◌else◌ b (x ∷ entries_by name (log ++ e ∷ []))
          (entries_by name (log ++ e ∷ []))) ≡ (if◌then◌else◌ b (x ∷ entries_by name log)
          (entries_by name log))
      step true h = ap (λ l. x ∷ l) h
      step false h = h

module _ {A : Type 0} where
  pub in_left : (x : A) (xs ys : List A) → IsIn x xs → IsIn x (xs ++ ys)
  in_left x [] ys h = absurd h
  in_left x (y ∷ xs) ys (inl e) = inl e
  in_left x (y ∷ xs) ys (inr h) = inr (in_left x xs ys h)

  pub in_right : (x : A) (xs ys : List A) → IsIn x ys → IsIn x (xs ++ ys)
  in_right x [] ys h = h
  in_right x (y ∷ xs) ys h = inr (in_right x xs ys h)

  pub in_both : (x : A) (xs ys : List A) → IsIn x (xs ++ ys) → IsIn x xs ⊎ IsIn x ys
  in_both x [] ys h = inr h
  in_both x (y ∷ xs) ys (inl e) = inl (inl e)
  in_both x (y ∷ xs) ys (inr h) = push (in_both x xs ys h)
    where
      push : IsIn x xs ⊎ IsIn x ys → IsIn x (y ∷ xs) ⊎ IsIn x ys
      push (inl h) = inl (inr h)
      push (inr h) = inr h

  pub at_end : (l : List A) (a b : A) (j : ℕ) → get_elem? (l ++ a ∷ []) j ≡ some b
      → (get_elem? l j ≡ some b) ⊎ ((j ≡ length l) × (a ≡ b))
  at_end [] a b zero e = inr (refl, some-injective a b e)
  at_end [] a b (suc j) e = absurd (some-ne-none b (sym e))
  at_end (x ∷ xs) a b zero e = inl e
  at_end (x ∷ xs) a b (suc j) e = push (at_end xs a b j e)
    where
      push : (get_elem? xs j ≡ some b) ⊎ ((j ≡ length xs) × (a ≡ b))
          → (get_elem? xs j ≡ some b) ⊎ ((suc j ≡ length (x ∷ xs)) × (a ≡ b))
      push (inl h) = inl h
      push (inr h) = inr (ap suc h.0, h.1)

  pub in_prefix : (x : A) (xs ys : List A) → IsPrefix xs ys → IsIn x xs → IsIn x ys
  in_prefix x xs ys p h = subst (IsIn x) p.1 (in_left x xs p.0 h)

  pub prefix_between : (xs ys zs : List A) → IsPrefix xs zs → IsPrefix ys zs → length xs ≤ length ys
      → IsPrefix xs ys
  prefix_between [] ys zs p q le = (ys, refl)
  prefix_between (x ∷ xs) [] zs p q le = absurd (omega arith)
  prefix_between (x ∷ xs) (y ∷ ys) [] p q le = absurd (cc (p.1))
  prefix_between (x ∷ xs) (y ∷ ys) (z ∷ zs) p q le =
      let heads : x ≡ y = cc (p.1, q.1) in
      let rest = prefix_between xs ys zs (p.0, cc (p.1)) (q.0, cc (q.1)) (omega arith) in
      (rest.0, cc (heads, rest.1))

  pub prefix_whole : (xs ys : List A) → IsPrefix xs ys → length ys ≤ length xs → xs ≡ ys
  prefix_whole [] [] p le = refl
  prefix_whole [] (y ∷ ys) p le = absurd (omega arith)
  prefix_whole (x ∷ xs) [] p le = absurd (cc (p.1))
  prefix_whole (x ∷ xs) (y ∷ ys) p le = let rest = prefix_whole xs ys (p.0, cc (p.1)) (omega arith)
      in cc (p.1, rest)

  pub distinct_both : (xs ys : List A) → AreDistinct xs → AreDistinct ys
      → ((x : A) → IsIn x xs → IsIn x ys → ⊥) → AreDistinct (xs ++ ys)
  distinct_both [] ys p q apart = q
  distinct_both (x ∷ xs) ys p q apart = (
    (λ h. ⊎_elim (λ (a : IsIn x xs). p.0 a) (λ (b : IsIn x ys). apart x (inl refl) b)
        (in_both x xs ys h)),
    distinct_both xs ys p.1 q (λ y a b. apart y (inr a) b),
  )

  -- two lists of which all is distinct share nothing
  pub distinct_apart : (xs ys : List A) → AreDistinct (xs ++ ys) → (x : A) → IsIn x xs → IsIn x ys
      → ⊥
  distinct_apart [] ys d x h g = h
  distinct_apart (z ∷ xs) ys d x (inl e) g = d.0 (in_right z xs ys (subst (λ y. IsIn y ys) e g))
  distinct_apart (z ∷ xs) ys d x (inr h) g = distinct_apart xs ys d.1 x h g

  pub same_prefix : (xs ys zs : List A) → xs ++ ys ≡ xs ++ zs → ys ≡ zs
  same_prefix [] ys zs e = e
  same_prefix (x ∷ xs) ys zs e = same_prefix xs ys zs (cc (e))

  pub snoc_cut : (xs ys more : List A) (k z : A) → xs ++ k ∷ more ≡ ys ++ z ∷ []
      → (xs ≡ ys) ⊎ ((init : List A) × (ys ≡ xs ++ k ∷ init))
  snoc_cut [] [] more k z e = inl refl
  snoc_cut [] (y ∷ ys) more k z e = inr (ys, cc (e))
  snoc_cut (x ∷ xs) [] more k z e = absurd (no_more xs k more (cc (e)))
    where
      no_more : (l : List A) (a : A) (m : List A) → l ++ a ∷ m ≡ [] → ⊥
      no_more [] a m e = absurd (cc (e))
      no_more (b ∷ l) a m e = absurd (cc (e))
  snoc_cut (x ∷ xs) (y ∷ ys) more k z e = push (snoc_cut xs ys more k z (cc (e)))
    where
      heads : x ≡ y
      heads = cc (e)

      push : (xs ≡ ys) ⊎ ((init : List A) × (ys ≡ xs ++ k ∷ init))
          → (x ∷ xs ≡ y ∷ ys) ⊎ ((init : List A) × (y ∷ ys ≡ (x ∷ xs) ++ k ∷ init))
      push (inl s) = inl (cc (heads, s))
      push (inr t) = inr (t.0, cc (heads, t.1))

  -- what is left of two equal lists without their last elements
  pub snoc_same : (xs ys : List A) (k z : A) → xs ++ k ∷ [] ≡ ys ++ z ∷ [] → xs ≡ ys
  snoc_same xs ys k z e = ⊎_elim
      (λ (same : xs ≡ ys). same)
      (λ (cut : (init : List A) × (ys ≡ xs ++ k ∷ init)).
      let long = ap length e in let cut_long = ap length cut.1 in
      absurd (omega (
        arith,
        long,
        cut_long,
        length-append xs (k ∷ []),
        length-append ys (z ∷ []),
        length-append xs (k ∷ cut.0),
      )))
      (snoc_cut xs ys [] k z e)

-- names with one number added
pub child-yes : (p : List ℕ) (k : ℕ) → is_child_of p (p ++ k ∷ []) ≡ true
child-yes [] k = refl
child-yes (x ∷ xs) k = let h = child-yes xs k in grind (arith, nat_tests, h)

pub child-is : (p n : List ℕ) → is_child_of p n ≡ true → (k : ℕ) × (n ≡ p ++ k ∷ [])
child-is [] [] e = absurd (true≢false (sym e))
child-is [] (k ∷ []) e = (k, refl)
child-is [] (k ∷ l ∷ rest) e = absurd (true≢false (sym e))
child-is (x ∷ xs) [] e = absurd (true≢false (sym e))
child-is (x ∷ xs) (y ∷ ys) e =
    let same : x ≡ y = grind (arith, nat_tests, e) in
    let rest = child-is xs ys (grind (arith, nat_tests, e)) in
    (rest.0, cc (same, rest.1))

pub children-one : (p : List ℕ) (ns : List (List ℕ)) (k : ℕ)
    → children p (ns ++ (p ++ k ∷ []) ∷ []) ≡ children p ns + 1
children-one p [] k = rw (child-yes p k) refl
children-one p (n ∷ ns) k = step (is_child_of p n) (children-one p ns k)
  where
    step : (b : Bool) → children p (ns ++ (p ++ k ∷ []) ∷ []) ≡ children p ns + 1
        → (if◌then◌else◌ b (children p (ns ++ (p ++ k ∷ []) ∷ []) + 1)
        (children p (ns ++ (p ++ k ∷ []) ∷ []))) ≡ (if◌then◌else◌ b (children p ns + 1)
        (children p ns)) + 1
    step true h = ap (λ m. m + 1) h
    step false h = h

-- names that are none of its own children add nothing
pub children-none : (p : List ℕ) (ns ms : List (List ℕ))
    → ((n : List ℕ) → IsIn n ms → is_child_of p n ≡ false) → children p (ns ++ ms) ≡ children p ns
children-none p [] [] none = refl
children-none p [] (m ∷ ms) none = rw (none m (inl refl))
    (children-none p [] ms (λ n h. none n (inr h)))
children-none p (n ∷ ns) ms none = ap (λ c. if◌then◌else◌ (is_child_of p n) (c + 1) c)
    (children-none p ns ms none)

module _ {E O M : Type 0} where
  pub legal_prefix : (may : M → E → O → M → Type 0) (m : M) (xs ys : List (Entry E O M))
      → IsPrefix xs ys → IsLegal may m ys → IsLegal may m xs
  legal_prefix may m [] ys p h = tt
  legal_prefix may m (x ∷ xs) [] p h = absurd (cc (p.1))
  legal_prefix may m (x ∷ xs) (y ∷ ys) p h =
      let heads : x ≡ y = cc (p.1) in (
        subst (λ (e : Entry E O M). may m e.event e.outcome e.left) (sym heads) h.0,
        legal_prefix may x.left xs ys (p.0, cc (p.1)) (subst
            (λ (e : Entry E O M). IsLegal may e.left ys) (sym heads) h.1),
      )

  pub entries_none : (name : List ℕ) (log : List (Entry E O M))
      → ((e : Entry E O M) → IsIn e log → e.by ≢ name) → entries_by name log ≡ []
  entries_none name [] none = refl
  entries_none name (x ∷ log) none = rw (same_not x.by name (none x (inl refl)))
      (entries_none name log (λ e h. none e (inr h)))

  pub entries_prefix : (name : List ℕ) (xs ys : List (Entry E O M)) → IsPrefix xs ys
      → IsPrefix (entries_by name xs) (entries_by name ys)
  entries_prefix name [] ys p = (entries_by name ys, refl)
  entries_prefix name (x ∷ xs) [] p = absurd (cc (p.1))
  entries_prefix name (x ∷ xs) (y ∷ ys) p =
      let rest = entries_prefix name xs ys (p.0, cc (p.1)) in
      let heads : x ≡ y = cc (p.1) in
      subst (λ (e : Entry E O M). IsPrefix (entries_by name (x ∷ xs)) (entries_by name (e ∷ ys)))
      heads (step (is_same_name x.by name) rest)
    where
      step : (b : Bool) → IsPrefix (entries_by name xs) (entries_by name ys)
          → IsPrefix (if◌then◌else◌ b (x ∷ entries_by name xs) (entries_by name xs))
          (if◌then◌else◌ b (x ∷ entries_by name ys) (entries_by name ys))
      step true q = (q.0, ap (λ l. x ∷ l) q.1)
      step false q = q

  pub entries_between : (name : List ℕ) (xs ys zs : List (Entry E O M)) → IsPrefix xs ys
      → IsPrefix ys zs → entries_by name xs ≡ entries_by name zs
      → entries_by name ys ≡ entries_by name xs
  entries_between name xs ys zs p q e =
      let a = entries_prefix name xs ys p in let b = prefix_length _ _ (entries_prefix name ys zs q)
      in
      let c : length (entries_by name ys) ≤ length (entries_by name xs) = subst
      (λ l. length (entries_by name ys) ≤ length l) (sym e) b in
      sym (prefix_whole _ _ a c)
