-- Lists that stand one after another: what is distinct in them, and what a filter keeps of them.
use Rattle.std.proofs.Common.{◌≡◌, Bool, true, List, [], ◌∷◌, ◌++◌, map, Option, None, Some, refl}
use Rattle.std.proofs.Common.{sym, ap, subst, ◌∙◌, ⊎_elim, inl, inr, option_to_list, append-nil}
use Rattle.std.proofs.Common.{flat_map}
use Rattle.std.specs.List.{AllByRecursion, cons_option, filter, filter_map}
use Rattle.std.proofs.lemmas.Grind.{flat_map-append}
use Rattle.std.proofs.lemmas.List.Elements.{filter-append, filter_map-append}
use Rattle.dp_hall.specs.Names.{IsIn, AreDistinct}
use Rattle.dp_hall.proofs.ListLemmas.{in_both, in_left, in_right, distinct_both, distinct_apart}
use Rattle.dp_hall.proofs.ListLemmas.{not_true}

-- ---- one of a list

pub all-in : {X : Type 0} (P : X → Type 0) (xs : List X) (x : X) → AllByRecursion P xs → IsIn x xs
    → P x
all-in P [] x all h = absurd h
all-in P (y ∷ xs) x all (inl e) = subst P (sym e) all.0
all-in P (y ∷ xs) x all (inr h) = all-in P xs x all.1 h

-- the value of an option, as a list
pub option-is : {A : Type 0} (a : A) (o : Option A) → IsIn a (option_to_list o) → o ≡ Some a
option-is a None h = absurd h
option-is a (Some b) (inl e) = ap Some (sym e)
option-is a (Some b) (inr h) = absurd h

pub option-in : {A : Type 0} (a : A) (o : Option A) → o ≡ Some a → IsIn a (option_to_list o)
option-in a o is = subst (λ p. IsIn a (option_to_list p)) (sym is) (inl refl)

pub option-distinct : {A : Type 0} (o : Option A) → AreDistinct (option_to_list o)
option-distinct None = tt
option-distinct (Some a) = ((λ h. absurd h), tt)

module _ {A : Type 0} where
  pub distinct-prefix : (xs ys : List A) → AreDistinct (xs ++ ys) → AreDistinct xs
  distinct-prefix [] ys d = tt
  distinct-prefix (x ∷ xs) ys d = ((λ h. d.0 (in_left x xs ys h)), distinct-prefix xs ys d.1)

  pub distinct-back : (xs ys : List A) → AreDistinct (xs ++ ys) → AreDistinct ys
  distinct-back [] ys d = d
  distinct-back (x ∷ xs) ys d = distinct-back xs ys d.1

-- ---- lists one after another

module _ {X A : Type 0} (f : X → List A) where
  -- the list that an item is of
  pub in-flat : (a : A) (xs : List X) → IsIn a (flat_map f xs)
      → (x : X) × IsIn x xs × IsIn a (f x)
  in-flat a [] h = absurd h
  in-flat a (x ∷ xs) h =
      ⊎_elim (λ (here : IsIn a (f x)). (x, inl refl, here))
      (λ (later : IsIn a (flat_map f xs)).
      let found = in-flat a xs later in (found.0, inr found.1, found.2))
      (in_both a (f x) (flat_map f xs) h)

  pub flat-in : (a : A) (x : X) (xs : List X) → IsIn x xs → IsIn a (f x)
      → IsIn a (flat_map f xs)
  flat-in a x [] h own = absurd h
  flat-in a x (y ∷ xs) (inl e) own =
      in_left a (f y) (flat_map f xs) (subst (λ z. IsIn a (f z)) e own)
  flat-in a x (y ∷ xs) (inr h) own = in_right a (f y) (flat_map f xs) (flat-in a x xs h own)

  -- what the first list has, the later ones don't have
  pub apart : (a : A) (x y : X) (xs : List X) → AreDistinct (f x ++ flat_map f xs) → IsIn a (f x)
      → IsIn y xs → IsIn a (f y) → ⊥
  apart a x y xs d own h other =
      distinct_apart (f x) (flat_map f xs) d a own (flat-in a y xs h other)

  -- if all are distinct, an item is of one list
  pub one-source : (a : A) (x y : X) (xs : List X) → AreDistinct (flat_map f xs) → IsIn x xs
      → IsIn y xs → IsIn a (f x) → IsIn a (f y) → x ≡ y
  one-source a x y [] d h k own other = absurd h
  one-source a x y (z ∷ xs) d (inl e) (inl s) own other = e ∙ sym s
  one-source a x y (z ∷ xs) d (inl e) (inr k) own other =
      absurd (apart a z y xs d (subst (λ u. IsIn a (f u)) e own) k other)
  one-source a x y (z ∷ xs) d (inr h) (inl s) own other =
      absurd (apart a z x xs d (subst (λ u. IsIn a (f u)) s other) h own)
  one-source a x y (z ∷ xs) d (inr h) (inr k) own other =
      one-source a x y xs (distinct-back (f z) (flat_map f xs) d) h k own other

  -- and each list is distinct
  pub distinct-one : (x : X) (xs : List X) → AreDistinct (flat_map f xs) → IsIn x xs
      → AreDistinct (f x)
  distinct-one x [] d h = absurd h
  distinct-one x (y ∷ xs) d (inl e) =
      subst (λ u. AreDistinct (f u)) (sym e) (distinct-prefix (f y) (flat_map f xs) d)
  distinct-one x (y ∷ xs) d (inr h) =
      distinct-one x xs (distinct-back (f y) (flat_map f xs) d) h

module _ {X A : Type 0} (f g : X → List A) where
  -- lists that have no more than others are distinct if those are
  pub distinct-fewer : (xs : List X) → ((x : X) → IsIn x xs → AreDistinct (g x))
      → ((x : X) (a : A) → IsIn x xs → IsIn a (g x) → IsIn a (f x))
      → AreDistinct (flat_map f xs) → AreDistinct (flat_map g xs)
  distinct-fewer [] own fewer d = tt
  distinct-fewer (x ∷ xs) own fewer d =
      distinct_both (g x) (flat_map g xs) (own x (inl refl))
      (distinct-fewer xs (λ y h. own y (inr h)) (λ y a h. fewer y a (inr h))
      (distinct-back (f x) (flat_map f xs) d))
      (λ a here later.
      let found = in-flat g a xs later in
      apart f a x found.0 xs d (fewer x a (inl refl) here) found.1
      (fewer found.0 a (inr found.1) found.2))

  -- equal lists, one after another
  pub flat-same : (xs : List X) → ((x : X) → IsIn x xs → f x ≡ g x)
      → flat_map f xs ≡ flat_map g xs
  flat-same [] same = refl
  flat-same (x ∷ xs) same =
      ap (λ l. l ++ flat_map f xs) (same x (inl refl))
      ∙ ap (λ l. g x ++ l) (flat-same xs (λ y h. same y (inr h)))

cons-is : {A : Type 0} (o : Option A) (xs : List A) → cons_option o xs ≡ option_to_list o ++ xs
cons-is None xs = refl
cons-is (Some a) xs = refl

module _ {X Y A : Type 0} where
  -- lists of lists, one after another
  pub flat-flat : (f : X → List Y) (g : Y → List A) (xs : List X)
      → flat_map g (flat_map f xs) ≡ flat_map (λ x. flat_map g (f x)) xs
  flat-flat f g [] = refl
  flat-flat f g (x ∷ xs) =
      flat_map-append g (f x) (flat_map f xs)
      ∙ ap (λ l. flat_map g (f x) ++ l) (flat-flat f g xs)

  pub filter_map-map : (h : Y → Option A) (f : X → Y) (xs : List X)
      → filter_map h (map f xs) ≡ flat_map (λ x. option_to_list (h (f x))) xs
  filter_map-map h f [] = refl
  filter_map-map h f (x ∷ xs) =
      cons-is (h (f x)) (filter_map h (map f xs))
      ∙ ap (λ l. option_to_list (h (f x)) ++ l) (filter_map-map h f xs)

  pub filter_map-flat : (h : Y → Option A) (f : X → List Y) (xs : List X)
      → filter_map h (flat_map f xs) ≡ flat_map (λ x. filter_map h (f x)) xs
  filter_map-flat h f [] = refl
  filter_map-flat h f (x ∷ xs) =
      filter_map-append h (f x) (flat_map f xs)
      ∙ ap (λ l. filter_map h (f x) ++ l) (filter_map-flat h f xs)

-- ---- filters

module _ {A : Type 0} (p : A → Bool) where
  -- none passes, and all pass
  pub filter-none : (xs : List A) → ((a : A) → IsIn a xs → p a ≡ true → ⊥) → filter p xs ≡ []
  filter-none [] none = refl
  filter-none (a ∷ xs) none =
      rw (not_true (p a) (none a (inl refl))) (filter-none xs (λ b h. none b (inr h)))

  pub filter-all : (xs : List A) → ((a : A) → IsIn a xs → p a ≡ true) → filter p xs ≡ xs
  filter-all [] all = refl
  filter-all (a ∷ xs) all =
      rw (all a (inl refl)) (ap (λ l. a ∷ l) (filter-all xs (λ b h. all b (inr h))))

-- Beside each list stand others, which are all distinct. If b stands beside each list that has what
-- passes, that is all in the one list beside which b stands.
module _ {X A B : Type 0} (p : A → Bool) (f : X → List A) (g : X → List B) (b : B) where
  pub filter-one : (xs : List X) (y : X)
      → ((x : X) (a : A) → IsIn x xs → IsIn a (f x) → p a ≡ true → IsIn b (g x))
      → AreDistinct (flat_map g xs) → IsIn y xs → IsIn b (g y)
      → filter p (flat_map f xs) ≡ filter p (f y)
  filter-one [] y only d h own = absurd h
  filter-one (x ∷ xs) y only d (inl e) own =
      filter-append p (f x) (flat_map f xs)
      ∙ ap (λ l. filter p (f x) ++ l) (filter-none p (flat_map f xs) (λ a h pass.
      let found = in-flat f a xs h in
      apart g b x found.0 xs d (subst (λ z. IsIn b (g z)) e own) found.1
      (only found.0 a (inr found.1) found.2 pass)))
      ∙ append-nil (filter p (f x))
      ∙ ap (λ z. filter p (f z)) (sym e)
  filter-one (x ∷ xs) y only d (inr h) own =
      filter-append p (f x) (flat_map f xs)
      ∙ ap (λ l. l ++ filter p (flat_map f xs)) (filter-none p (f x) (λ a here pass.
      apart g b x y xs d (only x a (inl refl) here pass) h own))
      ∙ filter-one xs y (λ z a k. only z a (inr k)) (distinct-back (g x) (flat_map g xs) d) h own
