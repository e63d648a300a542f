-- The names of seats: which were given out, by whom, and if they are now.
use Rattle.std.specs.Prelude.{◌≡◌, ◌⊎◌, ℕ, ◌+◌, ◌<◌, Bool, true, false, ◌&&◌, ◌==◌, if◌then◌else◌}
use Rattle.std.specs.Prelude.{List, [], ◌∷◌, ◌++◌, map, ⊤}
use mathlib.Core.Option.{some}
use lib.ListN.{get_elem?}
use Rattle.dp_hall.specs.declared.view.Entry.{Entry}
use Rattle.dp_hall.specs.declared.view.View.{View}
use Rattle.dp_hall.specs.Logs.{entries_by}

-- one of the list
abbrev pub IsIn : {A : Type 0} → A → List A → Type 0
IsIn x [] = ⊥
IsIn x (y ∷ ys) = (x ≡ y) ⊎ IsIn x ys

-- no two of the list are equal
abbrev pub AreDistinct : {A : Type 0} → List A → Type 0
AreDistinct [] = ⊤
AreDistinct (x ∷ xs) = ¬ IsIn x xs × AreDistinct xs

-- a name is one of these with one number added
abbrev pub IsChild : List ℕ → List (List ℕ) → Type 0
IsChild n names = (p : List ℕ) × (k : ℕ) × (n ≡ p ++ k ∷ []) × IsIn p names

-- the second is the first with one number added
abbrev pub is_child_of : List ℕ → List ℕ → Bool
is_child_of [] [] = false
is_child_of [] (k ∷ []) = true
is_child_of [] (k ∷ l ∷ rest) = false
is_child_of (x ∷ xs) [] = false
is_child_of (x ∷ xs) (y ∷ ys) = (x == y) && is_child_of xs ys

-- how many of the names are this one with one number added
abbrev pub children : List ℕ → List (List ℕ) → ℕ
children p [] = 0
children p (n ∷ names) = if is_child_of p n then children p names + 1 else children p names

module _ {E O M : Type 0} where
  -- the names of the seats joined into a seat
  abbrev pub old_names : List (List ℕ × List (Entry E O M)) → List (List ℕ)
  old_names olds = map (λ o. o.0) olds

  -- the seat's own name, and those of the seats joined into it
  abbrev pub names : View E O M → List (List ℕ)
  names v = v.name ∷ old_names v.olds

-- what the rule on names reads of a view
pub record Tag (E O M : Type 0) : Type 0 where
  pub live : Bool
  pub name : List ℕ
  pub olds : List (List ℕ × List (Entry E O M))
  pub made : List (List ℕ)
  pub splits : ℕ

module _ {E O M : Type 0} where
  abbrev pub tag : View E O M → Tag E O M
  tag v = record { live = v.live; name = v.name; olds = v.olds; made = v.made; splits = v.splits }

  -- the names of a tag: its own, and those joined into it
  abbrev pub names_of : Tag E O M → List (List ℕ)
  names_of t = t.name ∷ old_names t.olds

  -- the seat of this number is live: it was not joined into another
  abbrev pub Lives : List (Tag E O M) → ℕ → Tag E O M → Type 0
  Lives tags i t = (get_elem? tags i ≡ some t) × (t.live ≡ true)

-- the rule on names
pub record Named {E O M : Type 0} (tags : List (Tag E O M)) : Type 0 where
  -- a name that is a live seat's, or that of a seat joined into one, is so of one live seat, and
  -- once
  pub apart : (i j : ℕ) (s t : Tag E O M) (n : List ℕ)
      → Lives tags i s → Lives tags j t → IsIn n (names_of s) → IsIn n (names_of t) → i ≡ j
  pub distinct : (i : ℕ) (s : Tag E O M) → Lives tags i s → AreDistinct (names_of s)
  -- the empty name, and each name in a `made`, is such a name
  pub first : (i : ℕ) × (s : Tag E O M) × Lives tags i s × IsIn [] (names_of s)
  pub given : (i : ℕ) (s : Tag E O M) (n : List ℕ) → Lives tags i s → IsIn n s.made
      → (j : ℕ) × (t : Tag E O M) × Lives tags j t × IsIn n (names_of t)
  -- each such name but the empty one is in the `made` of a live seat, and of one alone
  pub maker : (i : ℕ) (s : Tag E O M) (n : List ℕ) → Lives tags i s → IsIn n (names_of s)
      → (n ≡ []) ⊎ ((j : ℕ) × (t : Tag E O M) × Lives tags j t × IsIn n t.made)
  pub once : (i j : ℕ) (s t : Tag E O M) (n : List ℕ)
      → Lives tags i s → Lives tags j t → IsIn n s.made → IsIn n t.made → i ≡ j
  -- that seat has the name without its last number, as its own or as that of a seat joined into it
  pub made : (i : ℕ) (s : Tag E O M) (n : List ℕ) → Lives tags i s → IsIn n s.made
      → IsChild n (names_of s)
  -- if a name begins with a live seat's and is longer, its next number is below that seat's
  -- splits
  pub fresh : (i j : ℕ) (s t : Tag E O M) (k : ℕ) (more : List ℕ) → Lives tags i s → Lives tags j t
      → IsIn (s.name ++ k ∷ more) (names_of t) → k < s.splits
  -- these are as many as the names in its `made` that are its own with one number added
  pub counted : (i : ℕ) (s : Tag E O M) → Lives tags i s → s.splits ≡ children s.name s.made

-- each entry of the log is by a name given out, and those by an old name stand beside it
pub record Logged {E O M : Type 0} (tags : List (Tag E O M)) (log : List (Entry E O M))
    : Type 0 where
  pub by : (e : Entry E O M) → IsIn e log
      → (i : ℕ) × (s : Tag E O M) × Lives tags i s × IsIn e.by (names_of s)
  pub olds : (i : ℕ) (s : Tag E O M) (o : List ℕ × List (Entry E O M))
      → Lives tags i s → IsIn o s.olds → entries_by o.0 log ≡ o.1
