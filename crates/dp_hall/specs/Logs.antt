-- Logs of a machine: who acted what, what came of it, and the machine left.
use Rattle.std.specs.Prelude.{ℕ, Bool, true, false, ◌&&◌, ◌==◌, if◌then◌else◌, List, [], ◌∷◌, ⊤}
use Rattle.dp_hall.specs.declared.view.Entry.{Entry}

-- whether two names are one list of numbers
abbrev pub is_same_name : List ℕ → List ℕ → Bool
is_same_name [] [] = true
is_same_name [] (y ∷ ys) = false
is_same_name (x ∷ xs) [] = false
is_same_name (x ∷ xs) (y ∷ ys) = (x == y) && is_same_name xs ys

module _ {E O M : Type 0} where
  -- the machine that a log leaves: that of its last entry, or this one if it is empty
  abbrev pub left_by : M → List (Entry E O M) → M
  left_by m [] = m
  left_by m (e ∷ log) = left_by e.left log

  -- each entry is a step from the machine that the entries before leave
  abbrev pub IsLegal : (M → E → O → M → Type 0) → M → List (Entry E O M) → Type 0
  IsLegal may m [] = ⊤
  IsLegal may m (e ∷ log) = may m e.event e.outcome e.left × IsLegal may e.left log

  -- the entries by a name, in order
  abbrev pub entries_by : List ℕ → List (Entry E O M) → List (Entry E O M)
  entries_by name [] = []
  entries_by name (e ∷ log) =
      if is_same_name e.by name then e ∷ entries_by name log else entries_by name log
