-- What the calls of seats add up to.
use Rattle.std.specs.Prelude.{◌≡◌, ◌⊎◌, ℕ, ◌+◌, ◌≤◌, List, [], ◌∷◌, ◌++◌, length, sum_by}
use mathlib.Core.List.{IsPrefix}
use Rattle.dp_hall.specs.declared.view.Entry.{Entry}
use Rattle.dp_hall.specs.declared.view.View.{View}
use Rattle.dp_hall.specs.Names.{IsIn, old_names}
use Rattle.dp_hall.specs.Rule.{child_name}

module _ {E O M : Type 0} where
  -- some calls of one seat: it acted these entries, has seen and knows at least as much, and the
  -- rest of its view stayed
  pub record Continues (v : View E O M) (entries : List (Entry E O M)) (w : View E O M)
      : Type 0 where
    pub mine : w.mine ≡ v.mine ++ entries
    pub seen : IsPrefix v.seen w.seen
    pub known : v.known ≤ w.known
    pub same : w ≡ record v { mine = w.mine; seen = w.seen; known = w.known }

  -- a seat split, both went on, the first with some entries and the second with others, and were
  -- joined
  pub record Rejoins (v : View E O M) (first second : List (Entry E O M)) (w : View E O M)
      : Type 0 where
    pub name : w.name ≡ v.name
    pub mine : w.mine ≡ v.mine ++ first
    pub seen : IsPrefix v.seen w.seen
    pub known : v.known ≤ w.known
    pub olds : w.olds ≡ v.olds ++ (child_name v, second) ∷ []
    pub made : w.made ≡ v.made ++ child_name v ∷ []
    pub splits : w.splits ≡ v.splits + 1

  -- each seat whose name it knows to be made was joined into it, but for the seats of these names
  abbrev pub AllBackBut : List (List ℕ) → View E O M → Type 0
  AllBackBut out v = (n : List ℕ) → IsIn n v.made → IsIn n (old_names v.olds) ⊎ IsIn n out

  -- how many entries the seat and those joined into it have
  abbrev pub entry_count : View E O M → ℕ
  entry_count v = length v.mine + sum_by (λ o. length o.1) v.olds
