-- What the work of seats leaves.
use Rattle.std.specs.Prelude.{◌≡◌, ℕ, Bool, true, false, List, Result, Ok, Err}
use Rattle.std.specs.declared.alloc.AllocError.{AllocError}
use Rattle.dp_hall.specs.declared.view.Entry.{Entry}
use Rattle.dp_hall.specs.declared.view.View.{View}
use Rattle.dp_hall.specs.Laws.{Continues, AllBackBut}

module _ {E O M : Type 0} where
  -- the seat keeps its name, and each seat that it split off was joined again
  pub record Returns (v w : View E O M) : Type 0 where
    pub name : w.name ≡ v.name
    pub back : (out : List (List ℕ)) → AllBackBut out v → AllBackBut out w

  -- some acts of the seat alone
  abbrev pub Acted : View E O M → View E O M → Type 0
  Acted v w = (entries : List (Entry E O M)) × Continues v entries w

-- an act that was not refused
abbrev pub went : Result Bool AllocError → Bool
went (Ok answer) = true
went (Err error) = false
