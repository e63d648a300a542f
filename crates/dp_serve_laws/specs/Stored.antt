-- What a store holds beside a journal, if its rows are known.
use Rattle.std.specs.Prelude.{◌≡◌, ◌⊎◌, ℕ, None, IfSome, List, [], ◌∷◌, ◌++◌}
use Rattle.dp_io.specs.Faults.{Rose}
use Rattle.dp_keeper.specs.declared.row.Row.{Row}
use Rattle.dp_epochs.specs.declared.event.Event.{Event}
use Rattle.dp_epochs.specs.Resumed.{AreRowsOf}
use Rattle.dp_epochs.specs.Past.{Past}

-- The session has just been resumed: the store's rows are those of its journal, nothing was
-- refused, and no put has failed.
pub record IsResumed (past : Past) : Type 0 where
  pub rows : IfSome past.known (λ rows. AreRowsOf rows past.journal)
  pub shut : past.shut ≡ []
  pub unbroken : past.first_fault ≡ None

-- The rows are those of the journal. Or the count of puts that failed rose from the one number to
-- the other. Then they are those of the journal and of one event more.
abbrev pub HoldRows : ℕ → ℕ → List Event → List Row → Type 0
HoldRows before now journal rows =
    AreRowsOf rows journal ⊎ (Rose before now × (e : Event) × AreRowsOf rows (journal ++ e ∷ []))
