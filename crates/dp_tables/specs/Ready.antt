-- What is ready to be kept of an event.
use Rattle.std.specs.Prelude.{◌≡◌, ℕ, true, length}
use Rattle.dp_epochs.specs.declared.event.Event.{Event}
use Rattle.dp_epochs.specs.Effects.{IsEffect}
use Rattle.dp_epochs.specs.Rows.{row_of, has_room}
use Rattle.dp_commit.specs.declared.keeping.Made.{Made}
use Rattle.dp_commit.specs.Placed.{IsSupply}
use Rattle.dp_tables.specs.declared.ready.Ready.{Ready}
use Rattle.dp_tables.specs.SessionLog.{SessionLog, state_in}

-- The event may be kept after these: it does this, it places this beside what it says, its row has
-- this length, and there is room for it.
pub record MayKeep (ledger : SessionLog) (made : Made) (row_length : ℕ) : Type 0 where
  pub does : IsEffect (state_in ledger) made.event made.effect
  pub places : IsSupply ledger.journal (state_in ledger) made.event made.effect made.supply
  pub long : row_length ≡ length (row_of made.event)
  pub room : has_room ledger.journal made.event ≡ true

-- the event is ready to be kept after these, by what it does
pub record IsReady (ledger : SessionLog) (e : Event) (ready : Ready) : Type 0 where
  pub event : ready.made.event ≡ e
  pub effect : IsEffect (state_in ledger) e ready.made.effect
  pub supply : IsSupply ledger.journal (state_in ledger) e ready.made.effect ready.made.supply
  pub row : ready.row ≡ record { n = length ledger.journal; bytes = row_of e }
  pub room : has_room ledger.journal e ≡ true
