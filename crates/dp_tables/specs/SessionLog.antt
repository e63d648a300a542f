-- What contracts see of the tables of a session.
use Rattle.std.specs.Prelude.{ℕ, Bool, List}
use Rattle.dp_epochs.specs.declared.event.Event.{Event}
use Rattle.dp_epochs.specs.declared.event.ShutAt.{ShutAt}
use Rattle.dp_epochs.specs.State.{State}
use Rattle.dp_epochs.specs.Past.{state_after}

-- The events that were kept, the closings that were refused, the quiet connections by rising
-- number, and whether memory is ready for any one event.
pub record SessionLog : Type 0 where
  pub journal : List Event
  pub shut : List ShutAt
  pub quiet : List ℕ
  pub room : Bool

-- the state to which they lead
abbrev pub state_in : SessionLog → State
state_in ledger = state_after ledger.journal ledger.shut
