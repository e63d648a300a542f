-- When an event may be kept beside the journal.
use Rattle.std.specs.Prelude.{ℕ, ◌+◌, ◌-◌, ◌^◌, ◌<◌, ◌≤◌, List, length, vec_len, vec_capacity}
use Rattle.dp_epochs.specs.declared.event.Event.{Event}
use Rattle.dp_epochs.specs.Effects.{IsEffect}
use Rattle.dp_epochs.specs.State.{State}
use Rattle.dp_history.specs.Made.{AreMadeOf}
use Rattle.dp_commit.specs.declared.connections.Roster.{Roster}
use Rattle.dp_commit.specs.declared.keeping.Made.{Made}
use Rattle.dp_commit.specs.declared.live.LiveEpoch.{LiveEpoch}
use Rattle.dp_commit.specs.declared.sending.Sending.{Sending}
use Rattle.dp_commit.specs.Placed.{IsSupply}
use Rattle.dp_commit.specs.Sending.{PartSize}
use Rattle.dp_commit.specs.Tables.{AreOf, seen_in}

-- What stands beside the journal is of this state, with frames of its live history. The event does
-- this to the state and places this, and its payload has this size.
pub record MayBeKept (s : State) (journal : List Event) (roster : Roster) (sending : Sending)
    (live : LiveEpoch) (made : Made) (size : ℕ) : Type 0 where
  pub of : AreOf s (seen_in journal roster sending live)
  pub frames : AreMadeOf live.frames s.live
  pub does : IsEffect s made.event made.effect
  pub places : IsSupply journal s made.event made.effect made.supply
  pub long : PartSize made.event size

-- there is room for one more event beside the journal, and its payload has at most so many bytes
pub record HasRoom (journal : List Event) (roster : Roster) (sending : Sending)
    (live : LiveEpoch) (size : ℕ) : Type 0 where
  pub connections : vec_len roster.connections < vec_capacity roster.connections
  pub quiet : vec_len roster.quiet < vec_capacity roster.quiet
  pub parts : vec_len sending.parts < vec_capacity sending.parts
  pub history : vec_len live.history + 2 ≤ vec_capacity live.history
  pub rights : 2 ≤ live.rights.room
  pub events : length journal < 2 ^ 32
  pub epochs : live.number < 2 ^ 32 - 1
  pub entries : length live.history.items < 2 ^ 32
  pub small : size ≤ 2 ^ 30
