-- What a session keeps of a state.
use Rattle.std.specs.Prelude.{◌≡◌, ℕ, ◌≤◌, Bool, Option, List, length, map, All}
use Rattle.dp_acl.specs.Table.{Kept, StandsFor}
use Rattle.dp_epochs.specs.declared.connection.Connection.{Connection}
use Rattle.dp_epochs.specs.declared.event.Event.{Event}
use Rattle.dp_epochs.specs.State.{State, epoch_of}
use Rattle.dp_history.specs.declared.item.HistoryItem.{HistoryItem}
use Rattle.dp_history.specs.Items.{entry_in, IsIn}
use Rattle.dp_history.specs.Users.{AreJoined}
use Rattle.dp_commit.specs.declared.connections.Roster.{Roster}
use Rattle.dp_commit.specs.declared.live.LiveEpoch.{LiveEpoch}
use Rattle.dp_commit.specs.declared.sending.Sending.{Sending}
use Rattle.dp_commit.specs.Marks.{MarksHolders}
use Rattle.dp_commit.specs.Sending.{IsResetIn}

-- what of the tables stands for a state
pub record Seen : Type 0 where
  pub journal : List Event
  pub connections : List Connection
  pub epoch : ℕ
  pub live : List HistoryItem
  pub rights : Kept
  pub present : List Bool
  -- for each id, the number of the Open by which its user joined last
  pub opens : List ℕ
  -- the connection that sends a reset, the place that it names, the events of its parts, and how
  -- many bytes these have
  pub owner : Option ℕ
  pub place : Option ℕ
  pub parts : List ℕ
  pub part_bytes : ℕ

-- of these parts
abbrev pub seen_in : List Event → Roster → Sending → LiveEpoch → Seen
seen_in journal roster sending live = record {
  journal = journal;
  connections = roster.connections.items;
  epoch = live.number;
  live = live.history.items;
  rights = live.rights;
  present = roster.present;
  opens = roster.opens;
  owner = sending.owner;
  place = sending.place;
  parts = sending.parts.items;
  part_bytes = sending.part_bytes;
}

-- they are those of the state to which the journal led
pub record AreOf (s : State) (t : Seen) : Type 0 where
  pub epoch : t.epoch ≡ epoch_of s
  pub reset : IsResetIn s.stream t.journal t.owner t.place t.parts t.part_bytes
  pub table : t.connections ≡ s.connections
  pub entries : map (entry_in t.journal) t.live ≡ s.live
  pub said : All (IsIn t.journal) t.live
  pub stands : StandsFor t.rights s.live
  pub ids : length t.present ≡ 256
  pub marks : MarksHolders t.present s.connections
  pub slots : length t.opens ≡ 256
  pub joined : AreJoined t.journal s.live t.present t.opens
  pub opened : length s.connections ≤ length t.journal
