-- What a connection is to get of the history.
use Rattle.std.specs.Prelude.{◌≡◌, ℕ, List, take, length, map, Option, None, Some}
use Rattle.dp_messages.specs.declared.message.Entry.{Entry}
use Rattle.dp_epochs.specs.declared.event.Answer.{Answer}
use Rattle.dp_epochs.specs.declared.event.Answer.TheVariants.{Entries, Gone}
use Rattle.dp_epochs.specs.declared.event.Event.{Event}
use Rattle.dp_epochs.specs.Pull.{page}
use Rattle.dp_epochs.specs.State.{State, epoch_of}
use Rattle.dp_history.specs.Items.{entry_in}
use Rattle.dp_commit.specs.declared.connections.Roster.{Roster}
use Rattle.dp_commit.specs.declared.live.LiveEpoch.{LiveEpoch}
use Rattle.dp_commit.specs.declared.pages.Due.{Due}

-- the answer of at most `most` entries of what is due of the live history, if something is
abbrev pub answer_of : List Entry → ℕ → Option Due → Answer
answer_of live most None = Gone
answer_of live most (Some due) = Entries due.epoch due.at (page due.at most (take due.end live))

-- the connections and the live epoch are those of a state, beside the journal
pub record AreRead (s : State) (journal : List Event) (roster : Roster) (live : LiveEpoch)
    : Type 0 where
  pub table : roster.connections.items ≡ s.connections
  pub flags : length roster.quiet.items ≡ length roster.connections.items
  pub epoch : live.number ≡ epoch_of s
  pub entries : map (entry_in journal) live.history.items ≡ s.live
