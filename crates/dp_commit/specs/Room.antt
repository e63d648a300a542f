-- What stays if memory is made ready before an event is kept.
use Rattle.std.specs.Prelude.{◌≡◌, List}
use Rattle.dp_messages.specs.declared.message.Entry.{Entry}
use Rattle.dp_acl.specs.Table.{StandsFor}
use Rattle.dp_commit.specs.declared.connections.Roster.{Roster}
use Rattle.dp_commit.specs.declared.live.LiveEpoch.{LiveEpoch}
use Rattle.dp_commit.specs.declared.sending.Sending.{Sending}

-- the same connections, with what is noted beside them
pub record SameRoster (old new : Roster) : Type 0 where
  pub connections : new.connections.items ≡ old.connections.items
  pub quiet : new.quiet.items ≡ old.quiet.items
  pub present : new.present ≡ old.present
  pub opens : new.opens ≡ old.opens

-- the same reset that is being sent
pub record SameSending (old new : Sending) : Type 0 where
  pub owner : new.owner ≡ old.owner
  pub place : new.place ≡ old.place
  pub parts : new.parts.items ≡ old.parts.items
  pub bytes : new.part_bytes ≡ old.part_bytes

-- the same live epoch
pub record SameLive (old new : LiveEpoch) : Type 0 where
  pub number : new.number ≡ old.number
  pub history : new.history.items ≡ old.history.items
  pub frames : new.frames ≡ old.frames
  pub stands : (history : List Entry) → StandsFor old.rights history → StandsFor new.rights history
