-- A session of the first profile, in today's words.
use Rattle.std.specs.Prelude.{map}
use Rattle.dp_messages.specs.declared.message.Msg.{Msg}
use Rattle.dp_messages.specs.declared.message.Msg.TheVariants.{Opaque}
use Rattle.dp_messages.specs.declared.message.Entry.{Entry}
use Rattle.dp_messages.specs.Messages.{lifted_kind}
use Rattle.dp_epochs.specs.declared.event.Event.{Event}
use Rattle.dp_epochs.specs.declared.event.Event.TheVariants.{Say}
use Rattle.dp_epochs.specs.State.{State}

-- the message as it is read today: an opaque one of kind 70 is of kind 71, and no other changes
abbrev pub lifted_message : Msg → Msg
lifted_message (Opaque kind body) = Opaque (lifted_kind kind) body
lifted_message m = m

-- the entry of that user with its message as it is read today
abbrev pub lifted_entry : Entry → Entry
lifted_entry entry = record { user = entry.user; msg = lifted_message entry.msg }

-- the event with its message as it is read today, if it says one
abbrev pub lifted_event : Event → Event
lifted_event (Say conn m) = Say conn (lifted_message m)
lifted_event e = e

-- the state with these entries in its histories, and else the same
abbrev pub lifted_state : State → State
lifted_state s = record s {
  ended = map (map lifted_entry) s.ended;
  live = map lifted_entry s.live;
}
