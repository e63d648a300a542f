-- Entries of a history as they are kept beside a journal.
use Rattle.std.specs.Prelude.{◌≡◌, ℕ, true, ⊤}
use Rattle.std.specs.Prelude.{if◌then◌else◌, Option, None, Some, is_some, unwrap_or}
use Rattle.std.specs.Prelude.{List, slice_get}
use Rattle.std.specs.List.{filter_map}
use Rattle.std.specs.Option.{option_map_or}
use Rattle.dp_msg_draw.specs.declared.draw.Draw.{Draw}
use Rattle.dp_msg_meta.specs.declared.message.Meta.TheVariants.{Join}
use Rattle.dp_messages.specs.declared.message.Msg.{Msg}
use Rattle.dp_messages.specs.declared.message.Msg.TheVariants as msg
use Rattle.dp_messages.specs.declared.message.Entry.{Entry}
use Rattle.dp_epochs.specs.declared.event.Event.{Event}
use Rattle.dp_epochs.specs.declared.event.Event.TheVariants.{Open, Say}
use Rattle.dp_history.specs.declared.item.HistoryItem.{HistoryItem}
use Rattle.dp_history.specs.declared.item.HistoryItem.TheVariants.{Said, Joined, Command}
use Rattle.dp_history.specs.declared.item.HistoryItem.TheVariants.{Server}
use Rattle.dp_acl.specs.Opening.{command_entry}
use Rattle.dp_epochs.specs.State.{entry_of, is_name}

-- the message that the event says
abbrev pub message_of : Option Event → Msg
message_of (Some (Say conn m)) = m
message_of other = msg.Point

-- the event is there, and says a message
abbrev pub IsSay : Option Event → Type 0
IsSay (Some (Say conn m)) = ⊤
IsSay other = ⊥

-- the command of the part that the event says, if it says one
abbrev pub part_of : Option Event → Option Draw
part_of (Some (Say conn (msg.Part command))) = Some command
part_of other = None

-- the user's Join by the event, if it is an Open with a name
abbrev pub join_of : ℕ → Option Event → Option Entry
join_of user (Some (Open name registered)) =
    if is_name name then Some (entry_of user (msg.Meta (Join registered name))) else None
join_of user other = None

-- the entry that is kept so beside the journal
abbrev pub entry_in : List Event → HistoryItem → Entry
entry_in journal (Said event user) = entry_of user (message_of (slice_get journal event))
entry_in journal (Joined event user) =
    unwrap_or (join_of user (slice_get journal event)) (entry_of user msg.Point)
entry_in journal (Command event) =
    option_map_or command_entry (part_of (slice_get journal event)) (entry_of 0 msg.Point)
entry_in journal (Server entry) = entry.value

-- the event by which it is kept stands in the journal
abbrev pub IsIn : List Event → HistoryItem → Type 0
IsIn journal (Said event user) = IsSay (slice_get journal event)
IsIn journal (Joined event user) = is_some (join_of user (slice_get journal event)) ≡ true
IsIn journal (Command event) = is_some (part_of (slice_get journal event)) ≡ true
IsIn journal (Server entry) = ⊤

-- the event of this number says a part
abbrev pub IsPart : List Event → ℕ → Type 0
IsPart journal event = is_some (part_of (slice_get journal event)) ≡ true

-- the commands of the parts that these events say
abbrev pub commands_in : List Event → List ℕ → List Draw
commands_in journal parts = filter_map (λ event. part_of (slice_get journal event)) parts
