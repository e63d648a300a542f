-- What the session and its clients ask of a message, whatever its fields.
use Rattle.std.specs.Prelude.{ℕ, Bool, true, false, Option, None, Some, List, [], ◌∷◌}
use Rattle.dp_msg_draw.specs.declared.draw.Draw.{Draw}
use Rattle.dp_msg_meta.specs.declared.message.Control.TheVariants.{Disconnect}
use Rattle.dp_msg_meta.specs.declared.message.Meta.TheVariants.{ResetMark, Filtered}
use Rattle.dp_messages.specs.declared.message.Msg.{Msg}
use Rattle.dp_messages.specs.declared.message.Msg.TheVariants as msg
use Rattle.dp_messages.specs.declared.message.Entry.{Entry}

-- the message ends what is heard
abbrev pub is_disconnect : Msg → Bool
is_disconnect (msg.Control (Disconnect reason)) = true
is_disconnect _ = false

-- the message is the mark that heads an epoch
abbrev pub is_reset_mark : Msg → Bool
is_reset_mark (msg.Meta (ResetMark epoch carried)) = true
is_reset_mark m = false

-- the epoch that a mark opens
abbrev pub marked : Msg → Option ℕ
marked (msg.Meta (ResetMark epoch carried)) = Some epoch
marked m = None

-- how many entries after its mark an epoch carried from the one before
abbrev pub carried_by : Msg → ℕ
carried_by (msg.Meta (ResetMark epoch carried)) = carried
carried_by m = 0

-- how many entries after its mark a history carried, by the mark
abbrev pub carried_in : List Entry → ℕ
carried_in [] = 0
carried_in (entry ∷ entries) = carried_by entry.msg

-- the message stands in place of one that was not permitted
abbrev pub is_filtered : Msg → Bool
is_filtered (msg.Meta (Filtered kind)) = true
is_filtered m = false

-- the drawing command of a message, if it is one
abbrev pub command_of : Msg → Option Draw
command_of (msg.Draw op) = Some op
command_of m = None
