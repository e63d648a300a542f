-- A reset as messages.
use Rattle.std.specs.Prelude.{ℕ, Bool, if◌then◌else◌, List, [], ◌∷◌, ◌++◌, map}
use Rattle.dp_msg_draw.specs.declared.draw.Draw.{Draw}
use Rattle.dp_msg_meta.specs.declared.message.Control.TheVariants.{ResetBegin, ResetFrom, ResetEnd}
use Rattle.dp_messages.specs.declared.message.Msg.{Msg}
use Rattle.dp_messages.specs.declared.message.Msg.TheVariants as msg

-- How a reset begins whose sender has taken `taken` entries of its epoch. One that keeps names the
-- place after them, from which on the entries of the history are kept.
abbrev pub reset_begin : Bool → ℕ → Msg
reset_begin keeps taken = msg.Control (if keeps then ResetFrom taken else ResetBegin)

-- a reset to these commands: how it begins, each command as a part, and its end
abbrev pub reset_messages : Msg → List Draw → List Msg
reset_messages begin commands =
    begin ∷ map msg.Part commands ++ msg.Control ResetEnd ∷ []
