-- Which frames may stand on a link to a server.
use Rattle.std.specs.Prelude.{◌≡◌, ℕ, Bool, true, false, ◌==◌, ◌||◌, nat_le, if◌then◌else◌}
use Rattle.dp_frame.specs.Frames.{FrameParts}
use Rattle.dp_msg_meta.specs.declared.message.Control.TheVariants.{Ping, Welcome}
use Rattle.dp_messages.specs.declared.decoder.DecodeError.{DecodeError}
use Rattle.dp_messages.specs.declared.decoder.DecodeError.TheVariants as decode
use Rattle.dp_messages.specs.declared.message.Entry.{Entry}
use Rattle.dp_messages.specs.declared.message.Msg.{Msg}
use Rattle.dp_messages.specs.declared.message.Msg.TheVariants as msg
use Rattle.dp_messages.specs.Decoded.{Carries, IsPayloadRefused}
use Rattle.dp_messages.specs.Messages.{kind_of}
use Rattle.dp_messages.specs.Properties.{is_disconnect}
use Rattle.dp_entries.specs.declared.ends.Refusal.{Refusal}
use Rattle.dp_entries.specs.declared.ends.Refusal.TheVariants as refusal
use Rattle.dp_join_link.specs.declared.join_standing.LinkFlaw.{LinkFlaw}
use Rattle.dp_join_link.specs.declared.join_standing.LinkFlaw.TheVariants.{NoMessage, Misplaced}

-- the message asks for a sign of life, or is one
abbrev pub is_ping : Msg → Bool
is_ping (msg.Control (Ping pong)) = true
is_ping m = false

-- the message answers a Hello
abbrev pub is_welcome : Msg → Bool
is_welcome (msg.Control (Welcome version user epoch at)) = true
is_welcome m = false

-- the message may come with `before` messages before it: first a Welcome or a Disconnect, and then
-- those of kinds from 32 on, Pings and Disconnects
abbrev pub may_come : ℕ → Msg → Bool
may_come before m =
    if before == 0
    then is_welcome m || is_disconnect m
    else (nat_le 32 (kind_of m) || is_ping m || is_disconnect m)

-- with `before` frames before it, the frame stands for the entry: it carries it, and such a message
-- may come
abbrev pub StandsOnLink : ℕ → FrameParts → Entry → Type 0
StandsOnLink before frame entry = Carries frame entry × (may_come before entry.msg ≡ true)

-- with `before` frames before it, the frame may not stand: it carries no message, or one of this
-- kind that may not come
abbrev pub IsFlaw : ℕ → FrameParts → LinkFlaw → Type 0
IsFlaw before frame (NoMessage why) = IsPayloadRefused frame.kind frame.body why
IsFlaw before frame (Misplaced kind) =
    (entry : Entry) × Carries frame entry × (¬ (may_come before entry.msg ≡ true))
    × (kind ≡ kind_of entry.msg)

-- why a frame that isn't decoded gives no entry
abbrev pub flaw_of : DecodeError → Refusal LinkFlaw
flaw_of (decode.Unknown kind) = refusal.Cause (NoMessage (decode.Unknown kind))
flaw_of (decode.Malformed kind) = refusal.Cause (NoMessage (decode.Malformed kind))
flaw_of decode.Memory = refusal.Memory
