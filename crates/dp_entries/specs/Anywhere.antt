-- Frames that may stand wherever they are.
use Rattle.std.specs.Prelude.{◌≡◌, ℕ}
use Rattle.dp_frame.specs.Frames.{FrameParts}
use Rattle.dp_messages.specs.declared.message.Entry.{Entry}
use Rattle.dp_messages.specs.declared.decoder.DecodeError.{DecodeError}
use Rattle.dp_messages.specs.declared.decoder.DecodeError.TheVariants as decode
use Rattle.dp_messages.specs.Decoded.{Carries, IsPayloadRefused}
use Rattle.dp_messages.specs.Messages.{Lifts, lifted_kind}
use Rattle.dp_entries.specs.declared.ends.Refusal.{Refusal}
use Rattle.dp_entries.specs.declared.ends.Refusal.TheVariants.{Cause, Memory}

-- each frame may stand, wherever it is, that carries an entry
abbrev pub StandsAnywhere : ℕ → FrameParts → Entry → Type 0
StandsAnywhere before frame entry = Carries frame entry

-- and no other, for the cause that it carries none
abbrev pub IsCauseAnywhere : ℕ → FrameParts → DecodeError → Type 0
IsCauseAnywhere before frame why = IsPayloadRefused frame.kind frame.body why

-- each frame of the first profile may stand, wherever it is, that carries an entry there: its
-- context id is the sender, and its payload lifts to the message
pub record StandsLifted (before : ℕ) (frame : FrameParts) (entry : Entry) : Type 0 where
  pub user : entry.user ≡ frame.user
  pub lifts : Lifts frame.kind frame.body entry.msg

-- and no other, for the cause that its payload lifts to nothing
abbrev pub IsCauseLifted : ℕ → FrameParts → DecodeError → Type 0
IsCauseLifted before frame why = IsPayloadRefused (lifted_kind frame.kind) frame.body why

-- why a frame that isn't decoded gives no entry
abbrev pub refusal_of : DecodeError → Refusal DecodeError
refusal_of (decode.Unknown kind) = Cause (decode.Unknown kind)
refusal_of (decode.Malformed kind) = Cause (decode.Malformed kind)
refusal_of decode.Memory = Memory
