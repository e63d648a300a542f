-- What a frame carries, and why it carries nothing.
use Rattle.std.specs.Prelude.{◌≡◌, ℕ, List, Result, Ok, Err, ⊤}
use Rattle.dp_frame.specs.Frames.{FrameParts}
use Rattle.dp_messages.specs.declared.message.Msg.{Msg}
use Rattle.dp_messages.specs.declared.message.Entry.{Entry}
use Rattle.dp_messages.specs.declared.decoder.DecodeError.{DecodeError}
use Rattle.dp_messages.specs.declared.decoder.DecodeError.TheVariants.{Unknown, Malformed, Memory}
use Rattle.dp_messages.specs.Messages.{Spells, IsUnknownKind}

-- the frame carries the entry: its context id is the sender, and its payload spells the message
pub record Carries (frame : FrameParts) (entry : Entry) : Type 0 where
  pub user : entry.user ≡ frame.user
  pub spelled : Spells frame.kind frame.body entry.msg

-- the frame carries no entry
abbrev pub CarriesNothing : FrameParts → Type 0
CarriesNothing frame = (entry : Entry) → Carries frame entry → ⊥

-- no message of this kind has this payload
abbrev pub SpellsNothing : ℕ → List ℕ → Type 0
SpellsNothing kind payload = (m : Msg) → Spells kind payload m → ⊥

-- Why a frame of this kind and payload carries nothing: no message is of the kind, or none of the
-- kind has the payload.
abbrev pub IsPayloadRefused : ℕ → List ℕ → DecodeError → Type 0
IsPayloadRefused kind payload (Unknown k) = (k ≡ kind) × IsUnknownKind kind
IsPayloadRefused kind payload (Malformed k) =
    (k ≡ kind) × ¬ IsUnknownKind kind × SpellsNothing kind payload
IsPayloadRefused kind payload Memory = ⊥

-- what reading the payload of a kind answers
abbrev pub Answers : ℕ → List ℕ → Result Msg DecodeError → Type 0
Answers kind payload (Ok m) = Spells kind payload m
Answers kind payload (Err Memory) = ⊤
Answers kind payload (Err why) = IsPayloadRefused kind payload why
