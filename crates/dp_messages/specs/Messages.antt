-- The messages of a session: the kind of each, its payload, and which of them have a spelling.
use Rattle.std.specs.Prelude.{◌≡◌, ℕ, ◌<◌, ◌≤◌, ◌^◌, ◌==◌, ◌⊎◌, List, [], ◌++◌, length, ⊤}
use Rattle.std.specs.Prelude.{if◌then◌else◌}
use Rattle.dp_frame.specs.Frames.{FrameParts, spelling}
use Rattle.dp_messages.specs.declared.message.Entry.{Entry}
use Rattle.dp_messages.specs.declared.message.Msg.{Msg}
use Rattle.dp_messages.specs.declared.message.Msg.TheVariants as msg
use Rattle.dp_fields.specs.Fields.{one_byte, flag_byte}
use Rattle.dp_msg_draw.specs.Limits.{IsDrawKind}
use Rattle.dp_msg_draw.specs.Payloads.{draw_kind, draw_payload, DrawHasSpelling}
use Rattle.dp_msg_meta.specs.Payloads.{control_kind, control_payload, ControlHasSpelling}
use Rattle.dp_msg_meta.specs.Payloads.{IsControlKind}
use Rattle.dp_msg_meta.specs.Payloads.{meta_kind, meta_payload, MetaHasSpelling, IsMetaKind}

-- the number of a message's kind, the type byte of its frame
abbrev pub kind_of : Msg → ℕ
kind_of (msg.Control m) = control_kind m
kind_of (msg.Meta m) = meta_kind m
kind_of (msg.Part command) = 6
kind_of msg.Point = 128
kind_of (msg.Undo target redo) = 255
kind_of (msg.Draw command) = draw_kind command
kind_of (msg.Opaque kind body) = kind

-- the bytes of a message's fields, whether they meet their conditions or not
abbrev pub payload_of : Msg → List ℕ
payload_of (msg.Control m) = control_payload m
payload_of (msg.Meta m) = meta_payload m
payload_of (msg.Part command) = one_byte (draw_kind command) ++ draw_payload command
payload_of msg.Point = []
payload_of (msg.Undo target redo) = one_byte target ++ flag_byte redo
payload_of (msg.Draw command) = draw_payload command
payload_of (msg.Opaque kind body) = body

-- the kind is listed: messages of it have fields of their own
abbrev pub IsListedKind : ℕ → Type 0
IsListedKind kind =
    IsControlKind kind ⊎ (kind ≡ 6) ⊎ IsMetaKind kind ⊎ (kind ≡ 128) ⊎ IsDrawKind kind
    ⊎ (kind ≡ 255)

-- a kind that isn't listed, from 64 on: its messages have any payload
abbrev pub IsOpaqueKind : ℕ → Type 0
IsOpaqueKind kind = (64 ≤ kind) × ¬ IsListedKind kind

-- a kind that isn't listed, below 64: no message is of it
abbrev pub IsUnknownKind : ℕ → Type 0
IsUnknownKind kind = (kind < 64) × ¬ IsListedKind kind

-- Which messages have a spelling. Their parts have one, numbers lie within their widths, and the
-- payload has at most 65,535 bytes. A message of any payload is of a kind that isn't listed.
abbrev pub HasSpelling : Msg → Type 0
HasSpelling (msg.Control m) = ControlHasSpelling m
HasSpelling (msg.Meta m) = MetaHasSpelling m
HasSpelling (msg.Part command) = DrawHasSpelling command × (length (draw_payload command) ≤ 65534)
HasSpelling msg.Point = ⊤
HasSpelling (msg.Undo target redo) = target < 2 ^ 8
HasSpelling (msg.Draw command) = DrawHasSpelling command
HasSpelling (msg.Opaque kind body) =
    IsOpaqueKind kind × (kind < 2 ^ 8) × (length body ≤ 65535)

-- the payload of this kind spells the message
pub record Spells (number : ℕ) (bytes : List ℕ) (m : Msg) : Type 0 where
  pub kind : number ≡ kind_of m
  pub payload : bytes ≡ payload_of m
  pub spelled : HasSpelling m

-- The kind as which a frame of the first profile is read. No message of that profile has kind 70,
-- so its frames of this kind are opaque: of kind 71.
abbrev pub lifted_kind : ℕ → ℕ
lifted_kind kind = if kind == 70 then 71 else kind

-- the payload of this kind spells the message, in a frame of the first profile
abbrev pub Lifts : ℕ → List ℕ → Msg → Type 0
Lifts kind payload m = Spells (lifted_kind kind) payload m

-- the frame of an entry: the sender as its context id, the message's kind and the bytes of its
-- fields
abbrev pub frame_of : Entry → FrameParts
frame_of entry = record {
  kind = kind_of entry.msg;
  user = entry.user;
  body = payload_of entry.msg;
}

-- the bytes of that frame; they are read again if the message has a spelling
abbrev pub entry_bytes : Entry → List ℕ
entry_bytes entry = spelling (frame_of entry)
