-- The first profile as it was.
use Rattle.std.specs.Prelude.{◌≡◌, ◌≢◌, ◌⊎◌, ◌≤◌, ℕ, List, length}
use Rattle.dp_frame.specs.Frames.{FrameParts}
use Rattle.dp_messages.specs.declared.message.Entry.{Entry}
use Rattle.dp_messages.specs.declared.message.Msg.{Msg}
use Rattle.dp_messages.specs.declared.message.Msg.TheVariants.{Opaque}
use Rattle.dp_messages.specs.Messages.{Spells}

-- the payload of this kind spelled the message there: messages of kind 70 were opaque, and none was
-- of kind 8
abbrev pub SpelledFirst : ℕ → List ℕ → Msg → Type 0
SpelledFirst kind payload m =
    ((kind ≡ 70) × (m ≡ Opaque 70 payload) × (length payload ≤ 65535))
    ⊎ ((kind ≢ 70) × (kind ≢ 8) × Spells kind payload m)

-- the frame stood for the entry there, wherever it was
pub record StoodFirst (before : ℕ) (frame : FrameParts) (entry : Entry) : Type 0 where
  pub user : entry.user ≡ frame.user
  pub spelled : SpelledFirst frame.kind frame.body entry.msg
