-- Which bytes of a row spell which event.
use Rattle.std.specs.Prelude.{◌≡◌, ◌⊎◌, ℕ, ◌<◌, ◌^◌, List, ◌++◌, ⊤}
use Rattle.dp_fields.specs.Fields.{one_byte, four_bytes, flag_byte}
use Rattle.dp_messages.specs.declared.message.Msg.{Msg}
use Rattle.dp_messages.specs.Messages.{HasSpelling, Lifts, Spells}
use Rattle.dp_epochs.specs.declared.event.Event.{Event}
use Rattle.dp_epochs.specs.declared.event.Event.TheVariants.{Open, Say, Close}

-- How a Say's row has its message, by its first byte: 3 as it is spelled, and 1 as it was spelled
-- in the first profile.
abbrev pub RowSays : ℕ → ℕ → List ℕ → Msg → Type 0
RowSays first kind payload m =
    ((first ≡ 3) × Spells kind payload m) ⊎ ((first ≡ 1) × Lifts kind payload m)

-- the bytes are the first byte, the connection, and the kind and the payload of the message
pub record SpellsSay (bytes : List ℕ) (conn : ℕ) (m : Msg) : Type 0 where
  pub first : ℕ
  pub kind : ℕ
  pub payload : List ℕ
  pub is : bytes ≡ one_byte first ++ four_bytes conn ++ one_byte kind ++ payload
  pub fits : conn < 2 ^ 32
  pub said : RowSays first kind payload m

-- the bytes of a row spell the event
abbrev pub RowSpells : List ℕ → Event → Type 0
RowSpells bytes (Open name registered) = bytes ≡ one_byte 0 ++ flag_byte registered ++ name
RowSpells bytes (Say conn m) = SpellsSay bytes conn m
RowSpells bytes (Close conn) = (bytes ≡ one_byte 2 ++ four_bytes conn) × (conn < 2 ^ 32)

-- The event has a row: a connection is a number of four bytes, and a message has a spelling.
abbrev pub HasRow : Event → Type 0
HasRow (Open name registered) = ⊤
HasRow (Say conn m) = (conn < 2 ^ 32) × HasSpelling m
HasRow (Close conn) = conn < 2 ^ 32
