-- Rows of the first profile, as they were read there.
--
-- Today's definitions of a session have two things that the first profile lacks: a depth of undo
-- that is set and carried, and a reset that keeps entries. No message of it sets a depth or begins
-- such a reset.
use Rattle.std.specs.Prelude.{◌≡◌, ℕ, ◌<◌, ◌^◌, true, List, [], ◌∷◌, ◌++◌, length, ⊤}
use Rattle.dp_fields.specs.Fields.{one_byte, four_bytes, flag_byte}
use Rattle.dp_messages.specs.declared.message.Msg.{Msg}
use Rattle.dp_keeper.specs.declared.row.Row.{Row}
use Rattle.dp_epochs.specs.declared.event.Event.{Event}
use Rattle.dp_epochs.specs.declared.event.Event.TheVariants.{Open, Say, Close}
use Rattle.dp_epochs.specs.Rows.{has_room}
use Rattle.dp_epochs.specs.Past.{state_after}
use Rattle.dp_epochs.specs.Resumed.{NamesGiven}
use Rattle.dp_recording_laws.specs.FirstProfile.{SpelledFirst}

-- the bytes were 1, the connection, and the kind and the payload of the message there
pub record SpelledSay (bytes : List ℕ) (conn : ℕ) (m : Msg) : Type 0 where
  pub kind : ℕ
  pub payload : List ℕ
  pub is : bytes ≡ one_byte 1 ++ four_bytes conn ++ one_byte kind ++ payload
  pub fits : conn < 2 ^ 32
  pub spelled : SpelledFirst kind payload m

-- the bytes of a row spelled the event there
abbrev pub RowSpelled : List ℕ → Event → Type 0
RowSpelled bytes (Open name registered) = bytes ≡ one_byte 0 ++ flag_byte registered ++ name
RowSpelled bytes (Say conn m) = SpelledSay bytes conn m
RowSpelled bytes (Close conn) = (bytes ≡ one_byte 2 ++ four_bytes conn) × (conn < 2 ^ 32)

-- After the rows of these events the row stood as that of one event more: it has the next number
-- and spelled the event, its connection was given out, and there was room.
pub record StoodNext (before : List Event) (row : Row) (e : Event) : Type 0 where
  pub number : row.n ≡ length before
  pub spelled : RowSpelled row.bytes e
  pub given : NamesGiven (state_after before []) e
  pub room : has_room before e ≡ true

-- after the rows of some events, further rows were those of further events
abbrev pub StoodAfter : List Event → List Row → List Event → Type 0
StoodAfter before [] [] = ⊤
StoodAfter before [] (e ∷ events) = ⊥
StoodAfter before (row ∷ rows) [] = ⊥
StoodAfter before (row ∷ rows) (e ∷ events) =
    StoodNext before row e × StoodAfter (before ++ e ∷ []) rows events

-- the rows were those of a journal
abbrev pub WereRowsOf : List Row → List Event → Type 0
WereRowsOf rows journal = StoodAfter [] rows journal
