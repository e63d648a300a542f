-- The row that is kept of an event, and how much may be kept.
use Rattle.std.specs.Prelude.{ℕ, ◌+◌, ◌^◌, ◌&&◌, Bool, nat_lt, nat_le}
use Rattle.std.specs.Prelude.{List, ◌++◌, length}
use Rattle.std.specs.List.{sum_by}
use Rattle.dp_fields.specs.Fields.{one_byte, four_bytes, flag_byte}
use Rattle.dp_messages.specs.Messages.{kind_of, payload_of}
use Rattle.dp_epochs.specs.declared.event.Event.{Event}
use Rattle.dp_epochs.specs.declared.event.Event.TheVariants.{Open, Say, Close}

-- The bytes of the row that is written for an event. Of an Open they are 0, the flag and the name.
-- Of a Say they are 3, the connection, the kind and the payload. Of a Close they are 2 and the
-- connection.
abbrev pub row_of : Event → List ℕ
row_of (Open name registered) = one_byte 0 ++ flag_byte registered ++ name
row_of (Say conn m) = one_byte 3 ++ four_bytes conn ++ one_byte (kind_of m) ++ payload_of m
row_of (Close conn) = one_byte 2 ++ four_bytes conn

-- how many bytes the rows of a journal have
abbrev pub row_bytes : List Event → ℕ
row_bytes journal = sum_by (λ event. length (row_of event)) journal

-- the most events of a journal
abbrev pub event_limit : ℕ
event_limit = 2 ^ 24

-- the most bytes of the rows of a journal
abbrev pub byte_limit : ℕ
byte_limit = 2 ^ 30

-- there is room for the event after the journal
abbrev pub has_room : List Event → Event → Bool
has_room journal event =
    nat_lt (length journal) event_limit
    && nat_le (row_bytes journal + length (row_of event)) byte_limit
