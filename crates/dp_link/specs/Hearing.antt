-- Messages that a link holds whole: they are heard one after the other, and then said in one turn.
use Rattle.std.specs.Prelude.{◌≡◌, ℕ, Bool, true, false}
use Rattle.std.specs.Prelude.{List, [], ◌∷◌, ◌++◌, Option, None, Some, Result, Ok, Err, ⊤}
use Rattle.std.specs.Io.KnownBytes.{Consumes}
use Rattle.dp_split.specs.Stream.{Stream}
use Rattle.dp_hall.specs.Calls.{ActsBy}
use Rattle.dp_hall.specs.Laws.{Continues}
use Rattle.dp_messages.specs.declared.message.Entry.{Entry}
use Rattle.dp_messages.specs.declared.message.Msg.{Msg}
use Rattle.dp_messages.specs.Properties.{is_disconnect}
use Rattle.dp_entries.specs.Anywhere.{StandsAnywhere}
use Rattle.dp_entries.specs.Onward.{ReadOn}
use Rattle.dp_entries.specs.Reader.{Reader}
use Rattle.dp_epochs.specs.declared.event.Event.{Event}
use Rattle.dp_epochs.specs.declared.event.Event.TheVariants.{Say}
use Rattle.dp_session_laws.specs.Journals.{is_kept}
use Rattle.dp_session_laws.specs.Logs.{ReplyOrMemory, LogEntry}
use Rattle.dp_link.specs.declared.ends.UpEnd.{UpEnd}
use Rattle.dp_link.specs.declared.ends.UpEnd.TheVariants as up
use Rattle.dp_link.specs.Acts.{SeatView}
use Rattle.dp_link.specs.Saying.{SpellFirst, counted, RestBy, messages_of}

-- ---- what is heard

-- a Say of each message by the connection
abbrev pub says_of : ℕ → List Msg → List Event
says_of conn [] = []
says_of conn (m ∷ messages) = Say conn m ∷ says_of conn messages

-- no message is a Disconnect but the last, which is one exactly if the link is left
abbrev pub LeavesLast : Bool → List Msg → Type 0
LeavesLast leaves [] = leaves ≡ false
LeavesLast leaves (m ∷ []) = is_disconnect m ≡ leaves
LeavesLast leaves (m ∷ next ∷ messages) =
    (is_disconnect m ≡ false) × LeavesLast leaves (next ∷ messages)

-- a frame that is held may spell no message, and memory may run out; nothing is read
abbrev pub EndsHearing : UpEnd → Type 0
EndsHearing (up.BadMessage at) = ⊤
EndsHearing up.Memory = ⊤
EndsHearing up.Left = ⊥
EndsHearing up.End = ⊥
EndsHearing up.ReadFault = ⊥
EndsHearing up.Long = ⊥
EndsHearing (up.Refused answer) = ⊥
EndsHearing (up.NotGreeted end) = ⊥

-- the bytes of a link spell these messages, and hearing it ended after them
pub record HeardEnd (left unread : Option (List ℕ)) (start : Stream) (messages : List Msg)
    (end : UpEnd) : Type 0 where
  pub read : List ℕ
  pub rest : List ℕ
  pub read_is : Consumes left unread read
  pub heard : SpellFirst (counted start read) messages rest
  pub rests : RestBy end start read rest
  pub by : EndsHearing end

-- a message more was heard by the reader, which had given these entries: a Say of it stands after
-- the earlier ones
pub record HeardOne (left unread : Option (List ℕ)) (start : Stream) (entries : List Entry)
    (conn : ℕ) (old new : List Event) (leaves : Bool) (link : Reader) : Type 0 where
  pub entry : Entry
  pub given : ReadOn StandsAnywhere left unread start (entries ++ entry ∷ []) link
  pub says_are : new ≡ old ++ Say conn entry.msg ∷ []
  pub leaves_is : is_disconnect entry.msg ≡ leaves

-- more messages were heard, and these are Says of them
pub record HeardMore (left unread : Option (List ℕ)) (start : Stream) (entries : List Entry)
    (conn : ℕ) (says : List Event) (leaves : Bool) (link : Reader) : Type 0 where
  pub more : List Entry
  pub given : ReadOn StandsAnywhere left unread start (entries ++ more) link
  pub says_are : says ≡ says_of conn (messages_of more)
  pub last : LeavesLast leaves (messages_of more)

-- more messages were heard, these are Says of them, and hearing ended after them
pub record HeardToEnd (left unread : Option (List ℕ)) (start : Stream) (entries : List Entry)
    (conn : ℕ) (says : List Event) (end : UpEnd) : Type 0 where
  pub more : List Entry
  pub says_are : says ≡ says_of conn (messages_of more)
  pub stay : LeavesLast false (messages_of more)
  pub ends : HeardEnd left unread start (messages_of (entries ++ more)) end

-- by what came of hearing
abbrev pub HeardBy : Result Bool UpEnd → Option (List ℕ) → Option (List ℕ) → Stream → List Entry → ℕ
    → List Event → Reader → Type 0
HeardBy (Ok leaves) left unread start entries conn says link =
    HeardMore left unread start entries conn says leaves link
HeardBy (Err end) left unread start entries conn says link =
    HeardToEnd left unread start entries conn says end

-- ---- what is said of it

-- A seat acted Says in one turn: all of them, or up to one that isn't kept, with this outcome.
pub record ActsSays (v : SeatView) (says : List Event) (stop : Option ReplyOrMemory) (w : SeatView)
    : Type 0 where
  pub acts : List LogEntry
  pub goes : Continues v acts w
  pub by : ActsBy is_kept v.name says acts stop

-- how a link ends by what came of saying and of hearing, if it does
abbrev pub end_by : Option ReplyOrMemory → Result Bool UpEnd → Result Unit UpEnd
end_by (Some (Ok answer)) heard = Err (up.Refused answer)
end_by (Some (Err error)) heard = Err up.Memory
end_by None (Ok true) = Err up.Left
end_by None (Ok false) = Ok tt
end_by None (Err end) = Err end
