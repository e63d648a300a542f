-- What the messages of a link lead to.
use Rattle.std.specs.Prelude.{◌≡◌, ◌⊎◌, ℕ, ◌+◌, ◌-◌, ◌<◌, ◌≤◌, Bool, true, false}
use Rattle.std.specs.Prelude.{List, [], ◌∷◌, ◌++◌, length, take, Option, Result, Ok, Err, IsErr, ⊤}
use Rattle.std.specs.List.{AllByRecursion, flat_map}
use Rattle.std.specs.Io.KnownBytes.{Consumes}
use Rattle.dp_io.specs.Faults.{Rose}
use Rattle.dp_frame.specs.Frames.{FrameParts, IsFrame, spelling, HoldsNoFrame}
use Rattle.dp_split.specs.Stream.{Stream}
use Rattle.dp_hall.specs.Laws.{Continues}
use Rattle.dp_messages.specs.declared.message.Msg.{Msg}
use Rattle.dp_messages.specs.Messages.{Spells}
use Rattle.dp_messages.specs.Properties.{is_disconnect}
use Rattle.dp_epochs.specs.declared.event.Event.TheVariants.{Say, Close}
use Rattle.dp_epochs.specs.declared.event.Reply.{Reply}
use Rattle.dp_epochs.specs.declared.event.Reply.TheVariants as reply
use Rattle.dp_link.specs.declared.ends.UpEnd.{UpEnd}
use Rattle.dp_link.specs.declared.ends.UpEnd.TheVariants as up
use Rattle.dp_link.specs.Acts.{SeatView, IsAct}
use Rattle.dp_session_laws.specs.Logs.{ReplyOrMemory, LogEntry}
use Rattle.dp_link.specs.Bytes.{BeginsWithNoMessage}
use Rattle.dp_messages.specs.declared.message.Entry.{Entry}
use Rattle.dp_entries.specs.Anywhere.{StandsAnywhere}
use Rattle.dp_entries.specs.Onward.{ReadOn}
use Rattle.dp_entries.specs.Reader.{Reader}
use Rattle.dp_io.specs.Limits.{stream_limit}

-- ---- the messages that are said

-- after this reply nothing more is said: the session has ended, or its store has failed
abbrev pub stops : Reply → Bool
stops reply.Ended = true
stops (reply.StoreFault count) = true
stops other = false

-- it was answered, and more may be said
abbrev pub MayGoOn : ReplyOrMemory → Type 0
MayGoOn (Ok answer) = stops answer ≡ false
MayGoOn (Err error) = ⊥

-- the act is a Say of the message by the connection, after which more may be said; no Disconnect
pub record IsSaid (conn : ℕ) (m : Msg) (act : LogEntry) : Type 0 where
  pub event_is : act.event ≡ Say conn m
  pub may_go_on : MayGoOn act.outcome
  pub stays : is_disconnect m ≡ false

-- the acts are such Says of the messages, in order
abbrev pub AreSaid : ℕ → List Msg → List LogEntry → Type 0
AreSaid conn [] [] = ⊤
AreSaid conn [] (act ∷ acts) = ⊥
AreSaid conn (m ∷ messages) [] = ⊥
AreSaid conn (m ∷ messages) (act ∷ acts) = IsSaid conn m act × AreSaid conn messages acts

-- the acts are such Says up to a last one, of whose message and outcome P holds
pub record AreSaidTo (P : Msg → ReplyOrMemory → Type 0) (conn : ℕ) (messages : List Msg)
    (acts : List LogEntry) : Type 0 where
  pub earlier : List Msg
  pub before : List LogEntry
  pub last : Msg
  pub act : LogEntry
  pub messages_are : messages ≡ earlier ++ last ∷ []
  pub acts_are : acts ≡ before ++ act ∷ []
  pub said : AreSaid conn earlier before
  pub event_is : act.event ≡ Say conn last
  pub meets : P last act.outcome

-- How the last Say ended a link, by the end: a Disconnect was said, the reply stops it, or it was
-- refused because memory ran out. The other ends come after Says that all went on.
abbrev pub SaidBy : UpEnd → ℕ → List Msg → List LogEntry → Type 0
SaidBy up.Left conn messages acts =
    AreSaidTo (λ m outcome. (is_disconnect m ≡ true) × MayGoOn outcome) conn messages acts
SaidBy (up.Refused answer) conn messages acts =
    AreSaidTo (λ m outcome. (outcome ≡ Ok answer) × (stops answer ≡ true)) conn messages acts
SaidBy up.Memory conn messages acts =
    AreSaid conn messages acts ⊎ AreSaidTo (λ m outcome. IsErr outcome) conn messages acts
SaidBy up.End conn messages acts = AreSaid conn messages acts
SaidBy up.ReadFault conn messages acts = AreSaid conn messages acts
SaidBy (up.BadMessage at) conn messages acts = AreSaid conn messages acts
SaidBy up.Long conn messages acts = AreSaid conn messages acts
SaidBy (up.NotGreeted end) conn messages acts = ⊥

-- ---- the bytes

-- the frames spell the messages, one each
abbrev pub AreSpelled : List FrameParts → List Msg → Type 0
AreSpelled [] [] = ⊤
AreSpelled [] (m ∷ messages) = ⊥
AreSpelled (frame ∷ frames) [] = ⊥
AreSpelled (frame ∷ frames) (m ∷ messages) =
    Spells frame.kind frame.body m × AreSpelled frames messages

-- the bytes are frames that spell the messages, and then the rest
pub record SpellFirst (bytes : List ℕ) (messages : List Msg) (rest : List ℕ) : Type 0 where
  pub frames : List FrameParts
  pub each : AllByRecursion IsFrame frames
  pub spelled : AreSpelled frames messages
  pub whole : bytes ≡ flat_map spelling frames ++ rest

-- the bytes of a link from where a splitter stands on, of which these were read later
abbrev pub link_bytes : Stream → List ℕ → List ℕ
link_bytes stream read = stream.held ++ read

-- those of them that count
abbrev pub counted : Stream → List ℕ → List ℕ
counted stream read = take (stream_limit - stream.at) (link_bytes stream read)

-- how many bytes the link has given so
abbrev pub given_count : Stream → List ℕ → ℕ
given_count stream read = stream.at + length (link_bytes stream read)

-- What is after the messages that were said, by the end. It is no whole frame, if all bytes count
-- or if others were read. Or it is a frame that spells no message and begins at that byte of the
-- link.
abbrev pub RestBy : UpEnd → Stream → List ℕ → List ℕ → Type 0
RestBy up.End stream read rest = HoldsNoFrame rest × (given_count stream read ≤ stream_limit)
RestBy up.ReadFault stream read rest = HoldsNoFrame rest × (given_count stream read ≤ stream_limit)
RestBy up.Long stream read rest = HoldsNoFrame rest × (stream_limit < given_count stream read)
RestBy (up.BadMessage at) stream read rest =
    BeginsWithNoMessage rest × (at + length rest ≡ stream.at + length (counted stream read))
RestBy up.Left stream read rest = ⊤
RestBy (up.Refused answer) stream read rest = ⊤
RestBy up.Memory stream read rest = ⊤
RestBy (up.NotGreeted end) stream read rest = ⊥

-- ---- the whole

-- What saying the messages of a link did. It read these bytes if the link's are known. These acts
-- are Says of the first messages, and then a Close, of which that came.
pub record AreSays (left unread : Option (List ℕ)) (stream : Stream) (conn : ℕ) (end : UpEnd)
    (outcome : ReplyOrMemory) (acts : List LogEntry) : Type 0 where
  pub read : List ℕ
  pub messages : List Msg
  pub rest : List ℕ
  pub says : List LogEntry
  pub close : LogEntry
  pub read_is : Consumes left unread read
  pub heard : SpellFirst (counted stream read) messages rest
  pub acts_are : acts ≡ says ++ close ∷ []
  pub closes : IsAct close (Close conn) outcome
  pub said : SaidBy end conn messages says
  pub rests : RestBy end stream read rest

-- a seat did that
pub record SaysAll (v w : SeatView) (left unread : Option (List ℕ)) (stream : Stream) (conn : ℕ)
    (end : UpEnd) (outcome : ReplyOrMemory) : Type 0 where
  pub acts : List LogEntry
  pub goes : Continues v acts w
  pub are : AreSays left unread stream conn end outcome acts

-- the count of faults of the link's source: ReadFault comes only if it rose, and else it stays
abbrev pub FaultMatchesUp : UpEnd → ℕ → ℕ → Type 0
FaultMatchesUp up.ReadFault before now = Rose before now
FaultMatchesUp up.Left before now = now ≡ before
FaultMatchesUp up.End before now = now ≡ before
FaultMatchesUp (up.BadMessage at) before now = now ≡ before
FaultMatchesUp up.Long before now = now ≡ before
FaultMatchesUp (up.Refused answer) before now = now ≡ before
FaultMatchesUp (up.NotGreeted end) before now = now ≡ before
FaultMatchesUp up.Memory before now = now ≡ before

-- ---- parts of it

-- the messages of entries
abbrev pub messages_of : List Entry → List Msg
messages_of [] = []
messages_of (entry ∷ entries) = entry.msg ∷ messages_of entries

-- The messages that a reader gave were said, and all went on. It began with this stream, of a link
-- with this unread now.
pub record SaidSoFar (v w : SeatView) (left unread : Option (List ℕ)) (start : Stream)
    (link : Reader) (conn : ℕ) : Type 0 where
  pub entries : List Entry
  pub says : List LogEntry
  pub given : ReadOn StandsAnywhere left unread start entries link
  pub limit : link.limit ≡ stream_limit
  pub goes : Continues v says w
  pub said : AreSaid conn (messages_of entries) says

-- what saying did up to the end of the link
pub record SaidToEnd (v w : SeatView) (left unread : Option (List ℕ)) (stream : Stream) (conn : ℕ)
    (end : UpEnd) : Type 0 where
  pub read : List ℕ
  pub messages : List Msg
  pub rest : List ℕ
  pub says : List LogEntry
  pub read_is : Consumes left unread read
  pub heard : SpellFirst (counted stream read) messages rest
  pub goes : Continues v says w
  pub said : SaidBy end conn messages says
  pub rests : RestBy end stream read rest

-- by what came of the next messages: they were said, and all went on; or the link ended with this
abbrev pub SaysNext : Result Unit UpEnd → SeatView → SeatView → Option (List ℕ) → Option (List ℕ)
    → Stream → Reader → ℕ → Type 0
SaysNext (Ok done) v w left unread start link conn = SaidSoFar v w left unread start link conn
SaysNext (Err end) v w left unread start link conn = SaidToEnd v w left unread start conn end

-- the count of faults of the link's source after it
abbrev pub FaultMatchesSay : Result Unit UpEnd → ℕ → ℕ → Type 0
FaultMatchesSay (Ok done) before now = now ≡ before
FaultMatchesSay (Err end) before now = FaultMatchesUp end before now
