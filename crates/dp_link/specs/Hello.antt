-- What greeting a painter does: what was read, what was acted and what the peer took, by how it
-- ended.
use Rattle.std.specs.Prelude.{◌≡◌, ◌⊎◌, ℕ, ◌+◌, false, List, [], ◌∷◌, length, Option, Some}
use Rattle.std.specs.Prelude.{Result, Ok, Err, ⊤}
use Rattle.std.specs.Io.KnownBytes.{Appends, Consumes, Keeps}
use Rattle.std.specs.declared.alloc.AllocError.{AllocError}
use Rattle.dp_io.specs.Faults.{Rose}
use Rattle.dp_io.specs.Streams.{GrowsByPrefix}
use Rattle.dp_frame.specs.Frames.{HoldsNoFrame}
use Rattle.dp_split.specs.Stream.{Stream}
use Rattle.dp_hall.specs.Laws.{Continues}
use Rattle.dp_messages.specs.Messages.{entry_bytes}
use Rattle.dp_messages.specs.declared.message.Msg.{Msg}
use Rattle.dp_messages.specs.declared.message.Msg.TheVariants as msg
use Rattle.dp_msg_meta.specs.declared.message.Control.TheVariants.{Hello}
use Rattle.dp_epochs.specs.declared.event.Event.TheVariants.{Open, Close}
use Rattle.dp_epochs.specs.declared.event.Reply.{Reply}
use Rattle.dp_link.specs.declared.ends.Greeting.{Greeting}
use Rattle.dp_link.specs.declared.ends.GreetEnd.{GreetEnd}
use Rattle.dp_link.specs.declared.ends.GreetEnd.TheVariants as greet
use Rattle.dp_link.specs.Acts.{SeatView, IsAct}
use Rattle.dp_session_laws.specs.Logs.{ReplyOrMemory, LogEntry}
use Rattle.dp_link.specs.Answers.{welcome, goodbye, opened_as, reason_of}
use Rattle.dp_link.specs.Bytes.{BeginsWithHello, BeginsWithoutHello}

-- ---- the answer to a Hello

-- these acts are an Open by the name, not registered, of which that came
abbrev pub AreOpen : List ℕ → ReplyOrMemory → List LogEntry → Type 0
AreOpen name outcome acts =
    (act : LogEntry) × (acts ≡ act ∷ []) × IsAct act (Open name false) outcome

-- these acts are an Open by the name that was answered by this greeting, and a Close of its
-- connection, whatever that was answered
abbrev pub AreOpenAndClose : List ℕ → Greeting → List LogEntry → Type 0
AreOpenAndClose name greeting acts =
    (act close : LogEntry) × (acts ≡ act ∷ close ∷ [])
    × IsAct act (Open name false) (Ok (opened_as greeting))
    × (close.event ≡ Close greeting.conn)

-- these acts are an Open by the name that was refused with this reply, for this reason
abbrev pub AreRefused : List ℕ → Reply → ℕ → List LogEntry → Type 0
AreRefused name reply reason acts = AreOpen name (Ok reply) acts × (reason_of reply ≡ Some reason)

-- By how the answer ended: a Hello of the name led to these acts, and the peer took that.
abbrev pub AnswersBy : Result Greeting GreetEnd → List ℕ → List LogEntry → Option (List ℕ)
    → Option (List ℕ) → Type 0
AnswersBy (Ok greeting) name acts held taken =
    AreOpen name (Ok (opened_as greeting)) acts
    × Appends held taken (entry_bytes (welcome greeting))
AnswersBy (Err (greet.Refused reply)) name acts held taken =
    (reason : ℕ) × AreRefused name reply reason acts
    × Appends held taken (entry_bytes (goodbye reason))
AnswersBy (Err greet.WriteFault) name acts held taken =
    ((greeting : Greeting) × AreOpenAndClose name greeting acts
    × GrowsByPrefix held taken (entry_bytes (welcome greeting)))
    ⊎ ((reply : Reply) × (reason : ℕ) × AreRefused name reply reason acts
    × GrowsByPrefix held taken (entry_bytes (goodbye reason)))
AnswersBy (Err greet.Memory) name acts held taken =
    (error : AllocError) × AreOpen name (Err error) acts × Keeps held taken
AnswersBy (Err greet.ReadFault) name acts held taken = ⊥
AnswersBy (Err greet.End) name acts held taken = ⊥
AnswersBy (Err (greet.BadMessage at)) name acts held taken = ⊥

-- what the answer did: it acted these acts
pub record Answers (v w : SeatView) (held taken : Option (List ℕ)) (name : List ℕ)
    (result : Result Greeting GreetEnd) : Type 0 where
  pub acts : List LogEntry
  pub goes : Continues v acts w
  pub by : AnswersBy result name acts held taken

-- ---- the whole

-- nothing was acted, and the peer took nothing
abbrev pub DoesNothing : List LogEntry → Option (List ℕ) → Option (List ℕ) → Type 0
DoesNothing acts held taken = (acts ≡ []) × Keeps held taken

-- By how greeting ended. The bytes that were read hold no whole frame. Or their first frame carries
-- no Hello, or it carries one, whose answer led to this end. After a Welcome the bytes behind the
-- Hello are held.
abbrev pub GreetsBy : Result Greeting GreetEnd → List ℕ → Stream → List LogEntry → Option (List ℕ)
    → Option (List ℕ) → Type 0
GreetsBy (Ok greeting) read stream acts held taken =
    (name : List ℕ) × BeginsWithHello read name stream.held
    × (stream.at + length stream.held ≡ length read)
    × AnswersBy (Ok greeting) name acts held taken
GreetsBy (Err greet.ReadFault) read stream acts held taken =
    HoldsNoFrame read × DoesNothing acts held taken
GreetsBy (Err greet.End) read stream acts held taken =
    HoldsNoFrame read × DoesNothing acts held taken
GreetsBy (Err (greet.BadMessage at)) read stream acts held taken =
    BeginsWithoutHello read × (at ≡ 0) × DoesNothing acts held taken
GreetsBy (Err greet.Memory) read stream acts held taken =
    DoesNothing acts held taken
    ⊎ ((name rest : List ℕ) × BeginsWithHello read name rest
    × AnswersBy (Err greet.Memory) name acts held taken)
GreetsBy (Err (greet.Refused reply)) read stream acts held taken =
    (name rest : List ℕ) × BeginsWithHello read name rest
    × AnswersBy (Err (greet.Refused reply)) name acts held taken
GreetsBy (Err greet.WriteFault) read stream acts held taken =
    (name rest : List ℕ) × BeginsWithHello read name rest
    × AnswersBy (Err greet.WriteFault) name acts held taken

-- what greeting did: it read these bytes if the link's are known, and acted these acts
pub record Greets (v w : SeatView) (left unread : Option (List ℕ)) (held taken : Option (List ℕ))
    (stream : Stream) (result : Result Greeting GreetEnd) : Type 0 where
  pub read : List ℕ
  pub acts : List LogEntry
  pub read_is : Consumes left unread read
  pub goes : Continues v acts w
  pub by : GreetsBy result read stream acts held taken

-- The counts of faults of the link's source and of its sink: ReadFault comes only if the first
-- one rose, and WriteFault only if the second did. Else both stay.
abbrev pub FaultMatchesHello : {T : Type 0} → Result T GreetEnd → ℕ → ℕ → ℕ → ℕ → Type 0
FaultMatchesHello (Ok value) read_old read write_old write = (read ≡ read_old) × (write ≡ write_old)
FaultMatchesHello (Err greet.ReadFault) read_old read write_old write =
    Rose read_old read × (write ≡ write_old)
FaultMatchesHello (Err greet.WriteFault) read_old read write_old write =
    (read ≡ read_old) × Rose write_old write
FaultMatchesHello (Err greet.End) read_old read write_old write =
    (read ≡ read_old) × (write ≡ write_old)
FaultMatchesHello (Err (greet.BadMessage at)) read_old read write_old write =
    (read ≡ read_old) × (write ≡ write_old)
FaultMatchesHello (Err (greet.Refused reply)) read_old read write_old write =
    (read ≡ read_old) × (write ≡ write_old)
FaultMatchesHello (Err greet.Memory) read_old read write_old write =
    (read ≡ read_old) × (write ≡ write_old)

-- ---- parts of it

-- the name of the Hello that the first message of a link is
abbrev pub NameOf : Result (List ℕ) GreetEnd → Msg → Type 0
NameOf (Ok name) m = m ≡ msg.Control (Hello name)
NameOf (Err (greet.BadMessage at)) m =
    (at ≡ 0) × ((name : List ℕ) → ¬ (m ≡ msg.Control (Hello name)))
NameOf (Err greet.Memory) m = ⊤
NameOf (Err greet.ReadFault) m = ⊥
NameOf (Err greet.End) m = ⊥
NameOf (Err (greet.Refused reply)) m = ⊥
NameOf (Err greet.WriteFault) m = ⊥

-- reading the name of the Hello of a link, by how it ended
abbrev pub NamesBy : Result (List ℕ) GreetEnd → List ℕ → Stream → Type 0
NamesBy (Ok name) read stream =
    BeginsWithHello read name stream.held × (stream.at + length stream.held ≡ length read)
NamesBy (Err greet.ReadFault) read stream = HoldsNoFrame read
NamesBy (Err greet.End) read stream = HoldsNoFrame read
NamesBy (Err (greet.BadMessage at)) read stream = BeginsWithoutHello read × (at ≡ 0)
NamesBy (Err greet.Memory) read stream = ⊤
NamesBy (Err (greet.Refused reply)) read stream = ⊥
NamesBy (Err greet.WriteFault) read stream = ⊥

-- what reading the name did
pub record ReadsName (left unread : Option (List ℕ)) (stream : Stream)
    (result : Result (List ℕ) GreetEnd) : Type 0 where
  pub read : List ℕ
  pub read_is : Consumes left unread read
  pub by : NamesBy result read stream

-- writing the Welcome: if it failed the connection was closed, and that came of the Close
abbrev pub WelcomesBy : Result Unit ReplyOrMemory → Greeting → List LogEntry → Option (List ℕ)
    → Option (List ℕ) → Type 0
WelcomesBy (Ok done) greeting acts held taken =
    (acts ≡ []) × Appends held taken (entry_bytes (welcome greeting))
WelcomesBy (Err outcome) greeting acts held taken =
    (close : LogEntry) × (acts ≡ close ∷ []) × IsAct close (Close greeting.conn) outcome
    × GrowsByPrefix held taken (entry_bytes (welcome greeting))

pub record Welcomes (v w : SeatView) (held taken : Option (List ℕ)) (greeting : Greeting)
    (result : Result Unit ReplyOrMemory) : Type 0 where
  pub acts : List LogEntry
  pub goes : Continues v acts w
  pub by : WelcomesBy result greeting acts held taken

-- the count of the sink's faults after the Welcome
abbrev pub FaultMatchesWelcome : Result Unit ReplyOrMemory → ℕ → ℕ → Type 0
FaultMatchesWelcome (Ok done) before now = now ≡ before
FaultMatchesWelcome (Err outcome) before now = Rose before now

-- the count of the sink's faults after the Disconnect
abbrev pub FaultMatchesRefusal : GreetEnd → ℕ → ℕ → Type 0
FaultMatchesRefusal greet.WriteFault before now = Rose before now
FaultMatchesRefusal other before now = now ≡ before

-- writing the Disconnect after an Open that was refused with this reply
abbrev pub RefusesBy : GreetEnd → Reply → Option (List ℕ) → Option (List ℕ) → Type 0
RefusesBy (greet.Refused other) reply held taken =
    (other ≡ reply) × (reason : ℕ) × (reason_of reply ≡ Some reason)
    × Appends held taken (entry_bytes (goodbye reason))
RefusesBy greet.WriteFault reply held taken =
    (reason : ℕ) × (reason_of reply ≡ Some reason)
    × GrowsByPrefix held taken (entry_bytes (goodbye reason))
RefusesBy other reply held taken = ⊥
