-- What a run of `join` over a link leaves.
use Rattle.std.specs.Prelude.{◌≡◌, ◌⊎◌, ℕ, false, List, [], ◌∷◌, ◌++◌, Option, None, Some, IfSome}
use Rattle.std.specs.Io.KnownBytes.{Appends, IsAtEnd}
use Rattle.dp_board.specs.Counts.{CountsFew}
use Rattle.dp_io.specs.Faults.{Rose}
use Rattle.dp_io.specs.Streams.{GrowsByPrefix}
use Rattle.dp_msg_draw.specs.declared.draw.Draw.{Draw}
use Rattle.dp_messages.specs.declared.message.Entry.{Entry}
use Rattle.dp_pixels.specs.Feet.{reach}
use Rattle.dp_lines.specs.declared.line.Line.{Line}
use Rattle.dp_lines.specs.declared.run_end.RunEnd.{RunEnd}
use Rattle.dp_lines.specs.declared.run_end.RunEnd.TheVariants.{Done, BadLine, ReadFault, WriteFault}
use Rattle.dp_lines.specs.declared.run_end.RunEnd.TheVariants.{LinkFault, Memory, Long, Truncated}
use Rattle.dp_lines.specs.declared.run_end.RunEnd.TheVariants.{BadMessage, Closed, BadHeader}
use Rattle.dp_lines.specs.Ends.{LinesComeTo, seen}
use Rattle.dp_lines.specs.Ends as ends
use Rattle.dp_schedule.specs.declared.join_action.JoinAction.{JoinAction}
use Rattle.dp_line_machine.specs.Counters.{Counters}
use Rattle.dp_line_machine.specs.Leaves.{HoldsLines, HoldsNoCause, AreFirstOf}
use Rattle.dp_lines.specs.TakenParts.{TookWithin}
use Rattle.dp_line_machine.specs.Limits.{lines_limit}
use Rattle.dp_joiner.specs.Joining.{Joining, Progress, Goes, came_to, greeted, joined, newcomer}
use Rattle.dp_join_link.specs.Sent.{farewell_bytes}
use Rattle.dp_join_link.specs.Given.{is_closed}
use Rattle.dp_join_link.specs.Links.{BeginsWith}
use Rattle.dp_join_link.specs.Reading.{HasGiven}
use Rattle.dp_joiner.specs.Steps.{Seen, Stands}
use Rattle.dp_joining.specs.Outcomes.{AllAsk, IsJoinStep, JoinComesTo, JoinOutcome}

-- What a run sees of its devices before and after it. The bytes that are left of the script, and
-- those of the link at the start. The bytes on the output and those written to the link, and the
-- counters of draws and of tiles.
pub record Traffic : Type 0 where
  pub input : Option (List ℕ)
  pub left : Option (List ℕ)
  pub link : Option (List ℕ)
  pub print_old : Option (List ℕ)
  pub print_now : Option (List ℕ)
  pub sent_old : Option (List ℕ)
  pub sent_now : Option (List ℕ)
  pub counters : Counters

-- P holds of the bytes of the script and of the link, if both are known
abbrev pub WhereKnown : Traffic → (List ℕ → List ℕ → Type 0) → Type 0
WhereKnown t P = IfSome t.input (λ input. IfSome t.link (λ link. P input link))

-- each of these commands was drawn once at most, and no more tiles were made than they reach
abbrev pub DrawsFew : Counters → List Draw → Type 0
DrawsFew c due = CountsFew reach due c.draws c.draws_now c.tiles c.tiles_now

-- What the script and the link come to ends with this. Its text and its bytes were written, and no
-- more was drawn than is due.
abbrev pub WritesAll : List ℕ → Traffic → RunEnd → Type 0
WritesAll name t end =
    WhereKnown t (λ input link. (outcome : JoinOutcome) × JoinComesTo name input link outcome
    × (outcome.end ≡ end) × Appends t.print_old t.print_now outcome.text
    × Appends t.sent_old t.sent_now outcome.written × DrawsFew t.counters outcome.due)

-- what is written after what lines write: nothing, or the Disconnect if they are all lines of
-- the script
abbrev pub IsParting : List ℕ → List Line → Progress → List ℕ → Type 0
IsParting input begun progress parting =
    (parting ≡ [])
    ⊎ (LinesComeTo IsJoinStep lines_limit input begun ends.AllDone
    × (j : Joining) × (left : List Entry) × (progress ≡ Goes j left)
    × (parting ≡ farewell_bytes j.client.user))

-- Prefixes of them were written: of what some of the first lines come to, with some of the first
-- entries of the link. No more was drawn than is due then.
pub record WritesPart (name : List ℕ) (t : Traffic) (input link : List ℕ) : Type 0 where
  pub begun : List Line
  pub prefix : AreFirstOf IsJoinStep (seen lines_limit input) begun
  pub actions : List JoinAction
  pub asked : AllAsk begun actions
  pub entries : List Entry
  pub begins : BeginsWith link entries
  pub text : GrowsByPrefix t.print_old t.print_now (came_to (joined name actions entries)).text
  pub parting : List ℕ
  pub is_parting : IsParting input begun (joined name actions entries) parting
  pub written : GrowsByPrefix t.sent_old t.sent_now
      ((came_to (joined name actions entries)).written ++ parting)
  pub counts : DrawsFew t.counters (came_to (joined name actions entries)).due

-- the lines that are whole in what was taken of the script were done, and nothing more was written
pub record WritesTaken (name : List ℕ) (t : Traffic) (input link : List ℕ) : Type 0 where
  pub done : List Line
  pub took : TookWithin (HoldsLines IsJoinStep lines_limit done) 0 input t.left
  pub actions : List JoinAction
  pub asked : AllAsk done actions
  pub entries : List Entry
  pub begins : BeginsWith link entries
  pub joining : Joining
  pub goes : joined name actions entries ≡ Goes joining []
  pub text : Appends t.print_old t.print_now joining.text
  pub written : Appends t.sent_old t.sent_now joining.written
  pub counts : DrawsFew t.counters joining.due

-- If the script's bytes are known, what was taken of it holds no cause to end. The last bytes of
-- it, at most a piece of 4096, may hold one.
abbrev pub ReadsNoFurther : Option (List ℕ) → Option (List ℕ) → Type 0
ReadsNoFurther input left =
    IfSome input (λ bytes. TookWithin (HoldsNoCause IsJoinStep lines_limit) 4096 bytes left)

-- if the link's bytes begin with no Welcome, nothing was taken of the script
abbrev pub WaitsUnread : List ℕ → Option (List ℕ) → Option (List ℕ) → Option (List ℕ) → Type 0
WaitsUnread name link input left = IfSome link (λ bytes.
    ((first : Entry) → BeginsWith bytes (first ∷ []) → greeted name first.msg ≡ None)
    → left ≡ input)

-- what was printed and what was written to the link are prefixes of those of the outcome, and no
-- more was drawn than is due
abbrev pub GrowsTowards : Traffic → JoinOutcome → Type 0
GrowsTowards t outcome = GrowsByPrefix t.print_old t.print_now outcome.text
    × GrowsByPrefix t.sent_old t.sent_now outcome.written × DrawsFew t.counters outcome.due

-- the same holds of each outcome to which the script and the link come
abbrev pub BeginsDue : List ℕ → Traffic → List ℕ → List ℕ → Type 0
BeginsDue name t input link =
    (outcome : JoinOutcome) → JoinComesTo name input link outcome → GrowsTowards t outcome

-- the client was welcomed by this entry, and stands if it has greeted the server
pub record IsWelcome (name : List ℕ) (link : Option (List ℕ)) (first start : Seen)
    (welcome : Entry) : Type 0 where
  pub greets : greeted name welcome.msg ≡ Some (newcomer start.client name)
  pub stands : Stands first start (newcomer start.client name)
  pub has_given : IfSome link (λ bytes. HasGiven start.source bytes (welcome ∷ []))
  pub still : is_closed (welcome ∷ []) ≡ false

-- What a run with this end leaves.
abbrev pub JoinLeaves : List ℕ → Traffic → RunEnd → Type 0
JoinLeaves name t Done = IsAtEnd t.left × WritesAll name t Done
JoinLeaves name t (BadLine n) = WritesAll name t (BadLine n)
JoinLeaves name t Long = WritesAll name t Long
JoinLeaves name t Closed = WritesAll name t Closed
JoinLeaves name t (BadMessage n) = WritesAll name t (BadMessage n)
JoinLeaves name t ReadFault = WhereKnown t (WritesTaken name t)
JoinLeaves name t WriteFault = WhereKnown t (WritesPart name t)
JoinLeaves name t LinkFault = WhereKnown t (WritesPart name t)
JoinLeaves name t Memory = WhereKnown t (WritesPart name t)
JoinLeaves name t (Truncated n) = ⊥
JoinLeaves name t BadHeader = ⊥

-- the counts of faults of the script, the output, the link's source and its sink
pub record Counts : Type 0 where
  pub input : ℕ
  pub output : ℕ
  pub source : ℕ
  pub sink : ℕ

-- no count but that of the script has changed
pub record OthersStay (old now : Counts) : Type 0 where
  pub output : now.output ≡ old.output
  pub source : now.source ≡ old.source
  pub sink : now.sink ≡ old.sink

-- Which counts of faults change in a run with this end: that of the fault rises, and each other
-- stays.
abbrev pub FaultMatchesJoin : Counts → Counts → RunEnd → Type 0
FaultMatchesJoin old now ReadFault = Rose old.input now.input × OthersStay old now
FaultMatchesJoin old now WriteFault =
    (now.input ≡ old.input) × Rose old.output now.output × (now.source ≡ old.source)
    × (now.sink ≡ old.sink)
FaultMatchesJoin old now LinkFault =
    (now.input ≡ old.input) × (now.output ≡ old.output)
    × (Rose old.sink now.sink ⊎ Rose old.source now.source)
FaultMatchesJoin old now Done = (now.input ≡ old.input) × OthersStay old now
FaultMatchesJoin old now (BadLine n) = (now.input ≡ old.input) × OthersStay old now
FaultMatchesJoin old now Memory = (now.input ≡ old.input) × OthersStay old now
FaultMatchesJoin old now Long = (now.input ≡ old.input) × OthersStay old now
FaultMatchesJoin old now (Truncated n) = (now.input ≡ old.input) × OthersStay old now
FaultMatchesJoin old now (BadMessage n) = (now.input ≡ old.input) × OthersStay old now
FaultMatchesJoin old now Closed = (now.input ≡ old.input) × OthersStay old now
FaultMatchesJoin old now BadHeader = (now.input ≡ old.input) × OthersStay old now
