-- What a run of `join` comes to.
use Rattle.std.specs.Prelude.{◌≡◌, ◌⊎◌, ℕ, List, [], ◌∷◌, ◌++◌, ⊤}
use Rattle.dp_msg_draw.specs.declared.draw.Draw.{Draw}
use Rattle.dp_messages.specs.declared.message.Entry.{Entry}
use Rattle.dp_lines.specs.declared.line.Line.{Line}
use Rattle.dp_lines.specs.declared.run_end.RunEnd.{RunEnd}
use Rattle.dp_lines.specs.declared.run_end.RunEnd.TheVariants as run
use Rattle.dp_lines.specs.Ends.{LinesComeTo, LinesEnd, seen}
use Rattle.dp_lines.specs.Ends as ends
use Rattle.dp_schedule.specs.declared.join_action.JoinAction.{JoinAction}
use Rattle.dp_schedule.specs.JoinGrammar.{Asks}
use Rattle.dp_line_machine.specs.Leaves.{AreFirstOf}
use Rattle.dp_join_link.specs.declared.stops.LinkCause.{LinkCause}
use Rattle.dp_joiner.specs.Joining.{Joining, Goes, Waits, joined}
use Rattle.dp_join_link.specs.Sent.{farewell_bytes}
use Rattle.dp_join_link.specs.Links.{BeginsWith, EndsLink, link_end}
use Rattle.dp_line_machine.specs.Limits.{lines_limit}

-- ---- the script

-- a line is a step if it asks for something, whatever the lines before it are
abbrev pub IsJoinStep : List Line → Line → Type 0
IsJoinStep done line = (action : JoinAction) × Asks line.bytes action

-- the lines ask for these actions, one each
abbrev pub AllAsk : List Line → List JoinAction → Type 0
AllAsk [] [] = ⊤
AllAsk [] (action ∷ actions) = ⊥
AllAsk (line ∷ lines) [] = ⊥
AllAsk (line ∷ lines) (action ∷ actions) = Asks line.bytes action × AllAsk lines actions

-- ---- the run

-- what is printed, what is written to the link, the commands that may be drawn, and how the run
-- ends
pub record JoinOutcome : Type 0 where
  pub text : List ℕ
  pub written : List ℕ
  pub due : List Draw
  pub end : RunEnd

-- if the script comes to its end with all lines done, a Disconnect is written
abbrev pub script_outcome : LinesEnd → Joining → JoinOutcome
script_outcome ends.AllDone j = record {
  text = j.text;
  written = j.written ++ farewell_bytes j.client.user;
  due = j.due;
  end = run.Done;
}
script_outcome (ends.BadLine n) j =
    record { text = j.text; written = j.written; due = j.due; end = run.BadLine n }
script_outcome ends.TooLong j =
    record { text = j.text; written = j.written; due = j.due; end = run.Long }

-- if the link gives no entry more, nothing is written after what the lines write
abbrev pub link_outcome : LinkCause → Joining → JoinOutcome
link_outcome why j =
    record { text = j.text; written = j.written; due = j.due; end = link_end why }

-- The script ends the run: these are its lines that are done, and the entries of the link are as
-- many as they ask for, or more.
pub record EndsByScript (name input link : List ℕ) (outcome : JoinOutcome) : Type 0 where
  pub done : List Line
  pub last : LinesEnd
  pub comes : LinesComeTo IsJoinStep lines_limit input done last
  pub actions : List JoinAction
  pub asked : AllAsk done actions
  pub entries : List Entry
  pub begins : BeginsWith link entries
  pub joining : Joining
  pub left : List Entry
  pub goes : joined name actions entries ≡ Goes joining left
  pub outcome_is : outcome ≡ script_outcome last joining

-- The link ends the run: one of the first lines asks for an entry more than it gives.
pub record EndsByLink (name input link : List ℕ) (outcome : JoinOutcome) : Type 0 where
  pub begun : List Line
  pub prefix : AreFirstOf IsJoinStep (seen lines_limit input) begun
  pub actions : List JoinAction
  pub asked : AllAsk begun actions
  pub entries : List Entry
  pub waiting : Joining
  pub waits : joined name actions entries ≡ Waits waiting
  pub why : LinkCause
  pub ends : EndsLink link entries why
  pub outcome_is : outcome ≡ link_outcome why waiting

-- what a script and a link come to for a client of this name
abbrev pub JoinComesTo : List ℕ → List ℕ → List ℕ → JoinOutcome → Type 0
JoinComesTo name input link outcome =
    EndsByScript name input link outcome ⊎ EndsByLink name input link outcome
