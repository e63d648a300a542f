-- What a run of the program leaves, by what its command needs.
use Rattle.std.specs.Prelude.{◌≡◌, ◌⊎◌, List, length, ⊤}
use Rattle.std.specs.declared.string.String.{String}
use Rattle.dp_lines.specs.declared.run_end.RunEnd.{RunEnd}
use Rattle.dp_lines.specs.RunEnds.{FaultMatchesEnd}
use Rattle.dp_words.specs.declared.command_line.CommandLine.{CommandLine}
use Rattle.dp_words.specs.declared.command_line.CommandLine.TheVariants.{Local, Join, Listen}
use Rattle.dp_endings.specs.declared.ending.Ending.{Ending}
use Rattle.dp_endings.specs.declared.ending.Ending.TheVariants.{Usage, NoLink, NoWords, Run}
use Rattle.dp_endings.specs.declared.ending.Ending.TheVariants.{StoreFault, BadRow}
use Rattle.dp_commands.specs.Commands.{AskAndLack, Asks, IsCommand, LacksWires}
use Rattle.dp_commands.specs.Effects.{Effects, NothingIsDone, StaysLocal, Wires}
use Rattle.dp_commands.specs.Joins.{JoinsOn}
use Rattle.dp_local.specs.Runs as runs
use Rattle.dp_local.specs.Runs.{run_of}
use Rattle.dp_commands.specs.Servers.{RunsServer}

-- a run on the input and the output alone, with this end
pub record RunsLocally {W : Type 0} (run : runs.Run) (e : Effects W) (end : RunEnd) : Type 0 where
  pub leaves : run.leaves e.streams.input e.streams.left e.streams.old e.streams.new
      e.streams.counters end
  pub fault : FaultMatchesEnd e.streams.read e.streams.read_now e.streams.written
      e.streams.written_now end
  pub stays : StaysLocal e

-- what a run of the command with this end leaves, if the wires that it needs are there
abbrev pub KindLeaves : {W R T : Type 0} → Wires W R T → CommandLine → Effects W → Ending → Type 0
KindLeaves see (Local command) e ending =
    (end : RunEnd) × (ending ≡ Run end) × RunsLocally (run_of command) e end
KindLeaves see (Join addr name) e ending =
    (end : RunEnd) × (ending ≡ Run end) × JoinsOn see name e end
KindLeaves see (Listen addr workers conns service) e ending =
    (length e.old ≡ workers) × RunsServer see conns e ending

-- what a command with this end leaves
abbrev pub EndsCommand : {W R T : Type 0} → Wires W R T → CommandLine → Effects W → Ending → Type 0
EndsCommand see command e ending =
    ((ending ≡ NoLink) × LacksWires command e.old × NothingIsDone e)
    ⊎ KindLeaves see command e ending

-- nothing is run for the words: they are no command, the wires that it needs aren't there, or
-- memory ran out before they were read
abbrev pub NothingRuns : {A W : Type 0} → List (String A) → List W → Ending → Type 0
NothingRuns words wires Usage = ¬ IsCommand words
NothingRuns words wires NoLink = AskAndLack words wires
NothingRuns words wires NoWords = ⊤
NothingRuns words wires (Run end) = ⊥
NothingRuns words wires StoreFault = ⊥
NothingRuns words wires (BadRow n row) = ⊥

-- what words leave that end so
abbrev pub EndsWords : {A W R T : Type 0} → Wires W R T → List (String A) → Effects W → Ending
    → Type 0
EndsWords see words e ending =
    (NothingRuns words e.old ending × NothingIsDone e)
    ⊎ ((command : CommandLine) × Asks words command × KindLeaves see command e ending)

-- the command reads its input to the end
abbrev pub Reads : CommandLine → Type 0
Reads (Local command) = (run_of command).reads
Reads (Join addr name) = ⊤
Reads (Listen addr workers conns service) = ⊥
