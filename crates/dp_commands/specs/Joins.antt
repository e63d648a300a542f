-- What is left if the program joins a session over a link.
use Rattle.std.specs.Prelude.{◌≡◌, ℕ, ◌⊎◌, List, [], ◌∷◌, Option}
use Rattle.dp_joining.specs.Runs.{Ends, RunLeaves}
use Rattle.dp_lines.specs.declared.run_end.RunEnd.{RunEnd}
use Rattle.dp_endings.specs.declared.ending.Ending.{Ending}
use Rattle.dp_endings.specs.declared.ending.Ending.TheVariants.{NoLink, NoWords, Run}
use Rattle.dp_endings.specs.Answer.{SaysLine}
use Rattle.dp_commands.specs.Effects.{Effects, NothingIsDone, KeepsNothing, Streams, Wires}
use Rattle.dp_endings.specs.Endings.{code_of, ending_line}

-- the streams as a run over a link sees them
abbrev pub ends_of : Streams → Ends
ends_of s = record {
  input = s.input;
  input_now = s.left;
  input_faults = s.read;
  input_faults_now = s.read_now;
  output = s.old;
  output_now = s.new;
  output_faults = s.written;
  output_faults_now = s.written_now;
  counters = s.counters;
}

-- the session was joined over the first of the wires by this name, with this end
pub record JoinsOn {W R T : Type 0} (see : Wires W R T) (name : List ℕ) (e : Effects W)
    (end : RunEnd) : Type 0 where
  pub wire : W
  pub now : W
  pub others : List W
  pub before : e.old ≡ wire ∷ others
  pub after : e.new ≡ now ∷ others
  pub leaves : RunLeaves see.left see.read_faults see.held see.write_faults name (see.links wire)
      (see.links now) (see.faults wire) (see.faults now) (ends_of e.streams) end
  pub nothing : KeepsNothing e.kept

-- what a command to join by this name with this end leaves: without a wire nothing is done
abbrev pub EndsJoin : {W R T : Type 0} → Wires W R T → List ℕ → Effects W → Ending → Type 0
EndsJoin see name e ending =
    ((ending ≡ NoLink) × (e.old ≡ []) × NothingIsDone e)
    ⊎ ((end : RunEnd) × (ending ≡ Run end) × JoinsOn see name e end)

-- What is left if the words ask to join by this name and there is a wire: the session was joined
-- over the first wire, and the end is said; or memory ran out before the words were read.
pub record HasJoined {W R T : Type 0} (see : Wires W R T) (name : List ℕ) (e : Effects W)
    (diag said : Option (List ℕ)) (before now status : ℕ) : Type 0 where
  pub ending : Ending
  pub joins : ((end : RunEnd) × (ending ≡ Run end) × JoinsOn see name e end)
      ⊎ ((ending ≡ NoWords) × NothingIsDone e)
  pub says : SaysLine (code_of ending) (ending_line ending) diag said before now status
