-- What the program is due to answer.
use Rattle.std.specs.Prelude.{◌≡◌, ℕ, ◌⊎◌, List, ◌∷◌, Option, Some, None}
use Rattle.std.specs.declared.string.String.{String}
use Rattle.dp_joining.specs.Outcomes.{JoinComesTo, JoinOutcome}
use Rattle.dp_wire.specs.Links.{Links}
use Rattle.dp_words.specs.declared.command_line.CommandLine.{CommandLine}
use Rattle.dp_words.specs.declared.command_line.CommandLine.TheVariants.{Local, Join, Listen}
use Rattle.dp_endings.specs.Answer.{Answer, answer_for, no_link_answer, usage_answer}
use Rattle.dp_commands.specs.Commands.{Asks, HasLink, IsCommand}
use Rattle.dp_commands.specs.Effects.{Wires}
use Rattle.dp_local.specs.Runs.{run_of}

-- The answer that the command is due for an input of these bytes, and a link that gives these
-- bytes, if it gets one. (A server that gets its wires is due no such answer.)
abbrev pub DueOf : CommandLine → List ℕ → Option (List ℕ) → Answer → Type 0
DueOf (Local command) input link answer = (run_of command).due input answer
DueOf (Join addr name) input None answer = answer ≡ no_link_answer
DueOf (Join addr name) input (Some link) answer =
    (outcome : JoinOutcome) × JoinComesTo name input link outcome
    × (answer ≡ answer_for outcome.end outcome.text)
DueOf (Listen addr workers conns service) input link answer = answer ≡ no_link_answer

-- The answer that the words, the input's bytes and the link's are due: that of the command for
-- which they ask, and the line about the words if they ask for none.
abbrev pub IsDue : {A : Type 0} → List (String A) → List ℕ → Option (List ℕ) → Answer → Type 0
IsDue words input link answer =
    ((command : CommandLine) × Asks words command × DueOf command input link answer)
    ⊎ (¬ IsCommand words × (answer ≡ usage_answer))

-- the next link of the first wire is known, and so are its bytes
pub record GivesLink {W R T : Type 0} (see : Wires W R T) (wires : List W) (bytes : List ℕ)
    : Type 0 where
  pub wire : W
  pub others : List W
  pub first : wires ≡ wire ∷ others
  pub links : Links R T
  pub known : see.links wire ≡ Some links
  pub rx : R
  pub tx : T
  pub more : List (R × T)
  pub next : links.to_come ≡ (rx, tx) ∷ more
  pub holds : see.left rx ≡ Some bytes

-- the bytes of the link that the words get: none, if they get no link
abbrev pub GetsLink : {A W R T : Type 0} → Wires W R T → List (String A) → List W
    → Option (List ℕ) → Type 0
GetsLink see words wires None = ¬ HasLink words wires
GetsLink see words wires (Some bytes) = GivesLink see wires bytes
