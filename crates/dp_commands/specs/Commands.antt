-- What the words ask for.
use Rattle.std.specs.Prelude.{◌≡◌, ◌≢◌, ℕ, ◌⊎◌, List, [], length, map, string_bytes, Option}
use Rattle.std.specs.declared.string.String.{String}
use Rattle.dp_words.specs.declared.command_line.CommandLine.{CommandLine}
use Rattle.dp_words.specs.declared.command_line.CommandLine.TheVariants.{Local, Join, Listen}
use Rattle.dp_words.specs.declared.command_line.LocalCommand.{LocalCommand}
use Rattle.dp_words.specs.declared.command_line.LocalCommand.TheVariants.{World}
use Rattle.dp_words.specs.declared.command_line.Service.{Service}
use Rattle.dp_words.specs.CommandLines.{AsksFor, IsCommandLine}

-- the words ask for the command
abbrev pub Asks : {A : Type 0} → List (String A) → CommandLine → Type 0
Asks words command = AsksFor (map string_bytes words) command

-- the words are a command
abbrev pub IsCommand : {A : Type 0} → List (String A) → Type 0
IsCommand words = IsCommandLine (map string_bytes words)

-- the words ask for `world`
abbrev pub IsWorld : {A : Type 0} → List (String A) → Type 0
IsWorld words = Asks words (Local World)

-- the words ask for a command that needs neither links nor wires
abbrev pub AskForLocal : {A : Type 0} → List (String A) → Type 0
AskForLocal words = (command : LocalCommand) × Asks words (Local command)

-- the words ask to join a session, and there is a wire on which to dial
abbrev pub HasLink : {A W : Type 0} → List (String A) → List W → Type 0
HasLink words wires = ((addr name : List ℕ) × Asks words (Join addr name)) × (wires ≢ [])

-- the words ask for a server, and there is a wire for each of its workers
abbrev pub HasWires : {A W : Type 0} → List (String A) → List W → Type 0
HasWires words wires =
    (addr : List ℕ) × (conns : Option ℕ) × (service : Service)
    × Asks words (Listen addr (length wires) conns service)

-- the words ask for a command that needs links, and the wires for them are there
abbrev pub HasLinks : {A W : Type 0} → List (String A) → List W → Type 0
HasLinks words wires = HasLink words wires ⊎ HasWires words wires

-- the command needs wires that aren't there
abbrev pub LacksWires : {W : Type 0} → CommandLine → List W → Type 0
LacksWires (Local command) wires = ⊥
LacksWires (Join addr name) wires = wires ≡ []
LacksWires (Listen addr workers conns service) wires = length wires ≢ workers

-- the words ask for such a command
abbrev pub AskAndLack : {A W : Type 0} → List (String A) → List W → Type 0
AskAndLack words wires = (command : CommandLine) × Asks words command × LacksWires command wires
