-- What words ask for: what `clap` makes of them, and what the program makes of that.
use Rattle.std.specs.Prelude.{◌≡◌, ◌≤◌, List, [], ◌∷◌, Option, Some, None}
use Rattle.std.specs.Prelude.{MatchBool, length, ⊤}
use Rattle.std.specs.Str.{bytes_eq}
use Rattle.clap.specs.Walk.{Row, Text}
use Rattle.clap.specs.Simple.{subcommand_of}
use Rattle.clap.specs.Faults.{fault_of}
use Rattle.dp_words.specs.declared.command_line.CommandLine.{CommandLine}
use Rattle.dp_words.specs.declared.command_line.CommandLine.TheVariants.{Local, Join, Listen}
use Rattle.dp_words.specs.declared.command_line.LocalCommand.{LocalCommand}
use Rattle.dp_words.specs.declared.command_line.LocalCommand.TheVariants.{Replay, World, Play}
use Rattle.dp_words.specs.declared.command_line.LocalCommand.TheVariants.{Drill}
use Rattle.dp_words.specs.Forms.{Form, forms}
use Rattle.dp_words.specs.Program.{program}

-- the first of these forms with that name asks for the line, with such values
abbrev pub AsksOf : List Form → Text → List Row → CommandLine → Type 0
AsksOf [] name rows line = ⊥
AsksOf (form ∷ rest) name rows line =
    MatchBool (bytes_eq name form.name) (form.asks rows line) (AsksOf rest name rows line)

-- a command with the values of its options and words asks for this line
abbrev pub AsksBy : Text → List Row → CommandLine → Type 0
AsksBy name rows line = AsksOf forms name rows line

-- the command that was named, with the values of its options and words, asks for this line
abbrev pub AsksIn : Option (Text × List Row) → CommandLine → Type 0
AsksIn None line = ⊥
AsksIn (Some entered) line = AsksBy entered.0 entered.1 line

-- the words ask for this line: `clap` finds no fault in them, and what it finds asks for the line
abbrev pub AsksFor : List Text → CommandLine → Type 0
AsksFor words line = (fault_of program words ≡ []) × AsksIn (subcommand_of program words) line

-- the words are a command line
abbrev pub IsCommandLine : List Text → Type 0
IsCommandLine words = (line : CommandLine) × AsksFor words line

-- a recording and a drill are painted by 1 to 64 workers, and a drill has at most 100,000 rounds
abbrev pub FitsLocal : LocalCommand → Type 0
FitsLocal Replay = ⊤
FitsLocal World = ⊤
FitsLocal (Play at workers) = (1 ≤ workers) × (workers ≤ 64)
FitsLocal (Drill seed rounds workers) =
    (rounds ≤ 100000) × (1 ≤ workers) × (workers ≤ 64)

-- the name of a client has at most 32 bytes, and a server at most 64 workers
abbrev pub FitsLimits : CommandLine → Type 0
FitsLimits (Local command) = FitsLocal command
FitsLimits (Join addr name) = length name ≤ 32
FitsLimits (Listen addr workers conns service) = workers ≤ 64
