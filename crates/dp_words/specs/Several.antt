-- A form whose last words may be several.
use Rattle.std.specs.Prelude.{◌≡◌, List, [], ◌∷◌, Some, codes, option_and_then}
use Rattle.clap.specs.Faults.{fault_of}
use Rattle.clap.specs.Simple.{App, subcommand_of}
use Rattle.clap.specs.Walk.{Text, all_of}
use Rattle.dp_words.specs.declared.form.Kind.TheVariants as kind
use Rattle.dp_words.specs.Program.{program_with}

-- the program with the command `seek EVERY PLACES..`
abbrev pub seek_program : App
seek_program = program_with (codes "drawpile")
    ((codes "seek", (codes "every", kind.Word) ∷ (codes "places", kind.Words) ∷ []) ∷ [])

-- the words are words of `seek`, with these places
abbrev pub HasPlaces : List Text → List Text → Type 0
HasPlaces words places =
    (fault_of seek_program words ≡ [])
    × (option_and_then (λ entered. all_of (codes "places") entered.1)
    (subcommand_of seek_program words) ≡ Some places)
