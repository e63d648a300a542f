use Rattle.std.proofs.Common.{◌≡◌, drop, map}
use Rattle.clap.specs.Words.{app_of}
use Rattle.dp_words.specs.Program.{with_commands, words_of}
use Rattle.dp_words.proofs.form.program_of.Given as goal

-- with the commands that are left it is the whole program
abbrev pub invariant-loop-form : goal.invariant-loop-form
invariant-loop-form l =
    with_commands (app_of l.program) (map words_of (drop l.form-index l.forms))
    ≡ with_commands (app_of l.initial.program) (map words_of l.forms)
