-- A program's commands, as `clap` sees them.
use Rattle.std.specs.Borrow.{Bor}
use Rattle.std.specs.Prelude.{true, List, [], ◌∷◌, Some, codes, map}
use Rattle.clap.specs.Lexer.{usize_max}
use Rattle.clap.specs.Walk.{Rule, Text}
use Rattle.clap.specs.Simple.{App, new_app, new_rule, on_top, with_rule, with_subcommand}
use Rattle.dp_words.specs.declared.form.Form as form
use Rattle.dp_words.specs.declared.form.Kind.{Kind}
use Rattle.dp_words.specs.declared.form.Kind.TheVariants as kind
use Rattle.dp_words.specs.Forms.{Form, forms}

-- a command's name, and the words and options that may follow it
abbrev pub Words : Type 0
Words = Text × List (Text × Kind)

-- those that a form of the code has
abbrev pub param_of : Bor Text × Kind → Text × Kind
param_of param = (param.0.now, param.1)

abbrev pub words_of : form.Form → Words
words_of form = (form.name.now, map param_of form.params.now)

-- the rule of a word or an option
abbrev pub rule_for : Text × Kind → Rule
rule_for (name, kind.Word) = record (new_rule name) { required = true }
rule_for (name, kind.Words) = record (new_rule name) {
  required = true;
  range = Some (record { start_inclusive = 1; end_inclusive = usize_max });
}
rule_for (name, kind.Named required) =
    record (new_rule name) { long = Some name; required = required }

-- with these words and options
abbrev pub with_params : App → List (Text × Kind) → App
with_params app [] = app
with_params app (param ∷ rest) = with_params (with_rule app (rule_for param)) rest

-- the command of these words
abbrev pub command_for : Words → App
command_for words = with_params (new_app words.0) words.1

-- what stands before the commands: no name of the program, no help, and a command has to be there
abbrev pub bare_program : Text → App
bare_program name = on_top (λ top. record top {
  no_binary_name = true;
  disable_help_flag = true;
  disable_help_subcommand = true;
  subcommand_required = true;
}) (new_app name)

-- with commands of these words
abbrev pub with_commands : App → List Words → App
with_commands app [] = app
with_commands app (words ∷ rest) =
    with_commands (with_subcommand app (command_for words).top) rest

-- the program of this name with commands of these words
abbrev pub program_with : Text → List Words → App
program_with name all = with_commands (bare_program name) all

-- the words of the commands
abbrev pub all_words : List Words
all_words = map (λ (form : Form). (form.name, form.params)) forms

-- the program with its commands
abbrev pub program : App
program = program_with (codes "drawpile") all_words
