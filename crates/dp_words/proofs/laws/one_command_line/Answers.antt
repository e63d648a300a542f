-- Words name one command, and a word is one number.
use Rattle.clap.specs.Simple.{subcommand_of}
use Rattle.dp_words.specs.Program.{program}
use Rattle.dp_words.proofs.Asking.{one-in}
use Rattle.dp_words.proofs.laws.one_command_line.Goals as goal

pub returns : goal.returns
returns c = λ words line other asked again.
    one-in c.one_number.ensures (subcommand_of program words) line other asked.1 again.1
