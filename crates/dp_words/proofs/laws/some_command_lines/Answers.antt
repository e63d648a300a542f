-- Each is computed by `clap`'s functions.
use Rattle.std.proofs.Common.{[], ◌∷◌, None, Some, codes, refl, lit<, lit≤}
use Rattle.std.specs.Fmt.{digits}
use Rattle.clap.proofs.OnLiterals.{clap_on_literals}
use Rattle.std.proofs.Common.{List}
use Rattle.std.specs.Option.{option_map_or}
use Rattle.clap.specs.Simple.{subcommand_of}
use Rattle.clap.specs.Walk.{Row, Text}
use Rattle.dp_words.specs.Program.{program}
use Rattle.dp_words.proofs.Asking.{faulty, signed-words}
use Rattle.dp_words.proofs.laws.some_command_lines.Goals as goal

pub returns-clause-replay : goal.returns-clause-replay
unfolding clap_on_literals
returns-clause-replay c = (refl, refl)

pub returns-clause-world : goal.returns-clause-world
unfolding clap_on_literals
returns-clause-world c = (refl, refl)

pub returns-clause-play : goal.returns-clause-play
unfolding clap_on_literals
returns-clause-play c = (refl, (None, 1, tt, refl, refl))

pub returns-clause-play_at : goal.returns-clause-play_at
unfolding clap_on_literals digits
returns-clause-play_at c =
    (refl, (Some 30, 1, record { fits = lit< tt; text = refl }, refl, refl))

pub returns-clause-play_at_one_word : goal.returns-clause-play_at_one_word
unfolding clap_on_literals digits
returns-clause-play_at_one_word c =
    (refl, (Some 30, 1, record { fits = lit< tt; text = refl }, refl, refl))

pub returns-clause-play_workers : goal.returns-clause-play_workers
unfolding clap_on_literals digits
returns-clause-play_workers c = (
  refl,
  (
    None,
    7,
    tt,
    (record { fits = lit< tt; text = refl }, lit≤ tt, lit≤ tt),
    refl,
  ),
)

pub returns-clause-drill : goal.returns-clause-drill
unfolding clap_on_literals digits
returns-clause-drill c = (
  refl,
  (
    18446744073709551615,
    100000,
    64,
    record { fits = lit< tt; text = refl },
    (record { fits = lit< tt; text = refl }, lit≤ tt),
    (record { fits = lit< tt; text = refl }, lit≤ tt, lit≤ tt),
    refl,
  ),
)

pub returns-clause-no_seed : goal.returns-clause-no_seed
unfolding clap_on_literals
returns-clause-no_seed c = faulty (codes "drill" ∷ codes "1" ∷ codes "1" ∷ []) 0 refl

pub returns-clause-join : goal.returns-clause-join
unfolding clap_on_literals
returns-clause-join c =
    (refl, (codes "localhost:7", codes "ann", refl, refl, lit≤ tt, lit≤ tt, refl))

pub returns-clause-serve : goal.returns-clause-serve
unfolding clap_on_literals digits
returns-clause-serve c = (
  refl,
  (
    codes "localhost:7",
    2,
    None,
    refl,
    (record { fits = lit< tt; text = refl }, lit≤ tt, lit≤ tt),
    tt,
    tt,
    refl,
  ),
)

pub returns-clause-serve_conns : goal.returns-clause-serve_conns
unfolding clap_on_literals digits
returns-clause-serve_conns c = (
  refl,
  (
    codes "localhost:7",
    64,
    Some 1,
    refl,
    (record { fits = lit< tt; text = refl }, lit≤ tt, lit≤ tt),
    record { fits = lit< tt; text = refl },
    lit≤ tt,
    refl,
  ),
)

pub returns-clause-serve_journal : goal.returns-clause-serve_journal
unfolding clap_on_literals digits
returns-clause-serve_journal c = (
  refl,
  (
    codes "localhost:7",
    2,
    None,
    refl,
    (record { fits = lit< tt; text = refl }, lit≤ tt, lit≤ tt),
    tt,
    tt,
    refl,
  ),
)

pub returns-clause-no_workers : goal.returns-clause-no_workers
unfolding clap_on_literals
returns-clause-no_workers c = faulty (codes "serve" ∷ codes "localhost:7" ∷ []) 0 refl

pub returns-clause-another_word : goal.returns-clause-another_word
unfolding clap_on_literals
returns-clause-another_word c = faulty (codes "paint" ∷ []) 1 refl

pub returns-clause-a_word_too_many : goal.returns-clause-a_word_too_many
unfolding clap_on_literals
returns-clause-a_word_too_many c = faulty (codes "replay" ∷ codes "replay" ∷ []) 0 refl

pub returns-clause-help : goal.returns-clause-help
unfolding clap_on_literals
returns-clause-help c = faulty (codes "--help" ∷ []) 0 refl

pub returns-clause-no_number : goal.returns-clause-no_number
unfolding clap_on_literals
returns-clause-no_number c = faulty (codes "play" ∷ codes "--at" ∷ []) 0 refl

pub returns-clause-no_name : goal.returns-clause-no_name
unfolding clap_on_literals
returns-clause-no_name c = faulty (codes "join" ∷ codes "localhost:7" ∷ []) 0 refl

abbrev words : List Text
words = codes "play" ∷ codes "--at=+3" ∷ []

abbrev at-rows : List Row
at-rows = option_map_or (λ e. e.1) (subcommand_of program words) []

pub returns-clause-signed : goal.returns-clause-signed
unfolding clap_on_literals
returns-clause-signed c = signed-words words at-rows (codes "3") refl refl
