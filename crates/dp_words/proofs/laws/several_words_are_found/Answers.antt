-- Each is computed by `clap`'s functions.
use Rattle.std.proofs.Common.{refl}
use Rattle.clap.proofs.OnLiterals.{clap_on_literals}
use Rattle.dp_words.proofs.laws.several_words_are_found.Goals as goal

pub returns-clause-one : goal.returns-clause-one
unfolding clap_on_literals
returns-clause-one c = (refl, refl)

pub returns-clause-several : goal.returns-clause-several
unfolding clap_on_literals
returns-clause-several c = (refl, refl)
