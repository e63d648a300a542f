use Rattle.dp_epochs.proofs.OpeningLemmas.{opening-marked, opening-short, opening-joins}
use Rattle.dp_epochs.proofs.laws.openings.Goals as goal

pub returns-clause-marked : goal.returns-clause-marked
returns-clause-marked c = opening-marked

pub returns-clause-short : goal.returns-clause-short
returns-clause-short c = opening-short

pub returns-clause-joins : goal.returns-clause-joins
returns-clause-joins c = λ epoch history present commands kept user rise is none.
    opening-joins history user epoch present commands kept rise is none
