use Rattle.dp_session_laws.proofs.JournalLemmas.{log-broke}
use Rattle.dp_session_laws.proofs.laws.faults_are_counted.Goals as goal

pub returns : goal.returns
returns c = log-broke c.events_have_effects.ensures
