use Rattle.dp_session_laws.proofs.ClosingLemmas.{log-shuts, log-cause}
use Rattle.dp_session_laws.proofs.laws.shuts_are_logs.Goals as goal

pub returns-clause-all : goal.returns-clause-all
returns-clause-all c = log-shuts c.events_have_effects.ensures

pub returns-clause-cause : goal.returns-clause-cause
returns-clause-cause c = log-cause c.events_have_effects.ensures
