use Rattle.dp_session_laws.proofs.JournalLemmas.{log-adds}
use Rattle.dp_session_laws.proofs.laws.journals_are_logs.Goals as goal

pub returns : goal.returns
returns c = log-adds c.events_have_effects.ensures
