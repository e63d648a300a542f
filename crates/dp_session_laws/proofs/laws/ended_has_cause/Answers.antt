use Rattle.dp_session_laws.proofs.JournalLemmas.{ended-full}
use Rattle.dp_session_laws.proofs.laws.ended_has_cause.Goals as goal

pub returns : goal.returns
returns c = ended-full c.events_have_effects.ensures
