use Rattle.dp_session_laws.proofs.KeptLemmas.{log-kept}
use Rattle.dp_session_laws.proofs.kept.logs_are_kept.Goals as goal

pub returns : goal.returns
returns c = log-kept c.steps_are_kept.ensures.step
