use Rattle.dp_session_laws.proofs.Quiet.{log-had}
use Rattle.dp_session_laws.proofs.laws.quiets_are_logs.Goals as goal

pub returns : goal.returns
returns c = log-had
