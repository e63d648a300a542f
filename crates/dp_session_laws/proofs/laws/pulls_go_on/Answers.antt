use Rattle.dp_session_laws.proofs.Pulls.{pulls-on}
use Rattle.dp_session_laws.proofs.laws.pulls_go_on.Goals as goal

pub returns : goal.returns
returns c = pulls-on
