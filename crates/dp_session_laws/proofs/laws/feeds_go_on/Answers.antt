use Rattle.dp_session_laws.proofs.Openings.{feed-goes-on}
use Rattle.dp_session_laws.proofs.laws.feeds_go_on.Goals as goal

pub returns : goal.returns
returns c = feed-goes-on
