use Rattle.dp_keep_laws.proofs.Openings.{openings_go_on}
use Rattle.dp_keep_laws.proofs.laws.openings_go_on.Goals as goal

pub returns : goal.returns
returns c = openings_go_on c.prefixes_without_points.ensures
