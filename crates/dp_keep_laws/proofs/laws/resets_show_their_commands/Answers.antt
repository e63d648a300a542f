use Rattle.dp_keep_laws.proofs.Openings.{opening-shows}
use Rattle.dp_keep_laws.proofs.laws.resets_show_their_commands.Goals as goal

pub returns : goal.returns
returns c = opening-shows c.prefixes_without_points.ensures
