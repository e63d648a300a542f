use Rattle.dp_board.proofs.PrefixLemmas.{prefixes_without_points}
use Rattle.dp_board.proofs.laws.prefixes_without_points.Goals as goal

pub returns : goal.returns
returns g c = prefixes_without_points _
