use Rattle.dp_hall.proofs.LawLemmas.{each-continues}
use Rattle.dp_hall.proofs.laws.calls_add_up.Goals as goal

pub returns-clause-each : goal.returns-clause-each
returns-clause-each g c = each-continues
