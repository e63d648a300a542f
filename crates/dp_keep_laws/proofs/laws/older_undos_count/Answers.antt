use Rattle.std.proofs.Common.{refl}
use Rattle.dp_keep_laws.proofs.laws.older_undos_count.Goals as goal

pub returns-clause-whole : goal.returns-clause-whole
returns-clause-whole c = refl

pub returns-clause-apart : goal.returns-clause-apart
returns-clause-apart c = refl
