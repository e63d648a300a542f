use Rattle.dp_lifting_laws.proofs.WorkedRows.{worked}
use Rattle.dp_lifting_laws.proofs.laws.worked_rows_stood.Goals as goal

pub returns : goal.returns
returns c = worked
