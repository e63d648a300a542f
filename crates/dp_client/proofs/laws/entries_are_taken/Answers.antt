use Rattle.dp_client.proofs.Taking.{entries-taken}
use Rattle.dp_client.proofs.laws.entries_are_taken.Goals as goal

pub returns : goal.returns
returns c = entries-taken
