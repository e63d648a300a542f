use Rattle.std.proofs.Common.{false}
use Rattle.std.proofs.lemmas.List.{get_or-replicate}
use Rattle.dp_acl.proofs.id_set.IdSet.new.Goals as goal

pub returns : goal.returns
returns c user low = get_or-replicate 256 user false false low
