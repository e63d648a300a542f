use Rattle.dp_acl.proofs.IdLemmas.{clear-iff_none}
use Rattle.dp_acl.proofs.id_set.IdSet.is_empty.Goals as goal

pub returns : goal.returns
returns c =
    clear-iff_none c.self.inside.marks c.args.self.now c.are_clear.result c.self.told
    c.self.view_is c.are_clear.ensures
