use Rattle.std.proofs.Common.{◌∙◌, sym, arith}
use Rattle.std.proofs.lemmas.Bool.{false≢true}
use Rattle.dp_acl.proofs.IdLemmas.{open-marked}
use Rattle.dp_acl.proofs.id_set.IdSet.is_open_to.Goals as goal

pub returns-else-is_empty : goal.returns-else-is_empty
returns-else-is_empty c =
    c.contains.ensures
    ∙ sym (open-marked c.args.self.now c.args.id (omega arith)
    (λ none. false≢true (sym c.if-is_empty.false ∙ c.is_empty.ensures.1 none)))
