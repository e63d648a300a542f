use Rattle.std.proofs.Common.{sym, subst}
use Rattle.dp_acl.specs.Table.{StandsFor}
use Rattle.dp_acl.specs.contracts.rights.Rights.{the_view}
use Rattle.dp_acl.proofs.StepLemmas.{stands-room}
use Rattle.dp_acl.proofs.rights.Rights.reserve.Goals as goal

pub returns-clause-stands : goal.returns-clause-stands
returns-clause-stands c = λ history stands.
    let was = the_view c.self.inside in
    let room = c.reserve.new.self.room in
    subst (λ rules. StandsFor (record was { rules = rules; room = room }) history)
    (sym c.reserve.ensures.kept)
    (stands-room was room history (subst (λ k. StandsFor k history) (sym c.self.view_is) stands))
