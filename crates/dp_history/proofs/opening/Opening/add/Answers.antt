use Rattle.std.proofs.Common.{sym, subst}
use Rattle.dp_acl.specs.Table.{StandsFor}
use Rattle.dp_history.specs.declared.item.HistoryItem.TheVariants as item
use Rattle.dp_history.proofs.ItemLemmas.{holds-one}
use Rattle.dp_history.proofs.opening.Opening.add.Goals as goal

pub returns-in_ok-push-in-Ok : goal.returns-in_ok-push-in-Ok
returns-in_ok-push-in-Ok c = λ journal history h.
    holds-one journal c.args.self.now _ history (item.Server c.in_ok-kept-in-Ok.kept)
    c.args.entry h c.in_ok-push-in-Ok.ensures.items c.in_ok-kept-in-Ok.ensures tt
    ((rw c.in-Ok.is at c.note.ensures.stands) history
    (subst (λ r. StandsFor r history) (sym c.deref_mut.ensures.value) h.stands))
