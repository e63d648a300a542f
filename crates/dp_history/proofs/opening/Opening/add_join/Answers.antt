use Rattle.std.proofs.Common.{◌≡◌, ◌++◌, ◌∷◌, [], ap, sym, subst, refl, unwrap_or}
use Rattle.dp_acl.specs.Table.{StandsFor}
use Rattle.dp_epochs.specs.State.{entry_of}
use Rattle.dp_messages.specs.declared.message.Msg.TheVariants as msg
use Rattle.dp_history.specs.declared.item.HistoryItem.TheVariants as item
use Rattle.dp_history.specs.declared.opening.Opening.{Opening}
use Rattle.dp_history.specs.Openings.{Holds}
use Rattle.dp_history.specs.Items.{entry_in}
use Rattle.dp_history.proofs.ItemLemmas.{holds-one, join-entries}
use Rattle.dp_history.proofs.opening.Opening.add_join.Goals as goal

pub returns-in_ok-push-in-Ok : goal.returns-in_ok-push-in-Ok
returns-in_ok-push-in-Ok c = λ history live last h.
    let journal = c.args.journal.now in
    let i = item.Joined c.args.event c.args.user in
    let new : Opening = record {
      live = c.push.new.self;
      rights = record c.args.self.now.rights { value = c.note.new.self };
    } in
    let is : c.in_ok-join.join ≡ entry_in journal i =
    ap (λ o. unwrap_or o (entry_of c.args.user msg.Point)) c.in_ok-join.ensures in
    subst (λ es. Holds journal new (history ++ es))
    (sym (join-entries journal live c.args.user c.args.event c.requires last))
    (holds-one journal c.args.self.now new history i (entry_in journal i) h
    c.in_ok-push-in-Ok.ensures.items refl c.requires
    (subst (λ e. StandsFor c.note.new.self (history ++ e ∷ [])) is
    ((rw c.in-Ok.is at c.note.ensures.stands) history
    (subst (λ r. StandsFor r history) (sym c.deref_mut.ensures.value) h.stands))))
