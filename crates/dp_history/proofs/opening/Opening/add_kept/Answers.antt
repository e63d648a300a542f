use Rattle.std.proofs.Common.{◌++◌, ◌∷◌, [], map, take, refl, ap, subst, ◌∙◌}
use Rattle.std.specs.List.{filter}
use Rattle.std.proofs.lemmas.List.{take_all}
use Rattle.dp_acl.specs.Opening.{goes_over}
use Rattle.dp_history.specs.Openings.{Holds}
use Rattle.dp_history.specs.Items.{entry_in}
use Rattle.dp_history.proofs.ItemLemmas.{kept-more, holds-same}
use Rattle.dp_history.proofs.opening.Opening.add_kept.Goals as goal

pub loop-item-init : goal.loop-item-init
loop-item-init c = λ history h.
    holds-same c.args.journal.now c.args.self.now _ history c.in_ok-reserve.ensures.items h refl

pub loop-item-preserved : goal.loop-item-preserved
loop-item-preserved c = λ history h.
    let journal = c.args.journal.now in
    let items = c.args.items.now in
    let i = c.loop-item.item-index in
    let x = c.item-item.result in
    let before = history ++ filter (λ e. goes_over e.msg) (map (entry_in journal) (take i items)) in
    subst (Holds journal c.add_one_kept.new.self)
    (ap (λ y. before ++ filter (λ e. goes_over e.msg) (entry_in journal y ∷ [])) c.item-item.is
    ∙ kept-more journal items i x history c.loop-item-test.true)
    (c.in_ok-add_one_kept.ensures before (c.loop-item.invariant history h))

pub returns : goal.returns
returns c = λ history h.
    subst (λ items. Holds c.args.journal.now c.loop-item.self
    (history ++ filter (λ e. goes_over e.msg) (map (entry_in c.args.journal.now) items)))
    (take_all c.loop-item.item-index c.args.items.now c.loop-item-test.false)
    (c.loop-item.invariant history h)
