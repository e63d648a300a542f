use Rattle.std.proofs.Common.{◌≡◌, true, false, map, length, sym, ap, subst, ◌∙◌, arith}
use Rattle.std.specs.List.{filter}
use Rattle.std.proofs.lemmas.List.{take_all}
use Rattle.dp_acl.specs.Opening.{goes_over}
use Rattle.dp_history.specs.Items.{entry_in}
use Rattle.dp_history.proofs.ItemLemmas.{count-more}
use Rattle.dp_history.proofs.item.count_kept.Goals as goal
use Rattle.dp_history.proofs.item.count_kept.Goals.{then-is_kept, else-is_kept}

pub loop-item-preserved : goal.loop-item-preserved
loop-item-preserved c =
    let journal = c.args.journal.now in
    let items = c.args.items.now in
    let i = c.loop-item.item-index in
    let x = c.item-item.result in
    let within = c.loop-item-test.true in
    let inv = c.loop-item.invariant in
    elim c.if-is_kept.branch [
      | then-is_kept w ↦
          let more = count-more journal items i x true within
          (subst (λ y. goes_over (entry_in journal y).msg ≡ true) c.item-item.is
          (sym c.is_kept.ensures ∙ w.if-is_kept.true)) in
          (omega (arith, w.count-is, inv.0, more), omega (arith, w.count-is, inv.1))
      | else-is_kept w ↦
          let more = count-more journal items i x false within
          (subst (λ y. goes_over (entry_in journal y).msg ≡ false) c.item-item.is
          (sym c.is_kept.ensures ∙ w.if-is_kept.false)) in
          (omega (arith, w.count-is, inv.0, more), omega (arith, w.count-is, inv.1))
    ]

pub returns : goal.returns
returns c =
    c.loop-item.invariant.0
    ∙ ap (λ items. length (filter (λ e. goes_over e.msg) (map (entry_in c.args.journal.now) items)))
    (take_all c.loop-item.item-index c.args.items.now c.loop-item-test.false)
