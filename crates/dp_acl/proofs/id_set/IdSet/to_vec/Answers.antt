use Rattle.std.proofs.Common.{◌∙◌, sym}
use Rattle.dp_acl.specs.Table.{mark_of}
use Rattle.dp_acl.proofs.ListLemmas.{filter-numbers_none, filter-numbers_yes, filter-numbers_no}
use Rattle.dp_acl.proofs.id_set.IdSet.to_vec.Goals as goal
use Rattle.dp_acl.proofs.id_set.IdSet.to_vec.Goals.{then-contains+in_ok-push, else-contains}

pub loop-number-init : goal.loop-number-init
loop-number-init c = c.new-ids.ensures.items ∙ sym (filter-numbers_none (mark_of c.args.self.now))

pub loop-number-preserved : goal.loop-number-preserved
loop-number-preserved c =
    let p = mark_of c.args.self.now in
    let n = c.loop-number.number in
    elim c.if-contains.branch [
      | then-contains+in_ok-push w ↦ rw w.ids-is
          (filter-numbers_yes p n c.loop-number.ids.items w.push.new.self.items
          c.loop-number.invariant
          (sym c.contains.ensures ∙ w.if-contains.true) w.in_ok-push.ensures.items)
      | else-contains w ↦ rw w.ids-is
          (filter-numbers_no p n c.loop-number.ids.items c.loop-number.invariant
          (sym c.contains.ensures ∙ w.if-contains.false))
    ]
