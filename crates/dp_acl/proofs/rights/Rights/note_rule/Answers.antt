use Rattle.std.proofs.Common.{◌≤◌, ap, sym, subst, arith, length, All, ◌<◌}
use Rattle.dp_msg_meta.specs.declared.message.Meta.TheVariants.{LayerAcl}
use Rattle.dp_acl.specs.contracts.rights.Rights.{the_view}
use Rattle.dp_acl.specs.LookBack.{lists}
use Rattle.dp_acl.specs.Table.{Kept, Mark}
use Rattle.dp_acl.specs.Step.{meta_entry, IsKeptAfter}
use Rattle.dp_acl.proofs.IdLemmas.{marked-in_order, length-in_order}
use Rattle.dp_acl.proofs.StepLemmas.{kept-rule}
use Rattle.dp_acl.proofs.rights.Rights.note_rule.Goals as goal

pub put-requires-clause-short : goal.put-requires-clause-short
put-requires-clause-short c =
    let ids = c.as_slice.result.now in
    let same : length ids ≤ 255 = subst (λ xs. length xs ≤ 255)
    (sym c.as_slice.ensures.value) c.as_slice.ensures.short in
    omega (
      arith,
      ap length (marked-in_order c.of.result ids c.of.ensures.marks),
      length-in_order
          ids,
    )

pub returns-clause-kept : goal.returns-clause-kept
returns-clause-kept c = λ user.
    let ids = c.args.ids.now in
    let was = the_view c.self.inside in
    subst (λ (k : Kept). IsKeptAfter k (meta_entry user (LayerAcl c.args.layer c.args.locked
    c.args.tier ids))
    (record was { rules = c.put.new.self.rules; room = c.put.new.self.room })) c.self.view_is
    (kept-rule was c.put.new.self.rules c.put.new.self.room user c.args.layer c.args.locked
    c.args.tier ids
    c.of.result
    (subst (λ xs. Mark c.of.result (lists xs)) c.as_slice.ensures.value c.of.ensures.marks)
    (subst (All (λ id. id < 256)) c.as_slice.ensures.value c.of.ensures.bytes)
    c.put.ensures.rules)
