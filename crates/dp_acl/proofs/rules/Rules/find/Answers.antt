use Rattle.std.proofs.Common.{◌∙◌, ap, subst}
use Rattle.dp_acl.specs.RuleTable.{RuleTable}
use Rattle.dp_acl.specs.Table.{kept_rule}
use Rattle.dp_acl.specs.Inside.{IsPlaceOf, IsGapFor}
use Rattle.dp_acl.proofs.RuleLemmas.{found-at, absent-in}
use Rattle.dp_acl.proofs.rules.Rules.find.Goals as goal

pub returns-in-Ok : goal.returns-in-Ok
returns-in-Ok c =
    let at = subst (λ rs. IsPlaceOf rs c.args.layer c.in-Ok.place) c.deref.ensures.value
    c.in-Ok.ensures.found in
    found-at c.self.inside.rules.items c.args.layer c.in-Ok.place c.self.invariant at
    c.index.result.now c.index.ensures
    ∙ ap (λ (t : RuleTable). kept_rule t.rules c.args.layer) c.self.view_is

pub returns-in-Err : goal.returns-in-Err
returns-in-Err c =
    let gap = subst (λ rs. IsGapFor rs c.args.layer c.in-Err.field-0) c.deref.ensures.value
    c.in-Err.ensures.absent in
    absent-in c.self.inside.rules.items c.args.layer c.in-Err.field-0 c.self.invariant gap
    ∙ ap (λ (t : RuleTable). kept_rule t.rules c.args.layer) c.self.view_is
