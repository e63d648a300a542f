use Rattle.std.proofs.Common.{◌==◌, ◌∙◌, refl, ap, sym, subst, Some, map, if◌then◌else◌}
use Rattle.dp_acl.specs.RuleTable.{RuleTable}
use Rattle.dp_acl.specs.Table.{kept_rule}
use Rattle.dp_acl.specs.Inside.{kept_of, AreRules, IsPlaceOf, IsGapFor}
use Rattle.dp_acl.proofs.RuleLemmas.{put-at, put-in, are-insert}
use Rattle.dp_acl.proofs.rules.Rules.put.Goals as goal

pub invariant_of-self-in-Ok-insert : goal.invariant_of-self-in-Ok-insert
invariant_of-self-in-Ok-insert c =
    let gap = subst (λ rs. IsGapFor rs c.args.rule.layer c.in-Err.place) c.deref.ensures.value
    c.in-Err.ensures.absent in
    subst AreRules (sym c.in-Ok-insert.ensures.items)
    (are-insert c.self.inside.rules.items c.args.rule.layer c.in-Err.place c.self.invariant gap
    c.args.rule
    refl c.requires.short)

pub returns-in-Ok-clause-rules : goal.returns-in-Ok-clause-rules
returns-in-Ok-clause-rules c = λ layer.
    let at = subst (λ rs. IsPlaceOf rs c.args.rule.layer c.in-Ok.place) c.deref.ensures.value
    c.in-Ok.ensures.found in
    put-at c.self.inside.rules.items c.args.rule.layer c.in-Ok.place c.self.invariant at c.args.rule
    refl
    layer
    ∙ ap (λ (t : RuleTable). if c.args.rule.layer == layer then Some (kept_of c.args.rule).rule
    else kept_rule t.rules layer) c.self.view_is

pub returns-in-Ok-insert-clause-rules : goal.returns-in-Ok-insert-clause-rules
returns-in-Ok-insert-clause-rules c = λ layer.
    let gap = subst (λ rs. IsGapFor rs c.args.rule.layer c.in-Err.place) c.deref.ensures.value
    c.in-Err.ensures.absent in
    ap (λ rs. kept_rule (map kept_of rs) layer) c.in-Ok-insert.ensures.items
    ∙ put-in c.self.inside.rules.items c.args.rule.layer c.in-Err.place c.self.invariant gap
    c.args.rule
    refl layer
    ∙ ap (λ (t : RuleTable). if c.args.rule.layer == layer then Some (kept_of c.args.rule).rule
    else kept_rule t.rules layer) c.self.view_is
