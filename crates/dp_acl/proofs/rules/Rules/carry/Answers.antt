use Rattle.std.proofs.Common.{◌∙◌, ◌++◌, ap, sym, subst, map, append-nil}
use Rattle.std.proofs.lemmas.List.{take_all}
use Rattle.dp_acl.specs.declared.rules.Rule.{Rule}
use Rattle.dp_acl.specs.RuleTable.{RuleTable, acl_of, RulesRise}
use Rattle.dp_acl.specs.Inside.{kept_of}
use Rattle.dp_acl.proofs.RuleLemmas.{rise-kept, acls-kept, acls-more}
use Rattle.dp_acl.proofs.rules.Rules.carry.Goals as goal

pub loop-rule-init : goal.loop-rule-init
loop-rule-init c = sym (append-nil c.args.metas.now.items)

pub loop-rule-preserved : goal.loop-rule-preserved
loop-rule-preserved c =
    acls-more c.args.metas.now.items c.loop-rule.metas.items c.push.new.self.items
    c.deref-rule-items.result.now c.loop-rule.rule-index c.rule-item.result c.in_ok-to_acl.field-0
    c.loop-rule-test.true c.loop-rule.invariant c.in_ok-push.ensures.items
    (c.in_ok-to_acl.ensures ∙ ap (λ (r : Rule). acl_of (kept_of r)) c.rule-item.is)

pub returns-clause-carried : goal.returns-clause-carried
returns-clause-carried c =
    let f = λ (r : Rule). acl_of (kept_of r) in
    let was = c.args.metas.now.items in
    c.loop-rule.invariant
    ∙ ap (λ rs. was ++ map f rs)
    (take_all c.loop-rule.rule-index c.deref-rule-items.result.now c.loop-rule-test.false
    ∙ c.deref-rule-items.ensures.value)
    ∙ ap (λ ms. was ++ ms) (acls-kept c.self.inside.rules.items)
    ∙ ap (λ (t : RuleTable). was ++ map acl_of t.rules) c.self.view_is

pub returns-clause-rise : goal.returns-clause-rise
returns-clause-rise c =
    subst (λ (t : RuleTable). RulesRise 0 t.rules) c.self.view_is
    (rise-kept c.self.inside.rules.items c.self.invariant)

pub returns-in_err-to_acl-clause-rise : goal.returns-in_err-to_acl-clause-rise
returns-in_err-to_acl-clause-rise c =
    subst (λ (t : RuleTable). RulesRise 0 t.rules) c.self.view_is
    (rise-kept c.self.inside.rules.items c.self.invariant)

pub returns-in_err-push-clause-rise : goal.returns-in_err-push-clause-rise
returns-in_err-push-clause-rise c =
    subst (λ (t : RuleTable). RulesRise 0 t.rules) c.self.view_is
    (rise-kept c.self.inside.rules.items c.self.invariant)
