use Rattle.std.proofs.Common.{rules, arith}
use Rattle.std.proofs.lemmas.List.Sorted.{answers_always}
use Rattle.dp_acl.specs.declared.rules.Rule.{Rule}
use Rattle.dp_acl.proofs.RuleLemmas.{search-found, search-absent}
use Rattle.dp_acl.proofs.rules.place_of.Goals as goal

pub returns-clause-found : goal.returns-clause-found
returns-clause-found c =
    let facts = c.binary_search_by_key.ensures in
    search-found c.args.rules.now c.args.layer c.requires c.binary_search_by_key.result facts.bound
    (facts.position (λ (r : Rule). r.layer) (answers_always _ _ _ (λ f a r g called. search rules)))

pub returns-clause-absent : goal.returns-clause-absent
returns-clause-absent c =
    let facts = c.binary_search_by_key.ensures in
    search-absent c.args.rules.now c.args.layer c.requires c.binary_search_by_key.result
    (omega arith)
    facts.bound
    (facts.position (λ (r : Rule). r.layer) (answers_always _ _ _ (λ f a r g called. search rules)))
