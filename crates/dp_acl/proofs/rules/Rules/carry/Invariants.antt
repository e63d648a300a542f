use Rattle.std.proofs.Common.{◌≡◌, ◌++◌, map, take}
use Rattle.dp_acl.specs.RuleTable.{acl_of}
use Rattle.dp_acl.specs.Inside.{kept_of}
use Rattle.dp_acl.proofs.rules.Rules.carry.Given as goal

-- the messages of the rules so far are added
abbrev pub invariant-loop-rule : goal.invariant-loop-rule
invariant-loop-rule l =
    l.metas.items ≡ l.fn.metas.items ++ map (λ r. acl_of (kept_of r))
    (take l.rule-index l.rule-items)
