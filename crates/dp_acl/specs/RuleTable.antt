-- The rules of the layers as they are kept.
use Rattle.std.specs.Prelude.{ℕ, suc, ◌<◌, ◌≤◌, List, [], ◌∷◌, ⊤}
use Rattle.dp_msg_meta.specs.declared.message.Meta.{Meta}
use Rattle.dp_msg_meta.specs.declared.message.Meta.TheVariants.{LayerAcl}
use Rattle.dp_acl.specs.Table.{KeptRule}

-- the rules, and for how many more of them memory is spared
pub record RuleTable : Type 0 where
  pub rules : List KeptRule
  pub room : ℕ

-- the LayerAcl that says a rule
abbrev pub acl_of : KeptRule → Meta
acl_of kept = LayerAcl kept.layer kept.rule.locked kept.rule.tier kept.rule.ids

-- the layers of the rules rise strictly within low to 65535
abbrev pub RulesRise : ℕ → List KeptRule → Type 0
RulesRise low [] = ⊤
RulesRise low (kept ∷ rules) =
    (low ≤ kept.layer) × (kept.layer < 65536) × RulesRise (suc kept.layer) rules
