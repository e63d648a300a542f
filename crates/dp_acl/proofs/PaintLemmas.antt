-- Painting on a layer with a rule.
use Rattle.std.proofs.Common.{◌≡◌, ℕ, ◌<◌, ◌&&◌, ◌||◌, not, nat_le, true, false, List, All}
use Rattle.std.proofs.Common.{Option, Some, None, IfSome, sym, ap, ◌∙◌}
use Rattle.std.specs.Option.{option_map, option_map_or}
use Rattle.std.proofs.lemmas.Option.{same_Some, none-some}
use Rattle.dp_messages.specs.declared.message.Entry.{Entry}
use Rattle.dp_acl.specs.LookBack.{LayerRule}
use Rattle.dp_acl.specs.Rights.{is_operator, is_locked, tier_of, rule_of, lets_paint, may_paint}
use Rattle.dp_acl.specs.Table.{rule_in_order}
use Rattle.dp_acl.proofs.IdLemmas.{open-in_order}

pub lets-in_order : (history : List Entry) (user : ℕ) (rule : LayerRule) → user < 256
    → All (λ id. id < 256) rule.ids
    → lets_paint history user (rule_in_order rule) ≡ lets_paint history user rule
lets-in_order history user rule low bytes =
    ap (λ b. not rule.locked && (is_operator history user
    || (nat_le (tier_of history user) rule.tier && b)))
    (open-in_order rule.ids user low bytes)

lets-kept : (history : List Entry) (user : ℕ) (kept : LayerRule) (o : Option LayerRule)
    → Some kept ≡ option_map rule_in_order o → user < 256
    → IfSome o (λ rule. All (λ id. id < 256) rule.ids)
    → lets_paint history user kept ≡ option_map_or (lets_paint history user) o true
lets-kept history user kept None is low bytes = absurd (none-some kept (sym is))
lets-kept history user kept (Some rule) is low bytes =
    ap (lets_paint history user) (same_Some kept (rule_in_order rule) is)
    ∙ lets-in_order history user rule low bytes

-- who isn't locked may paint if the rule that is kept lets the user
pub may-by_kept : (history : List Entry) (user layer : ℕ) (kept : LayerRule)
    → is_locked history user ≡ false
    → Some kept ≡ option_map rule_in_order (rule_of history layer) → user < 256
    → IfSome (rule_of history layer) (λ rule. All (λ id. id < 256) rule.ids)
    → lets_paint history user kept ≡ may_paint history user layer
may-by_kept history user layer kept free is low bytes =
    lets-kept history user kept (rule_of history layer) is low bytes
    ∙ ap (λ b. not b && option_map_or (lets_paint history user) (rule_of history layer) true)
    (sym free)
