-- What is kept of a history, and when it is what looking back finds.
use Rattle.std.specs.Prelude.{◌≡◌, ℕ, ◌<◌, ◌==◌, Bool, false, Option, slice_index_or}
use Rattle.std.specs.Prelude.{List, All, IfSome}
use Rattle.std.specs.List.{find}
use Rattle.std.specs.Option.{option_map}
use Rattle.dp_msg_meta.specs.declared.message.Tiers.{Tiers}
use Rattle.dp_messages.specs.declared.message.Entry.{Entry}
use Rattle.dp_acl.specs.LookBack.{has_joined, LayerRule}
use Rattle.dp_acl.specs.Rights.{is_operator, is_trusted, is_registered, are_all_locked}
use Rattle.dp_acl.specs.Rights.{is_lock_listed, tiers_of, depth_of, rule_of}
use Rattle.dp_acl.specs.Carried.{in_order}

-- the rule of a layer, its ids in order
pub record KeptRule : Type 0 where
  pub layer : ℕ
  pub rule : LayerRule

-- What is kept: for each user, by id, whether the user has joined, is operator, .., and the rules
-- of the layers. Besides, for how many entries memory is spared.
pub record Kept : Type 0 where
  pub joined : List Bool
  pub operators : List Bool
  pub trusted : List Bool
  pub registered : List Bool
  pub all_locked : Bool
  pub lock_listed : List Bool
  pub tiers : Tiers
  pub depth : Option ℕ
  pub rules : List KeptRule
  pub room : ℕ

-- the mark of a user
abbrev pub mark_of : List Bool → ℕ → Bool
mark_of marks user = slice_index_or marks user false

-- the marks are what a test says of each user
abbrev pub Mark : List Bool → (ℕ → Bool) → Type 0
Mark marks test = (user : ℕ) → user < 256 → mark_of marks user ≡ test user

-- the rule that is kept of a layer
abbrev pub kept_rule : List KeptRule → ℕ → Option LayerRule
kept_rule rules layer = option_map (λ kept. kept.rule) (find (λ kept. kept.layer == layer) rules)

-- a rule with its ids in order
abbrev pub rule_in_order : LayerRule → LayerRule
rule_in_order rule = record rule { ids = in_order rule.ids }

-- What is kept is what looking back in the history finds. (The ids of the rules are ids of users,
-- as in every entry that was noted: ids from 256 on are not kept.)
pub record StandsFor (kept : Kept) (history : List Entry) : Type 0 where
  pub joined : Mark kept.joined (has_joined history)
  pub operators : Mark kept.operators (is_operator history)
  pub trusted : Mark kept.trusted (is_trusted history)
  pub registered : Mark kept.registered (is_registered history)
  pub all_locked : kept.all_locked ≡ are_all_locked history
  pub lock_listed : Mark kept.lock_listed (is_lock_listed history)
  pub tiers : kept.tiers ≡ tiers_of history
  pub depth : kept.depth ≡ depth_of history
  pub rules : (layer : ℕ) → layer < 65536
      → kept_rule kept.rules layer ≡ option_map rule_in_order (rule_of history layer)
  pub ids : (layer : ℕ) → layer < 65536
      → IfSome (rule_of history layer) (λ rule. All (λ id. id < 256) rule.ids)
