-- What a user is and has in an epoch, read by looking back in its history.
use Rattle.std.specs.Prelude.{ℕ, ◌/◌, Bool, true, false, not, ◌&&◌, ◌||◌, ◌==◌, nat_le}
use Rattle.std.specs.Prelude.{Option, if◌then◌else◌, unwrap_or, List, [], ◌∷◌}
use Rattle.std.specs.List.{filter}
use Rattle.std.specs.Option.{option_map_or}
use Rattle.dp_msg_meta.specs.declared.message.Tiers.{Tiers}
use Rattle.dp_messages.specs.declared.message.Msg.{Msg}
use Rattle.dp_messages.specs.declared.message.Entry.{Entry}
use Rattle.dp_acl.specs.LookBack.{lists, last_said, joined, owners, trusted, locked_users}
use Rattle.dp_acl.specs.LookBack.{feature_tiers, set_depth, LayerRule, layer_rule, is_join_of}
use Rattle.dp_acl.specs.LookBack.{since_join}

-- the last list of this kind stands after the user's last Join, and lists the user
abbrev pub is_listed : (Msg → Option (List ℕ)) → List Entry → ℕ → Bool
is_listed ids history user =
    option_map_or (λ listed. lists listed user) (last_said ids (since_join history user)) false

-- the last Owners stands after the user's last Join, and lists the user
abbrev pub is_operator : List Entry → ℕ → Bool
is_operator = is_listed owners

-- the last Trusted stands after the user's last Join, and lists the user
abbrev pub is_trusted : List Entry → ℕ → Bool
is_trusted = is_listed trusted

-- the user's last Join says that the user is registered
abbrev pub is_registered : List Entry → ℕ → Bool
is_registered history user =
    unwrap_or (last_said joined (filter (is_join_of user) history)) false

-- the number of the user's tier: operators 0, trusted users 1, registered ones 2, guests 3
abbrev pub tier_of : List Entry → ℕ → ℕ
tier_of history user =
    if is_operator history user then 0
    else if is_trusted history user then 1
    else if is_registered history user then 2
    else 3

-- the last UserAcl lists 0, which stands for all users
abbrev pub are_all_locked : List Entry → Bool
are_all_locked history =
    option_map_or (λ listed. lists listed 0) (last_said locked_users history) false

-- the last UserAcl stands after the user's last Join, and lists the user
abbrev pub is_lock_listed : List Entry → ℕ → Bool
is_lock_listed = is_listed locked_users

-- the user is locked: no operator, and all are locked or the user is listed
abbrev pub is_locked : List Entry → ℕ → Bool
is_locked history user =
    not (is_operator history user) && (are_all_locked history || is_lock_listed history user)

-- the tiers of the features if no FeatureTiers stands
abbrev pub first_tiers : Tiers
first_tiers = record {
  image = 3;
  move_ = 3;
  resize = 0;
  background = 0;
  edit_layers = 0;
  own_layers = 3;
  laser = 3;
  undo = 3;
}

-- the tiers of the features: those of the last FeatureTiers
abbrev pub tiers_of : List Entry → Tiers
tiers_of history = unwrap_or (last_said feature_tiers history) first_tiers

-- the depth of undo that was set last, if one was
abbrev pub depth_of : List Entry → Option ℕ
depth_of history = last_said set_depth history

-- the user has the feature: the user's tier number is at most that of the feature
abbrev pub has_feature : List Entry → ℕ → (Tiers → ℕ) → Bool
has_feature history user feature = nat_le (tier_of history user) (feature (tiers_of history))

-- the layer's rule: that of its last LayerAcl, if there is one
abbrev pub rule_of : List Entry → ℕ → Option LayerRule
rule_of history layer = last_said (layer_rule layer) history

-- no ids, or the id is among them
abbrev pub is_open_to : List ℕ → ℕ → Bool
is_open_to [] user = true
is_open_to (id ∷ ids) user = lists (id ∷ ids) user

-- The rule lets the user paint: it doesn't lock the layer, and the user is an operator or meets the
-- rule. That is: the user's tier number is at most the rule's, and the user is among its ids, if it
-- has some.
abbrev pub lets_paint : List Entry → ℕ → LayerRule → Bool
lets_paint history user rule =
    not rule.locked
    && (is_operator history user
    || (nat_le (tier_of history user) rule.tier && is_open_to rule.ids user))

-- the user may paint on the layer: isn't locked, and the layer's rule, if it has one, lets the user
abbrev pub may_paint : List Entry → ℕ → ℕ → Bool
may_paint history user layer =
    not (is_locked history user)
    && option_map_or (lets_paint history user) (rule_of history layer) true

-- the creator of a layer: the high byte of its id
abbrev pub creator_of : ℕ → ℕ
creator_of layer = layer / 256

-- the user may change the layer's place in the list: edits layers, or has own layers and this is
-- one
abbrev pub may_edit_layer : List Entry → ℕ → ℕ → Bool
may_edit_layer history user layer =
    not (is_locked history user)
    && (has_feature history user (λ tiers. tiers.edit_layers)
    || (has_feature history user (λ tiers. tiers.own_layers) && creator_of layer == user))
