-- What of the rights of an epoch is carried into the next one.
use Rattle.std.specs.Prelude.{ℕ, Option, if◌then◌else◌}
use Rattle.std.specs.Prelude.{List, [], ◌∷◌, ◌++◌, option_to_list}
use Rattle.std.specs.List.{filter, filter_map}
use Rattle.std.specs.Option.{option_map}
use Rattle.dp_msg_meta.specs.declared.message.Meta.{Meta}
use Rattle.dp_msg_meta.specs.declared.message.Meta.TheVariants.{Owners, Trusted, UserAcl}
use Rattle.dp_msg_meta.specs.declared.message.Meta.TheVariants.{LayerAcl, FeatureTiers, UndoDepth}
use Rattle.dp_messages.specs.declared.message.Entry.{Entry}
use Rattle.dp_acl.specs.LookBack.{numbers_below, lists, LayerRule}
use Rattle.dp_acl.specs.Rights.{is_operator, is_trusted, are_all_locked, is_lock_listed}
use Rattle.dp_acl.specs.Rights.{tiers_of, depth_of, rule_of}

-- the operators among the present users
abbrev pub carried_owners : List Entry → List ℕ → Meta
carried_owners history present = Owners (filter (is_operator history) present)

-- the trusted users among the present ones
abbrev pub carried_trusted : List Entry → List ℕ → Meta
carried_trusted history present = Trusted (filter (is_trusted history) present)

-- 0, if all users are locked
abbrev pub lock_of_all : List Entry → List ℕ
lock_of_all history = if are_all_locked history then 0 ∷ [] else []

-- the lock of all, and the present users that the last UserAcl lists after their Joins
abbrev pub carried_locks : List Entry → List ℕ → Meta
carried_locks history present =
    UserAcl (lock_of_all history ++ filter (is_lock_listed history) present)

-- the tiers of the features as they stand
abbrev pub carried_tiers : List Entry → Meta
carried_tiers history = FeatureTiers (tiers_of history)

-- the depth of undo that was set last, if one was
abbrev pub carried_depth : List Entry → List Meta
carried_depth history = option_to_list (option_map UndoDepth (depth_of history))

-- the ids of a list, rising, each once; ids that a message spells stand so
abbrev pub in_order : List ℕ → List ℕ
in_order ids = filter (lists ids) (numbers_below 256)

-- a LayerAcl with the rule
abbrev pub acl_with : ℕ → LayerRule → Meta
acl_with layer rule = LayerAcl layer rule.locked rule.tier (in_order rule.ids)

-- the rule of the layer as it stands, if it has one
abbrev pub carried_rule : List Entry → ℕ → Option Meta
carried_rule history layer = option_map (acl_with layer) (rule_of history layer)

-- the rules of all layers, by rising id
abbrev pub carried_rules : List Entry → List Meta
carried_rules history = filter_map (carried_rule history) (numbers_below 65536)

-- What opens the next epoch, if these users are present: each piece a part of the list. The
-- first four stand always, empty or as at the start too.
abbrev pub carried : List Entry → List ℕ → List Meta
carried history present =
    carried_owners history present
    ∷ carried_trusted history present
    ∷ carried_locks history present
    ∷ carried_tiers history
    ∷ (carried_depth history ++ carried_rules history)
