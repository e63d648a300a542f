-- What is kept after one more entry, by what is kept before it.
use Rattle.std.specs.Prelude.{◌≡◌, ℕ, ◌<◌, Bool, false, ◌&&◌, ◌||◌, if◌then◌else◌}
use Rattle.std.specs.Prelude.{Option, unwrap_or, IfSome, List, All}
use Rattle.std.specs.Option.{option_map, option_map_or, option_or}
use Rattle.dp_msg_meta.specs.declared.message.Meta.{Meta}
use Rattle.dp_messages.specs.declared.message.Msg.TheVariants as msg
use Rattle.dp_messages.specs.declared.message.Entry.{Entry}
use Rattle.dp_acl.specs.LookBack as said
use Rattle.dp_acl.specs.LookBack.{lists, is_join_of}
use Rattle.dp_acl.specs.Table.{Kept, Mark, mark_of, kept_rule, rule_in_order}

-- a message about rights, as an entry
abbrev pub meta_entry : ℕ → Meta → Entry
meta_entry user m = record { user = user; msg = msg.Meta m }

-- Whether a user is listed: not after a Join; after a new list, if it lists the user and the
-- user has joined; and else as before.
abbrev pub listed_after : Kept → Entry → Option (List ℕ) → List Bool → ℕ → Bool
listed_after before e ids marks user =
    if is_join_of user e then false
    else option_map_or (λ listed. mark_of before.joined user && lists listed user) ids
    (mark_of marks user)

-- what is kept after the entry
pub record IsKeptAfter (before : Kept) (e : Entry) (after : Kept) : Type 0 where
  pub joined : Mark after.joined (λ user. is_join_of user e || mark_of before.joined user)
  pub operators : Mark after.operators (listed_after before e (said.owners e.msg) before.operators)
  pub trusted : Mark after.trusted (listed_after before e (said.trusted e.msg) before.trusted)
  pub registered : Mark after.registered
      (λ user. if is_join_of user e then unwrap_or (said.joined e.msg) false
      else mark_of before.registered user)
  pub all_locked : after.all_locked
      ≡ option_map_or (λ listed. lists listed 0) (said.locked_users e.msg) before.all_locked
  pub lock_listed : Mark after.lock_listed
      (listed_after before e (said.locked_users e.msg) before.lock_listed)
  pub tiers : after.tiers ≡ unwrap_or (said.feature_tiers e.msg) before.tiers
  pub depth : after.depth ≡ option_or (said.set_depth e.msg) before.depth
  pub rules : (layer : ℕ) → layer < 65536
      → kept_rule after.rules layer
      ≡ option_or (option_map rule_in_order (said.layer_rule layer e.msg))
      (kept_rule before.rules layer)
  pub ids : (layer : ℕ) → layer < 65536
      → IfSome (said.layer_rule layer e.msg) (λ rule. All (λ id. id < 256) rule.ids)
