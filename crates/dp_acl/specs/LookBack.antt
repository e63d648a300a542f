-- Looking back in the history of an epoch: what was said last, and what was said since a user
-- joined.
use Rattle.std.specs.Prelude.{ℕ, ◌-◌, Bool, ◌&&◌, ◌==◌, Option, None, Some, if◌then◌else◌}
use Rattle.std.specs.Prelude.{List, [], length, slice_get, is_some}
use Rattle.std.specs.List.{filter_map, list_any, after_last, range_with_len}
use Rattle.dp_msg_meta.specs.declared.message.Meta.TheVariants.{Join, Owners, Trusted}
use Rattle.dp_msg_meta.specs.declared.message.Meta.TheVariants.{UserAcl, LayerAcl, FeatureTiers}
use Rattle.dp_msg_meta.specs.declared.message.Meta.TheVariants.{UndoDepth}
use Rattle.dp_msg_meta.specs.declared.message.Tiers.{Tiers}
use Rattle.dp_messages.specs.declared.message.Msg.{Msg}
use Rattle.dp_messages.specs.declared.message.Msg.TheVariants as msg
use Rattle.dp_messages.specs.declared.message.Entry.{Entry}

-- the numbers below n, rising
unfoldable pub numbers_below : ℕ → List ℕ
numbers_below n = range_with_len 0 n

-- an id is among some
abbrev pub lists : List ℕ → ℕ → Bool
lists ids id = list_any (λ other. other == id) ids

-- what the last entry says of those from which `said` takes something, if there is one
abbrev pub last_said : {X : Type 0} → (Msg → Option X) → List Entry → Option X
last_said said history =
    let all = filter_map (λ entry. said entry.msg) history in slice_get all (length all - 1)

-- whether a Join says that its user is registered
abbrev pub joined : Msg → Option Bool
joined (msg.Meta (Join registered name)) = Some registered
joined m = None

-- the ids of an Owners
abbrev pub owners : Msg → Option (List ℕ)
owners (msg.Meta (Owners ids)) = Some ids
owners m = None

-- the ids of a Trusted
abbrev pub trusted : Msg → Option (List ℕ)
trusted (msg.Meta (Trusted ids)) = Some ids
trusted m = None

-- the ids of a UserAcl
abbrev pub locked_users : Msg → Option (List ℕ)
locked_users (msg.Meta (UserAcl ids)) = Some ids
locked_users m = None

-- the tiers of a FeatureTiers
abbrev pub feature_tiers : Msg → Option Tiers
feature_tiers (msg.Meta (FeatureTiers tiers)) = Some tiers
feature_tiers m = None

-- the depth of an UndoDepth
abbrev pub set_depth : Msg → Option ℕ
set_depth (msg.Meta (UndoDepth depth)) = Some depth
set_depth m = None

-- what a LayerAcl says of its layer
pub record LayerRule : Type 0 where
  pub locked : Bool
  pub tier : ℕ
  pub ids : List ℕ

-- the rule of a LayerAcl of this layer
abbrev pub layer_rule : ℕ → Msg → Option LayerRule
layer_rule layer (msg.Meta (LayerAcl other locked tier ids)) =
    if other == layer then Some (record { locked = locked; tier = tier; ids = ids }) else None
layer_rule layer m = None

-- the entry is a Join of the user
abbrev pub is_join_of : ℕ → Entry → Bool
is_join_of user entry = is_some (joined entry.msg) && entry.user == user

-- the user has joined
abbrev pub has_joined : List Entry → ℕ → Bool
has_joined history user = list_any (is_join_of user) history

-- the entries after the user's last Join, none if the user hasn't joined
abbrev pub since_join : List Entry → ℕ → List Entry
since_join history user =
    if has_joined history user then after_last (is_join_of user) history else []
