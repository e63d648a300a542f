-- An epoch opens with the depth of undo that was in force before it.
use Rattle.std.proofs.Common.{◌≡◌, ℕ, suc, ◌-◌, true, List, [], ◌∷◌, ◌++◌, length, map}
use Rattle.std.proofs.Common.{Option, None, Some, is_some, unwrap_or, refl, ap, sym, ◌∙◌, arith}
use Rattle.std.specs.Prelude.{option_to_list, option_map}
use Rattle.std.specs.List.{AllByRecursion, filter_map, cons_option, slice_get}
use Rattle.std.proofs.lemmas.List.{map-append}
use Rattle.dp_msg_draw.specs.declared.draw.Draw.{Draw}
use Rattle.dp_msg_meta.specs.declared.message.Meta.{Meta}
use Rattle.dp_msg_meta.specs.declared.message.Meta.TheVariants.{Join, UndoDepth}
use Rattle.dp_messages.specs.declared.message.Msg.{Msg}
use Rattle.dp_messages.specs.declared.message.Msg.TheVariants as msg
use Rattle.dp_messages.specs.declared.message.Entry.{Entry}
use Rattle.dp_board.specs.Strokes.{last_of}
use Rattle.dp_board.specs.Laws.{depth_in, depth_after}
use Rattle.dp_replay.specs.Replay.{act_of_meta, act_of_message, user_act_of}
use Rattle.dp_acl.specs.LookBack.{joined, set_depth, LayerRule, numbers_below}
use Rattle.dp_acl.specs.Rights.{rule_of, depth_of}
use Rattle.dp_acl.specs.Carried.{carried, carried_depth, carried_rule, carried_rules, acl_with}
use Rattle.dp_acl.specs.Opening.{server_entry, command_entry}

-- the depth after entries
abbrev pub depth_from : ℕ → List Entry → ℕ
depth_from depth entries = depth_after depth (map user_act_of entries)

-- the depth that the act of a message sets is that of the message
depth-meta : (m : Meta) → depth_in (act_of_meta {Op = Draw} m) ≡ set_depth (msg.Meta m)
depth-meta (UndoDepth depth) = refl
depth-meta m = refl

depth-message : (sender : ℕ) (m : Msg) → depth_in (act_of_message sender m) ≡ set_depth m
depth-message sender (msg.Meta m) = depth-meta m
depth-message sender (msg.Undo target true) = refl
depth-message sender _ = refl

depth-append : (depth : ℕ) (xs ys : List Entry)
    → depth_from depth (xs ++ ys) ≡ depth_from (depth_from depth xs) ys
depth-append depth [] ys = refl
depth-append depth (x ∷ xs) ys =
    depth-append (unwrap_or (depth_in (act_of_message x.user x.msg)) depth) xs ys

-- no entry sets a depth
abbrev SetNone : List Entry → Type 0
SetNone entries = AllByRecursion (λ e. set_depth e.msg ≡ None) entries

depth-none : (depth : ℕ) (entries : List Entry) → SetNone entries
    → depth_from depth entries ≡ depth
depth-none depth [] none = refl
depth-none depth (e ∷ entries) none =
    ap (λ o. depth_from (unwrap_or o depth) entries) (depth-message e.user e.msg ∙ none.0)
    ∙ depth-none depth entries none.1

-- a Join sets none
join-none : (m : Meta) → is_some (joined (msg.Meta m)) ≡ true → set_depth (msg.Meta m) ≡ None
join-none (Join registered name) some = refl
join-none m some = cc

message-none : (m : Msg) → is_some (joined m) ≡ true → set_depth m ≡ None
message-none (msg.Meta m) some = join-none m some
message-none m some = cc

pub joins-none : (entries : List Entry)
    → AllByRecursion (λ e. is_some (joined e.msg) ≡ true) entries → SetNone entries
joins-none [] are = tt
joins-none (e ∷ entries) are = (message-none e.msg are.0, joins-none entries are.1)

drawn-none : (list : List Draw) → SetNone (map command_entry list)
drawn-none [] = tt
drawn-none (command ∷ list) = (refl, drawn-none list)

-- the rules of layers set none
rules-none : (history : List Entry) (layers : List ℕ)
    → SetNone (map server_entry (filter_map (carried_rule history) layers))
rules-none history [] = tt
rules-none history (layer ∷ layers) =
    one (rule_of history layer) (filter_map (carried_rule history) layers)
    (rules-none history layers)
  where
    one : (o : Option LayerRule) (rest : List Meta) → SetNone (map server_entry rest)
        → SetNone (map server_entry (cons_option (option_map (acl_with layer) o) rest))
    one None rest none = none
    one (Some rule) rest none = (refl, none)

depth-option : (depth : ℕ) (o : Option ℕ)
    → depth_from depth (map server_entry (option_to_list (option_map UndoDepth o)))
    ≡ unwrap_or o depth
depth-option depth None = refl
depth-option depth (Some set) = refl

-- what is carried sets the depth that was set last
depth-carried : (depth : ℕ) (history : List Entry) (present : List ℕ)
    → depth_from depth (map server_entry (carried history present))
    ≡ unwrap_or (depth_of history) depth
depth-carried depth history present =
    ap (depth_from depth)
    (map-append server_entry (carried_depth history) (carried_rules history))
    ∙ depth-append depth (map server_entry (carried_depth history))
    (map server_entry (carried_rules history))
    ∙ ap (λ d. depth_from d (map server_entry (carried_rules history)))
    (depth-option depth (depth_of history))
    ∙ depth-none (unwrap_or (depth_of history) depth) (map server_entry (carried_rules history))
    (rules-none history (numbers_below 65536))

-- ---- the depth after a history

last-cons : (x y : ℕ) (ys : List ℕ) → last_of (x ∷ y ∷ ys) ≡ last_of (y ∷ ys)
last-cons x y ys =
    let e : length (x ∷ y ∷ ys) - 1 ≡ suc (length (y ∷ ys) - 1) = omega arith in
    ap (slice_get (x ∷ y ∷ ys)) e

last-some : (y : ℕ) (ys : List ℕ) (a b : ℕ)
    → unwrap_or (last_of (y ∷ ys)) a ≡ unwrap_or (last_of (y ∷ ys)) b
last-some y [] a b = refl
last-some y (z ∷ zs) a b =
    ap (λ o. unwrap_or o a) (last-cons y z zs)
    ∙ last-some z zs a b
    ∙ ap (λ o. unwrap_or o b) (sym (last-cons y z zs))

last-option : (depth : ℕ) (o : Option ℕ) (xs : List ℕ)
    → unwrap_or (last_of xs) (unwrap_or o depth) ≡ unwrap_or (last_of (cons_option o xs)) depth
last-option depth None xs = refl
last-option depth (Some x) [] = refl
last-option depth (Some x) (y ∷ ys) =
    last-some y ys x depth ∙ ap (λ o. unwrap_or o depth) (sym (last-cons x y ys))

depth-last : (depth : ℕ) (history : List Entry)
    → depth_from depth history ≡ unwrap_or (depth_of history) depth
depth-last depth [] = refl
depth-last depth (e ∷ history) =
    ap (λ o. depth_from (unwrap_or o depth) history) (depth-message e.user e.msg)
    ∙ depth-last (unwrap_or (set_depth e.msg) depth) history
    ∙ last-option depth (set_depth e.msg) (filter_map (λ entry. set_depth entry.msg) history)

-- after the Joins, what is carried and the commands the depth is that after the history
pub depth-opening : (depth : ℕ) (history joins : List Entry) (present : List ℕ) (list : List Draw)
    → SetNone joins → depth_from depth
    (joins ++ map server_entry (carried history present) ++ map command_entry list)
    ≡ depth_from depth history
depth-opening depth history joins present list none =
    let rights = map server_entry (carried history present) in
    let drawn = map command_entry list in
    depth-append depth (joins ++ rights) drawn
    ∙ ap (λ d. depth_from d drawn) (depth-append depth joins rights
    ∙ ap (λ d. depth_from d rights) (depth-none depth joins none)
    ∙ depth-carried depth history present)
    ∙ depth-none (unwrap_or (depth_of history) depth) drawn (drawn-none list)
    ∙ sym (depth-last depth history)
