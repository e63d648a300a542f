-- What an epoch opens with has a spelling, if the history before it and the commands have one.
use Rattle.std.proofs.Common.{ℕ, zero, suc, ◌+◌, ◌-◌, ◌^◌, ◌<◌, ◌≤◌, ◌==◌, Bool, true, false}
use Rattle.std.proofs.Common.{if◌then◌else◌, List, [], ◌∷◌, ◌++◌, length, map, Option, None, Some}
use Rattle.std.proofs.Common.{sym, subst, arith, unwrap_or}
use Rattle.std.specs.Prelude.{All, IfSome, option_to_list, slice_index_or}
use Rattle.std.specs.List.{filter, filter_map, cons_option, slice_get, range_with_len}
use Rattle.std.specs.Option.{option_map}
use Rattle.std.proofs.lemmas.Bool.{cond_both}
use Rattle.std.proofs.lemmas.List.Elements.{All-nil, All-cons, All-head, All-tail, All-append}
use Rattle.std.proofs.lemmas.List.Elements.{All-filter, All-map, All-weaker}
use Rattle.dp_msg_draw.specs.declared.draw.Draw.{Draw}
use Rattle.dp_msg_draw.specs.Payloads.{DrawHasSpelling}
use Rattle.dp_msg_meta.specs.Fields.{RiseFrom}
use Rattle.dp_msg_meta.specs.Payloads.{MetaHasSpelling, AreTiers}
use Rattle.dp_msg_meta.specs.declared.message.Meta.{Meta}
use Rattle.dp_msg_meta.specs.declared.message.Meta.TheVariants as meta
use Rattle.dp_messages.specs.declared.message.Msg.{Msg}
use Rattle.dp_messages.specs.declared.message.Msg.TheVariants as msg
use Rattle.dp_messages.specs.declared.message.Entry.{Entry}
use Rattle.dp_messages.specs.Messages.{HasSpelling}
use Rattle.dp_acl.specs.LookBack.{last_said, feature_tiers, set_depth, layer_rule, LayerRule}
use Rattle.dp_acl.specs.LookBack.{numbers_below, is_join_of}
use Rattle.dp_acl.specs.Rights.{is_operator, is_trusted, is_lock_listed, are_all_locked}
use Rattle.dp_acl.specs.Rights.{first_tiers, depth_of, rule_of}
use Rattle.dp_acl.specs.Carried.{carried, carried_owners, carried_trusted, carried_locks}
use Rattle.dp_acl.specs.Carried.{carried_tiers, carried_depth, carried_rules, carried_rule}
use Rattle.dp_acl.specs.Carried.{acl_with}
use Rattle.dp_acl.specs.Laws.{SpelledIdsAreInOrder}
use Rattle.dp_acl.specs.Opening.{server_entry, command_entry, last_join, opening, carried_entries}
use Rattle.dp_sim_laws.specs.Spelled.{AreSpelledEntries}

-- ---- lists

-- an item of a list in which each item does
pub get-all : {X : Type 0} (P : X → Type 0) (xs : List X) (i : ℕ) → All P xs
    → IfSome (slice_get xs i) P
get-all P [] i each = tt
get-all P (x ∷ xs) zero each = All-head P x xs each
get-all P (x ∷ xs) (suc i) each = get-all P xs i (All-tail P x xs each)

cons-all : {Y : Type 0} (P : Y → Type 0) (o : Option Y) (ys : List Y) → IfSome o P → All P ys
    → All P (cons_option o ys)
cons-all P None ys some each = each
cons-all P (Some y) ys some each = All-cons P y ys some each

-- what a function gives of a list's items, if each does
kept-all : {X Y : Type 0} (P : Y → Type 0) (f : X → Option Y) (xs : List X)
    → All (λ x. IfSome (f x) P) xs → All P (filter_map f xs)
kept-all P f [] each = All-nil P
kept-all P f (x ∷ xs) each =
    cons-all P (f x) (filter_map f xs) (All-head (λ y. IfSome (f y) P) x xs each)
    (kept-all P f xs (All-tail (λ y. IfSome (f y) P) x xs each))

or-else : {X : Type 0} (P : X → Type 0) (o : Option X) (d : X) → IfSome o P → P d
    → P (unwrap_or o d)
or-else P None d some other = other
or-else P (Some x) d some other = some

map-some : {X Y : Type 0} (P : X → Type 0) (Q : Y → Type 0) (f : X → Y)
    → ((x : X) → P x → Q (f x)) → (o : Option X) → IfSome o P → IfSome (option_map f o) Q
map-some P Q f keeps None some = tt
map-some P Q f keeps (Some x) some = keeps x some

list-some : {X : Type 0} (P : X → Type 0) (o : Option X) → IfSome o P → All P (option_to_list o)
list-some P None some = All-nil P
list-some P (Some x) some = All-cons P x [] some (All-nil P)

-- ---- ids that rise

rise-above : (low high : ℕ) (ids : List ℕ) → low ≤ high → RiseFrom high ids → RiseFrom low ids
rise-above low high [] le rise = tt
rise-above low high (id ∷ ids) le rise = (omega (arith, le, rise.0), rise.1, rise.2)

rise-filter : (p : ℕ → Bool) (low : ℕ) (ids : List ℕ) → RiseFrom low ids
    → RiseFrom low (filter p ids)
rise-filter p low [] rise = tt
rise-filter p low (id ∷ ids) rise =
    let rest = rise-filter p (id + 1) ids rise.2 in
    cond_both (p id) (id ∷ filter p ids) (filter p ids) (RiseFrom low)
    (λ yes. (rise.0, rise.1, rest))
    (λ no. rise-above low (id + 1) (filter p ids) (omega (arith, rise.0)) rest)

-- 0 before them, or not
rise-zero : (b : Bool) (ids : List ℕ) → RiseFrom 1 ids
    → RiseFrom 0 ((if b then 0 ∷ [] else []) ++ ids)
rise-zero true ids rise = (omega arith, omega arith, rise)
rise-zero false ids rise = rise-above 0 1 ids (omega arith) rise

-- ---- what was said last

-- what a message says, that has a spelling
abbrev Says : {X : Type 0} → (Msg → Option X) → (X → Type 0) → Type 0
Says {X = X} said P = (m : Msg) → HasSpelling m → IfSome (said m) P

last-spelled : {X : Type 0} (said : Msg → Option X) (P : X → Type 0) → Says said P
    → (history : List Entry) → AreSpelledEntries history → IfSome (last_said said history) P
last-spelled said P says history each =
    let all = filter_map (λ (entry : Entry). said entry.msg) history in
    get-all P all (length all - 1)
    (kept-all P (λ (entry : Entry). said entry.msg) history
    (All-weaker (λ (entry : Entry). HasSpelling entry.msg)
    (λ (entry : Entry). IfSome (said entry.msg) P) (λ entry h. says entry.msg h) history each))

tiers-said : Says feature_tiers AreTiers
tiers-said (msg.Meta (meta.FeatureTiers tiers)) spelled = spelled
tiers-said m spelled = tt

abbrev IsDepth : ℕ → Type 0
IsDepth depth = (1 ≤ depth) × (depth < 2 ^ 8)

depth-said : Says set_depth IsDepth
depth-said (msg.Meta (meta.UndoDepth depth)) spelled = spelled
depth-said m spelled = tt

abbrev IsRule : LayerRule → Type 0
IsRule rule = (rule.tier ≤ 3) × RiseFrom 1 rule.ids

rule-said : (layer : ℕ) → Says (layer_rule layer) IsRule
rule-said layer (msg.Meta (meta.LayerAcl other locked tier ids)) spelled =
    let rule : LayerRule = record { locked = locked; tier = tier; ids = ids } in
    cond_both (other == layer) (Some rule) None (λ o. IfSome o IsRule)
    (λ yes. (spelled.1, spelled.2)) (λ no. tt)
rule-said layer m spelled = tt

-- ---- what is carried

tiers-first : AreTiers first_tiers
tiers-first = (
  omega arith,
  omega arith,
  omega arith,
  omega arith,
  omega arith,
  omega arith,
  omega arith,
  omega arith,
)

module _ (order : SpelledIdsAreInOrder) (history : List Entry)
    (each : AreSpelledEntries history) where
  rule-spelled : (layer : ℕ) → layer < 65536
      → IfSome (carried_rule history layer) MetaHasSpelling
  rule-spelled layer within =
      map-some IsRule MetaHasSpelling (acl_with layer)
      (λ rule is. (
        omega (arith, within),
        is.0,
        subst (RiseFrom 1) (sym (order 1 rule.ids is.1)) is.1,
      ))
      (rule_of history layer)
      (last-spelled (layer_rule layer) IsRule (rule-said layer) history each)

  rules-from : (a n : ℕ) → a + n ≤ 65536
      → All MetaHasSpelling (filter_map (carried_rule history) (range_with_len a n))
  rules-from a zero within = All-nil MetaHasSpelling
  rules-from a (suc n) within =
      cons-all MetaHasSpelling (carried_rule history a)
      (filter_map (carried_rule history) (range_with_len (a + 1) n))
      (rule-spelled a (omega arith)) (rules-from (a + 1) n (omega arith))

  rules-spelled : All MetaHasSpelling (carried_rules history)
  unfolding numbers_below
  rules-spelled = rules-from 0 65536 (omega arith)

  depths-spelled : All MetaHasSpelling (carried_depth history)
  depths-spelled =
      list-some MetaHasSpelling (option_map meta.UndoDepth (depth_of history))
      (map-some IsDepth MetaHasSpelling meta.UndoDepth (λ depth is. is) (depth_of history)
      (last-spelled set_depth IsDepth depth-said history each))

  carried-spelled : (present : List ℕ) → RiseFrom 1 present
      → All MetaHasSpelling (carried history present)
  carried-spelled present rise =
      let depth = carried_depth history in
      let rules = carried_rules history in
      let P : Meta → Type 0 = MetaHasSpelling in
      let owners = carried_owners history present in
      let trusted = carried_trusted history present in
      let locks = carried_locks history present in
      let tiers = carried_tiers history in
      All-cons P owners (trusted ∷ locks ∷ tiers ∷ (depth ++ rules))
      (rise-filter (is_operator history) 1 present rise)
      (All-cons P trusted (locks ∷ tiers ∷ (depth ++ rules))
      (rise-filter (is_trusted history) 1 present rise)
      (All-cons P locks (tiers ∷ (depth ++ rules))
      (rise-zero (are_all_locked history) (filter (is_lock_listed history) present)
      (rise-filter (is_lock_listed history) 1 present rise))
      (All-cons P tiers (depth ++ rules)
      (or-else AreTiers (last_said feature_tiers history) first_tiers
      (last-spelled feature_tiers AreTiers tiers-said history each) tiers-first)
      (All-append P depth rules depths-spelled rules-spelled))))

  joins-spelled : (present : List ℕ) → AreSpelledEntries (filter_map (last_join history) present)
  joins-spelled present =
      kept-all (λ (e : Entry). HasSpelling e.msg) (last_join history) present (λ k d within.
      let user = slice_index_or present k d in
      let joins = filter (is_join_of user) history in
      get-all (λ (e : Entry). HasSpelling e.msg) joins (length joins - 1)
      (All-filter (is_join_of user) (λ (e : Entry). HasSpelling e.msg) history each))

  -- the opening has a spelling
  pub opening-spelled : (epoch : ℕ) (present : List ℕ) (commands : List Draw) (kept : List Entry)
      → epoch < 2 ^ 32 → length (opening epoch history present commands kept) ≤ 2 ^ 32
      → RiseFrom 1 present → All DrawHasSpelling commands → AreSpelledEntries kept
      → AreSpelledEntries (opening epoch history present commands kept)
  opening-spelled epoch present commands kept small short rise drawn said =
      let P : Entry → Type 0 = λ e. HasSpelling e.msg in
      let joins = filter_map (last_join history) present in
      let rights = map server_entry (carried history present) in
      let parts = map command_entry commands in
      let rest = carried_entries history present commands kept in
      All-cons P (server_entry (meta.ResetMark epoch (length rest))) rest
      (small, omega (arith, short))
      (All-append P (joins ++ rights ++ parts) kept
      (All-append P (joins ++ rights) parts
      (All-append P joins rights (joins-spelled present)
      (All-map P server_entry (carried history present) (carried-spelled present rise)))
      (All-map P command_entry commands drawn)) said)
