-- What is carried, by what is kept.
use Rattle.std.proofs.Common.{◌≡◌, ℕ, zero, suc, ◌+◌, ◌<◌, ◌≤◌, ◌==◌, Bool, true, false}
use Rattle.std.proofs.Common.{if◌then◌else◌}
use Rattle.std.proofs.Common.{List, [], ◌∷◌, ◌++◌, length, map, All, Option, Some, None}
use Rattle.std.specs.Prelude.{option_to_list}
use Rattle.std.proofs.Common.{refl, sym, ap, subst, ◌∙◌, inl, inr, arith, zero-add}
use Rattle.std.specs.List.{filter, filter_map, cons_option, range_with_len}
use Rattle.std.specs.Option.{option_map}
use Rattle.std.proofs.lemmas.Bool.{cases_eq, cond-true, cond-false, eq-eqb, ne_eqb}
use Rattle.std.proofs.lemmas.List.Sums.{length-filter, count_by-le-length}
use Rattle.std.proofs.lemmas.List.Elements.{All-head, All-tail, All-cons, All-nil, All-weaker}
use Rattle.dp_msg_meta.specs.Fields.{RiseFrom}
use Rattle.dp_msg_meta.specs.declared.message.Meta.{Meta}
use Rattle.dp_msg_meta.specs.declared.message.Meta.TheVariants.{Owners, Trusted, UserAcl, LayerAcl}
use Rattle.dp_msg_meta.specs.declared.message.Meta.TheVariants.{FeatureTiers, UndoDepth}
use Rattle.dp_messages.specs.declared.message.Entry.{Entry}
use Rattle.dp_acl.specs.LookBack.{numbers_below, LayerRule}
use Rattle.dp_acl.specs.Rights.{is_operator, is_trusted, is_lock_listed, rule_of}
use Rattle.dp_acl.specs.Carried.{acl_with, carried_rule, carried_rules, carried}
use Rattle.dp_acl.specs.Table.{Kept, KeptRule, Mark, mark_of, kept_rule, rule_in_order, StandsFor}
use Rattle.dp_acl.specs.RuleTable.{acl_of, RulesRise}
use Rattle.dp_acl.proofs.ListLemmas.{filter-same, All-range, All-numbers}
use Rattle.dp_acl.proofs.RuleLemmas.{kept_rule-cons}

-- ---- lists

-- two functions that agree on the items give the same
filter_map-same : {X Y : Type 0} (f g : X → Option Y) (xs : List X) → All (λ x. f x ≡ g x) xs
    → filter_map f xs ≡ filter_map g xs
filter_map-same f g [] same = refl
filter_map-same f g (x ∷ xs) same =
    ap (λ o. cons_option o (filter_map f xs)) (All-head (λ y. f y ≡ g y) x xs same)
    ∙ ap (cons_option (g x)) (filter_map-same f g xs (All-tail (λ y. f y ≡ g y) x xs same))

filter_map-none : {Y : Type 0} (xs : List ℕ) → filter_map {X = ℕ} {Y = Y} (λ _. None) xs ≡ []
filter_map-none [] = refl
filter_map-none (x ∷ xs) = filter_map-none xs

filter_map-numbers : {Y : Type 0} (f g : ℕ → Option Y) (n : ℕ) → ((k : ℕ) → k < n → f k ≡ g k)
    → filter_map f (numbers_below n) ≡ filter_map g (numbers_below n)
filter_map-numbers f g n same = filter_map-same f g (numbers_below n)
    (All-numbers (λ k. f k ≡ g k) n same)

-- what passes a test is no more than all
pub length-filter_le : {X : Type 0} (p : X → Bool) (xs : List X) → length (filter p xs) ≤ length xs
length-filter_le p xs = omega (arith, length-filter p xs, count_by-le-length p xs)

-- ---- ids that rise

-- they are few
pub length-rise : (low : ℕ) (ids : List ℕ) → low ≤ 255 → RiseFrom low ids → length ids + low ≤ 255
length-rise low [] small rise = omega arith
length-rise low (id ∷ ids) small rise =
    omega (arith, rise.0, rise.1, length-rise (id + 1) ids (omega (arith, rise.1)) rise.2)

-- and they are ids of users
ids-rise : (low : ℕ) (ids : List ℕ) → RiseFrom low ids → All (λ id. id < 256) ids
ids-rise low [] rise = All-nil (λ id. id < 256)
ids-rise low (id ∷ ids) rise =
    All-cons (λ k. k < 256) id ids (omega (arith, rise.1)) (ids-rise (id + 1) ids rise.2)

-- ---- the rules of all layers

-- the LayerAcl of a rule that is kept
abbrev acl_at : ℕ → LayerRule → Meta
acl_at layer rule = LayerAcl layer rule.locked rule.tier rule.ids

-- the LayerAcl of the layer's rule
abbrev acl_by : List KeptRule → ℕ → Option Meta
acl_by rules layer = option_map (acl_at layer) (kept_rule rules layer)

-- no rule is of a layer below the first
kept_rule-below : (rules : List KeptRule) (low layer : ℕ) → RulesRise low rules → layer < low
    → kept_rule rules layer ≡ None
kept_rule-below [] low layer rise below = refl
kept_rule-below (k ∷ ks) low layer rise below =
    kept_rule-cons k ks layer
    ∙ cond-false (k.layer == layer) (Some k.rule) (kept_rule ks layer)
    (ne_eqb k.layer layer (λ e. omega (arith, rise.0)))
    ∙ kept_rule-below ks (suc k.layer) layer rise.2 (omega (arith, rise.0))

-- the rules after the first are of the layers above it
acl_by-rest : (k : KeptRule) (ks : List KeptRule) (low layer : ℕ) → low ≡ k.layer → low < layer
    → acl_by (k ∷ ks) layer ≡ acl_by ks layer
acl_by-rest k ks low layer same above =
    ap (option_map (acl_at layer)) (kept_rule-cons k ks layer
    ∙ cond-false (k.layer == layer) (Some k.rule) (kept_rule ks layer)
    (ne_eqb k.layer layer (λ e. omega arith)))

acl_by-first : (k : KeptRule) (ks : List KeptRule) (low : ℕ) → low ≡ k.layer
    → acl_by (k ∷ ks) low ≡ Some (acl_of k)
acl_by-first k ks low same =
    ap (option_map (acl_at low)) (kept_rule-cons k ks low
    ∙ cond-true (k.layer == low) (Some k.rule) (kept_rule ks low) (eq-eqb k.layer low (sym same)))
    ∙ ap (λ l. Some (acl_at l k.rule)) same

acl_by-none : (rules : List KeptRule) (low layer : ℕ) → RulesRise low rules → layer < low
    → acl_by rules layer ≡ None
acl_by-none rules low layer rise below =
    ap (option_map (acl_at layer)) (kept_rule-below rules low layer rise below)

acls-range : (n low : ℕ) (rules : List KeptRule) → low + n ≡ 65536 → RulesRise low rules
    → filter_map (acl_by rules) (range_with_len low n) ≡ map acl_of rules
acls-range n low [] all rise = filter_map-none (range_with_len low n)
acls-range zero low (k ∷ ks) all rise = absurd (omega (arith, rise.0, rise.1))
acls-range (suc n) low (k ∷ ks) all rise = elim (cases_eq low k.layer) [
  | inl same ↦
      let rest : RulesRise (low + 1) ks =
      subst (λ l. RulesRise l ks) {x = suc k.layer} (omega arith) rise.2 in
      ap (λ o. cons_option o (filter_map (acl_by (k ∷ ks)) (range_with_len (low + 1) n)))
      (acl_by-first k ks low same)
      ∙ ap (λ ms. acl_of k ∷ ms)
      (filter_map-same (acl_by (k ∷ ks)) (acl_by ks) (range_with_len (low + 1) n)
      (All-range (λ l. acl_by (k ∷ ks) l ≡ acl_by ks l) (low + 1) n
      (λ l above below. acl_by-rest k ks low l same (omega arith)))
      ∙ acls-range n (low + 1) ks (omega arith) rest)
  | inr differ ↦
      let above : RulesRise (low + 1) (k ∷ ks) = (omega (arith, rise.0), rise.1, rise.2) in
      ap (λ o. cons_option o (filter_map (acl_by (k ∷ ks)) (range_with_len (low + 1) n)))
      (acl_by-none (k ∷ ks) (low + 1) low above (omega arith))
      ∙ acls-range n (low + 1) (k ∷ ks) (omega arith) above
]

acls-numbers : (n : ℕ) (rules : List KeptRule) → n ≡ 65536 → RulesRise 0 rules
    → filter_map (acl_by rules) (numbers_below n) ≡ map acl_of rules
unfolding numbers_below
acls-numbers n rules all rise = acls-range n 0 rules (zero-add n ∙ all) rise

in_order-twice : (layer : ℕ) (o : Option LayerRule)
    → option_map (acl_with layer) o ≡ option_map (acl_at layer) (option_map rule_in_order o)
in_order-twice layer None = refl
in_order-twice layer (Some rule) = refl

carried_rules-kept : (kept : Kept) (history : List Entry) → StandsFor kept history
    → RulesRise 0 kept.rules
    → carried_rules history ≡ map acl_of kept.rules
carried_rules-kept kept history stands rise =
    filter_map-numbers (carried_rule history) (acl_by kept.rules) 65536
    (λ layer small. in_order-twice layer (rule_of history layer)
    ∙ ap (option_map (acl_at layer)) (sym (stands.rules layer small)))
    ∙ acls-numbers 65536 kept.rules refl rise

-- ---- all that is carried

present-same : (marks : List Bool) (test : ℕ → Bool) (present : List ℕ) → Mark marks test
    → RiseFrom 1 present
    → filter test present ≡ filter (mark_of marks) present
present-same marks test present same rise =
    filter-same test (mark_of marks) present
    (All-weaker (λ id. id < 256) (λ id. test id ≡ mark_of marks id) (λ id low. sym (same id low))
    present
    (ids-rise 1 present rise))

-- the list of messages, by what is kept
pub carried-kept : (kept : Kept) (history : List Entry) (present : List ℕ) → StandsFor kept history
    → RiseFrom 1 present → RulesRise 0 kept.rules
    → Owners (filter (mark_of kept.operators) present)
    ∷ Trusted (filter (mark_of kept.trusted) present)
    ∷ UserAcl ((if kept.all_locked then 0 ∷ [] else []) ++ filter (mark_of kept.lock_listed)
    present)
    ∷ FeatureTiers kept.tiers
    ∷ (option_to_list (option_map UndoDepth kept.depth) ++ map acl_of kept.rules)
    ≡ carried history present
carried-kept kept history present stands rise rules =
    cc (
      present-same kept.operators (is_operator history) present stands.operators rise,
      present-same kept.trusted (is_trusted history) present stands.trusted rise,
      present-same kept.lock_listed (is_lock_listed history) present stands.lock_listed rise,
      stands.all_locked,
      stands.tiers,
      stands.depth,
      carried_rules-kept kept history stands rules,
    )

-- a list that grows from nothing by four messages, those of the depth and the rest
pub six-pushed : (m0 m1 m2 m3 m4 m5 m6 : List Meta) (a b c d : Meta) (depth rest : List Meta)
    → m0 ≡ []
    → m1 ≡ m0 ++ a ∷ [] → m2 ≡ m1 ++ b ∷ [] → m3 ≡ m2 ++ c ∷ [] → m4 ≡ m3 ++ d ∷ []
    → m5 ≡ m4 ++ depth → m6 ≡ m5 ++ rest
    → m6 ≡ a ∷ b ∷ c ∷ d ∷ (depth ++ rest)
six-pushed m0 m1 m2 m3 m4 m5 m6 a b c d depth rest none first second third fourth fifth last =
    rw (last, fifth, fourth, third, second, first, none) refl

-- the first three messages with equal ids
pub same-start : (a a' b b' c c' : List ℕ) (rest : List Meta) → a ≡ a' → b ≡ b' → c ≡ c'
    → Owners a ∷ Trusted b ∷ UserAcl c ∷ rest ≡ Owners a' ∷ Trusted b' ∷ UserAcl c' ∷ rest
same-start a a' b b' c c' rest first second third = cc

length-lock : (b : Bool) (ids : List ℕ) → length ((if b then 0 ∷ [] else []) ++ ids) ≤ length ids
    + 1
length-lock true ids = omega arith
length-lock false ids = omega arith

-- the locks of present users, and the lock of all, fit a message
pub locks-short : (locks : List ℕ) (all : Bool) (marks : List Bool) (present : List ℕ)
    → locks ≡ (if all then 0 ∷ [] else []) ++ filter (mark_of marks) present → RiseFrom 1 present
    → {n : ℕ} → n ≡ length locks → n ≤ 255
locks-short locks all marks present is rise len =
    omega (
      arith,
      len,
      ap length is,
      length-lock all (filter (mark_of marks) present),
      length-filter_le (mark_of marks) present,
      length-rise 1 present (omega arith) rise,
    )
