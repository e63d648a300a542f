-- What looking back finds after one more entry.
use Rattle.std.proofs.Common.{◌≡◌, ℕ, ◌+◌, ◌-◌, ◌≤◌, ◌==◌, ◌&&◌, ◌||◌, not, Bool, true, false, cond}
use Rattle.std.proofs.Common.{if◌then◌else◌, List, [], ◌∷◌, ◌++◌, length, drop, reverse, slice_get}
use Rattle.std.proofs.Common.{Option, Some, None, is_some, unwrap_or, refl, sym, ap, ◌∙◌, arith}
use Rattle.std.proofs.Common.{append-nil}
use Rattle.std.specs.List.{filter, filter_map, cons_option, after_last, prefix_len, suffix_len}
use Rattle.std.specs.Option.{option_map_or, option_or}
use Rattle.std.proofs.lemmas.Bool.{cond-true, cond-false, not_from_true, not_from_false, and_parts}
use Rattle.std.proofs.lemmas.Bool.{false≢true}
use Rattle.std.proofs.lemmas.List.{length_push, reverse-append, length-reverse, drop_all}
use Rattle.std.proofs.lemmas.List.{drop-append-le}
use Rattle.std.proofs.lemmas.List.Sums.{prefix_len-le-length}
use Rattle.std.proofs.lemmas.List.Elements.{filter-append, filter_map-append}
use Rattle.std.proofs.lemmas.List.Folds.{list_any-append}
use Rattle.dp_messages.specs.declared.message.Msg.{Msg}
use Rattle.dp_messages.specs.declared.message.Entry.{Entry}
use Rattle.dp_acl.specs.LookBack.{lists, last_said, joined, locked_users, feature_tiers, layer_rule}
use Rattle.dp_acl.specs.LookBack.{is_join_of, has_joined, since_join, set_depth}
use Rattle.dp_acl.specs.Rights.{is_listed, is_registered, are_all_locked, tiers_of, first_tiers}
use Rattle.dp_acl.specs.Rights.{rule_of, depth_of}

-- ---- lists

slice_get-last : {X : Type 0} (xs : List X) (x : X) → slice_get (xs ++ x ∷ []) (length xs) ≡ Some x
slice_get-last [] x = refl
slice_get-last (y ∷ xs) x = slice_get-last xs x

-- the last item of a list
abbrev pub last_item : {X : Type 0} → List X → Option X
last_item xs = slice_get xs (length xs - 1)

pub last_item-more : {X : Type 0} (xs : List X) (o : Option X)
    → last_item (xs ++ cons_option o []) ≡ option_or o (last_item xs)
last_item-more xs None = ap last_item (append-nil xs)
last_item-more xs (Some x) =
    let last : length (xs ++ x ∷ []) - 1 ≡ length xs = omega (arith, length_push xs x) in
    ap (slice_get (xs ++ x ∷ [])) last ∙ slice_get-last xs x

-- what stands after the last item that passes, with one more item
after_last-push : {X : Type 0} (p : X → Bool) (xs : List X) (x : X)
    → after_last p (xs ++ x ∷ []) ≡ (if p x then [] else after_last p xs ++ x ∷ [])
after_last-push {X} p xs x = by_case (p x) refl
  where
    q : X → Bool
    q y = not (p y)

    n : ℕ
    n = suffix_len q xs

    few : n ≤ length xs
    few = omega (arith, prefix_len-le-length q (reverse xs), length-reverse xs)

    turned : suffix_len q (xs ++ x ∷ []) ≡ cond (not (p x)) (1 + n) 0
    turned = ap (prefix_len q) (reverse-append xs (x ∷ []))

    by_case : (b : Bool) → p x ≡ b → after_last p (xs ++ x ∷ [])
        ≡ (if p x then [] else after_last p xs ++ x ∷ [])
    by_case true passes =
        let none : suffix_len q (xs ++ x ∷ []) ≡ 0 =
        turned ∙ cond-false (not (p x)) (1 + n) 0 (not_from_true (p x) passes) in
        drop_all (length (xs ++ x ∷ []) - suffix_len q (xs ++ x ∷ [])) (xs ++ x ∷ []) (omega arith)
        ∙ sym (cond-true (p x) [] (after_last p xs ++ x ∷ []) passes)
    by_case false fails =
        let more : suffix_len q (xs ++ x ∷ []) ≡ 1 + n =
        turned ∙ cond-true (not (p x)) (1 + n) 0 (not_from_false (p x) fails) in
        let place : length (xs ++ x ∷ []) - suffix_len q (xs ++ x ∷ []) ≡ length xs - n =
        omega (arith, length_push xs x, few) in
        ap (λ k. drop k (xs ++ x ∷ [])) place
        ∙ drop-append-le (length xs - n) xs (x ∷ []) (omega arith)
        ∙ sym (cond-false (p x) [] (after_last p xs ++ x ∷ []) fails)

-- ---- what was said last

pub last_said-push : {X : Type 0} (said : Msg → Option X) (history : List Entry) (e : Entry)
    → last_said said (history ++ e ∷ []) ≡ option_or (said e.msg) (last_said said history)
last_said-push said history e =
    ap last_item (filter_map-append (λ (entry : Entry). said entry.msg) history (e ∷ []))
    ∙ last_item-more (filter_map (λ entry. said entry.msg) history) (said e.msg)

map_or-or : {X Y : Type 0} (f : X → Y) (o p : Option X) (d : Y)
    → option_map_or f (option_or o p) d ≡ option_map_or f o (option_map_or f p d)
map_or-or f None p d = refl
map_or-or f (Some x) p d = refl

unwrap-or : {X : Type 0} (o p : Option X) (d : X) → unwrap_or (option_or o p) d
    ≡ unwrap_or o (unwrap_or p d)
unwrap-or None p d = refl
unwrap-or (Some x) p d = refl

pub all_locked-push : (history : List Entry) (e : Entry)
    → are_all_locked (history ++ e ∷ [])
    ≡ option_map_or (λ listed. lists listed 0) (locked_users e.msg) (are_all_locked history)
all_locked-push history e =
    ap (λ o. option_map_or (λ listed. lists listed 0) o false)
    (last_said-push locked_users history e)
    ∙ map_or-or (λ listed. lists listed 0) (locked_users e.msg) (last_said locked_users history)
    false

pub tiers-push : (history : List Entry) (e : Entry)
    → tiers_of (history ++ e ∷ []) ≡ unwrap_or (feature_tiers e.msg) (tiers_of history)
tiers-push history e =
    ap (λ o. unwrap_or o first_tiers) (last_said-push feature_tiers history e)
    ∙ unwrap-or (feature_tiers e.msg) (last_said feature_tiers history) first_tiers

pub depth-push : (history : List Entry) (e : Entry)
    → depth_of (history ++ e ∷ []) ≡ option_or (set_depth e.msg) (depth_of history)
depth-push history e = last_said-push set_depth history e

pub rule-push : (history : List Entry) (e : Entry) (layer : ℕ)
    → rule_of (history ++ e ∷ []) layer ≡ option_or (layer_rule layer e.msg) (rule_of history layer)
rule-push history e layer = last_said-push (layer_rule layer) history e

-- ---- what was said since a user joined

or_swap : (a b : Bool) → (a || (b || false)) ≡ (b || a)
or_swap true true = refl
or_swap _ _ = refl

pub joined-push : (history : List Entry) (e : Entry) (user : ℕ)
    → has_joined (history ++ e ∷ []) user ≡ (is_join_of user e || has_joined history user)
joined-push history e user =
    list_any-append (is_join_of user) history (e ∷ []) ∙ or_swap (has_joined history user)
    (is_join_of user e)

since-push : (history : List Entry) (e : Entry) (user : ℕ)
    → since_join (history ++ e ∷ []) user
    ≡ (if is_join_of user e || has_joined history user
    then (if is_join_of user e then [] else after_last (is_join_of user) history ++ e ∷ []) else [])
since-push history e user =
    ap (λ b. if b then after_last (is_join_of user) (history ++ e ∷ []) else [])
    (joined-push history e user)
    ∙ ap (λ es. if is_join_of user e || has_joined history user then es else [])
    (after_last-push (is_join_of user) history e)

-- whether a user is listed after an entry: whether it is the user's Join, whether the user had
-- joined, what it lists, and whether the user was listed
abbrev pub listed_after : Bool → Bool → Option (List ℕ) → Bool → ℕ → Bool
listed_after joins had_joined ids was_listed user =
    if joins then false else option_map_or (λ listed. had_joined && lists listed user) ids
    was_listed

map_or-false : (o : Option (List ℕ)) (user : ℕ)
    → option_map_or (λ listed. false && lists listed user) o false ≡ false
map_or-false None user = refl
map_or-false (Some ids) user = refl

module _ (said : Msg → Option (List ℕ)) (user : ℕ) where
  -- the last list of the entries lists the user
  abbrev Listed : List Entry → Bool
  Listed es = option_map_or (λ listed. lists listed user) (last_said said es) false

  cases : (joins had_joined : Bool) (es : List Entry) (e : Entry)
      → Listed (if joins || had_joined then (if joins then [] else es ++ e ∷ []) else [])
      ≡ listed_after joins had_joined (said e.msg) (Listed (if had_joined then es else [])) user
  cases true had_joined es e = refl
  cases false true es e =
      ap (λ o. option_map_or (λ listed. lists listed user) o false) (last_said-push said es e)
      ∙ map_or-or (λ listed. lists listed user) (said e.msg) (last_said said es) false
  cases false false es e = sym (map_or-false (said e.msg) user)

  pub listed-push : (history : List Entry) (e : Entry)
      → is_listed said (history ++ e ∷ []) user
      ≡ listed_after (is_join_of user e) (has_joined history user) (said e.msg)
      (is_listed said history user) user
  listed-push history e =
      ap Listed (since-push history e user)
      ∙ cases (is_join_of user e) (has_joined history user) (after_last (is_join_of user) history) e

-- ---- whether a user is registered

pub registered-push : (history : List Entry) (e : Entry) (user : ℕ)
    → is_registered (history ++ e ∷ []) user
    ≡ (if is_join_of user e then unwrap_or (joined e.msg) false else is_registered history user)
registered-push history e user = by_case (is_join_of user e) refl
  where
    mine : List Entry
    mine = filter (is_join_of user) history

    by_case : (b : Bool) → is_join_of user e ≡ b
        → is_registered (history ++ e ∷ []) user
        ≡ (if is_join_of user e then unwrap_or (joined e.msg) false else is_registered history user)
    by_case true is =
        ap (λ es. unwrap_or (last_said joined es) false)
        (filter-append (is_join_of user) history (e ∷ []))
        ∙ ap (λ b. unwrap_or (last_said joined (mine ++ (if b then e ∷ [] else []))) false) is
        ∙ ap (λ o. unwrap_or o false) (last_said-push joined mine e)
        ∙ of_join (joined e.msg) (last_said joined mine) (join_says user e is)
        ∙ sym (cond-true (is_join_of user e) (unwrap_or (joined e.msg) false)
        (is_registered history user) is)
      where
        of_join : (o p : Option Bool) → is_some o ≡ true
            → unwrap_or (option_or o p) false ≡ unwrap_or o false
        of_join None p some = absurd (false≢true some)
        of_join (Some r) p some = refl

        join_says : (user : ℕ) (e : Entry) → is_join_of user e ≡ true
            → is_some (joined e.msg) ≡ true
        join_says user e is = (and_parts (is_some (joined e.msg)) (e.user == user) is).0
    by_case false is =
        ap (λ es. unwrap_or (last_said joined es) false)
        (filter-append (is_join_of user) history (e ∷ []))
        ∙ ap (λ b. unwrap_or (last_said joined (mine ++ (if b then e ∷ [] else []))) false) is
        ∙ ap (λ es. unwrap_or (last_said joined es) false) (append-nil mine)
        ∙ sym (cond-false (is_join_of user e) (unwrap_or (joined e.msg) false)
        (is_registered history user) is)
