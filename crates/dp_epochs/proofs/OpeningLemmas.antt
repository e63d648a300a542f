-- How an epoch opens: how long that is, its marks, and the Joins in it.
use Rattle.std.proofs.Common.{◌≡◌, ℕ, zero, suc, ◌+◌, ◌-◌, ◌<◌, ◌≤◌, ◌==◌, ◌&&◌, ◌||◌, Bool}
use Rattle.std.proofs.Common.{true, false, cond, List, [], ◌∷◌, ◌++◌, length, map, drop, slice_get}
use Rattle.std.proofs.Common.{Option, None, Some, is_some}
use Rattle.std.proofs.Common.{refl, sym, ap, subst, ◌∙◌, ⊎_elim, arith, append-nil, length-append}
use Rattle.std.specs.Prelude.{option_to_list}
use Rattle.std.specs.List.{AllByRecursion, filter, filter_map, cons_option, range_with_len}
use Rattle.std.specs.Option.{option_map}
use Rattle.std.proofs.lemmas.Bool.{cond_both, cond-true, cond-false, cases_Bool, cases_eq}
use Rattle.std.proofs.lemmas.Bool.{and_parts, false≢true, ne_eqb, eqb-true}
use Rattle.std.proofs.lemmas.List.{length-map}
use Rattle.std.proofs.lemmas.List.Elements.{filter-append}
use Rattle.std.proofs.lemmas.List.FromFn.{length-range_with_len}
use Rattle.std.proofs.Math.Bool.{and-false}
use Rattle.dp_msg_draw.specs.declared.draw.Draw.{Draw}
use Rattle.dp_msg_meta.specs.Fields.{RiseFrom}
use Rattle.dp_msg_meta.specs.declared.message.Meta.{Meta}
use Rattle.dp_msg_meta.specs.declared.message.Meta.TheVariants as meta
use Rattle.dp_messages.specs.declared.message.Msg.{Msg}
use Rattle.dp_messages.specs.declared.message.Msg.TheVariants as msg
use Rattle.dp_messages.specs.declared.message.Entry.{Entry}
use Rattle.dp_messages.specs.Properties.{marked}
use Rattle.dp_acl.specs.LookBack.{numbers_below, lists, joined, is_join_of, LayerRule}
use Rattle.dp_acl.specs.Rights.{rule_of, depth_of}
use Rattle.dp_acl.specs.Carried.{acl_with, carried_depth, carried_rule, carried_rules, carried}
use Rattle.dp_acl.specs.Opening.{server_entry, command_entry, last_join, carried_entries, opening}
use Rattle.dp_acl.specs.Opening.{goes_over, GoOver, kept_entries}
use Rattle.dp_acl.proofs.KeptLemmas.{kept-goes}
use Rattle.dp_acl.specs.Opening.{part_limit, opening_limit}
use Rattle.dp_epochs.specs.State.{State, Stream, is_present, user_ids, present_users, kept_by}
use Rattle.dp_epochs.specs.Laws.{HasNoMark, IsHistory}

-- ---- length

length-more : {X : Type 0} (o : Option X) (xs : List X) (n : ℕ) → length xs ≤ n
    → length (cons_option o xs) ≤ n + 1
length-more None xs n few = omega arith
length-more (Some x) xs n few = omega arith

length-kept : {X Y : Type 0} (f : X → Option Y) (xs : List X) → length (filter_map f xs) ≤ length xs
length-kept f [] = omega arith
length-kept f (x ∷ xs) =
    omega (arith, length-more (f x) (filter_map f xs) (length xs) (length-kept f xs))

length-passing : {X : Type 0} (p : X → Bool) (xs : List X) → length (filter p xs) ≤ length xs
length-passing p [] = omega arith
length-passing {X} p (x ∷ xs) =
    cond_both (p x) (x ∷ filter p xs) (filter p xs) (λ (ys : List X). length ys ≤ length (x ∷ xs))
    (λ yes. omega (arith, length-passing p xs)) (λ no. omega (arith, length-passing p xs))

length-numbers : (n : ℕ) → length (numbers_below n) ≡ n
unfolding numbers_below
length-numbers n = length-range_with_len 0 n

length-carried : (history : List Entry) (present : List ℕ)
    → length (carried history present) ≤ 65541
length-carried history present =
    omega (
      arith,
      length-append (carried_depth history) (carried_rules history),
      length-one meta.UndoDepth (depth_of history),
      length-kept (carried_rule history) (numbers_below 65536),
      length-numbers 65536,
    )
  where
    length-one : (f : ℕ → Meta) (o : Option ℕ) → length (option_to_list (option_map f o)) ≤ 1
    length-one f None = omega arith
    length-one f (Some x) = omega arith

rest-short : (joins rights drawn kept : List Entry) → length joins ≤ 254 → length rights ≤ 65541
    → length drawn ≤ part_limit
    → length (joins ++ rights ++ drawn ++ kept) < opening_limit + length kept
rest-short joins rights drawn kept hj hr hd =
    omega (
      arith,
      length-append (joins ++ rights ++ drawn) kept,
      length-append (joins ++ rights) drawn,
      length-append joins rights,
    )

pub opening-short : (epoch : ℕ) (history : List Entry) (present : List ℕ) (commands : List Draw)
    (kept : List Entry) → length present ≤ 254 → length commands ≤ part_limit
    → length (opening epoch history present commands kept) ≤ opening_limit + length kept
opening-short epoch history present commands kept few parts =
    let rest : length (carried_entries history present commands kept)
    < opening_limit + length kept =
    rest-short (filter_map (last_join history) present) (map server_entry (carried history present))
    (map command_entry commands) kept
    (omega (arith, length-kept (last_join history) present))
    (omega (
      arith,
      length-map (carried history present) server_entry,
      length-carried history present,
    ))
    (omega (arith, length-map commands command_entry)) in
    omega arith

length-ids : length user_ids ≡ 254
unfolding user_ids
length-ids = length-range_with_len 1 254

pub present-few : (s : State) → length (present_users s) ≤ 254
present-few s = omega (arith, length-passing (is_present s) user_ids, length-ids)

-- ---- present users

rise-lower : (low : ℕ) (ids : List ℕ) → RiseFrom (low + 1) ids → RiseFrom low ids
rise-lower low [] rise = tt
rise-lower low (id ∷ ids) rise = (omega (arith, rise.0), rise.1, rise.2)

rise-range : (p : ℕ → Bool) (n low : ℕ) → low + n ≤ 255
    → RiseFrom low (filter p (range_with_len low n))
rise-range p zero low all = tt
rise-range p (suc n) low all =
    let rest = filter p (range_with_len (low + 1) n) in
    let rise : RiseFrom (low + 1) rest = rise-range p n (low + 1) (omega arith) in
    cond_both (p low) (low ∷ rest) rest (RiseFrom low)
    (λ yes. (omega arith, omega arith, rise)) (λ no. rise-lower low rest rise)

pub present-rise : (s : State) → RiseFrom 1 (present_users s)
unfolding user_ids
present-rise s = rise-range (is_present s) 254 1 (omega arith)

-- ---- marks, and what goes on

-- how many of the entries go on
abbrev pub going : List Entry → ℕ
going entries = length (filter (λ entry. goes_over entry.msg) entries)

pub going-append : (xs ys : List Entry) → going (xs ++ ys) ≡ going xs + going ys
going-append xs ys =
    ap length (filter-append (λ (entry : Entry). goes_over entry.msg) xs ys)
    ∙ length-append (filter (λ entry. goes_over entry.msg) xs)
    (filter (λ entry. goes_over entry.msg) ys)

pub going-few : (entries : List Entry) → going entries ≤ length entries
going-few entries = length-passing (λ (entry : Entry). goes_over entry.msg) entries

pub going-commands : (commands : List Draw) → going (map command_entry commands) ≤ length commands
going-commands commands =
    omega (arith, going-few (map command_entry commands), length-map commands command_entry)

going-dropped : (n : ℕ) (entries : List Entry) → going (drop n entries) ≤ going entries
going-dropped zero entries = omega arith
going-dropped (suc n) [] = omega arith
going-dropped (suc n) (e ∷ es) =
    let rest = filter (λ entry. goes_over entry.msg) es in
    cond_both (goes_over e.msg) (e ∷ rest) rest (λ (xs : List Entry). going (drop n es) ≤ length xs)
    (λ yes. omega (arith, going-dropped n es)) (λ no. going-dropped n es)

-- a reset keeps at most the entries that go on
pub kept-few : (stream : Option Stream) (history : List Entry)
    → length (kept_by stream history) ≤ going history
kept-few None history = omega arith
kept-few (Some stream) history = from stream.place
  where
    from : (place : Option ℕ) → length (kept_entries place history) ≤ going history
    from None = omega arith
    from (Some place) = going-dropped place history

-- what a reset keeps goes on
pub kept-go : (stream : Option Stream) (history : List Entry) → GoOver (kept_by stream history)
kept-go None history = tt
kept-go (Some stream) history = kept-goes stream.place history

going-unmarked : (m : Msg) → goes_over m ≡ true → marked m ≡ None
going-unmarked (msg.Meta (meta.ResetMark epoch carried)) goes = cc
going-unmarked m goes = refl

-- no mark is among entries that go on
pub go-unmarked : (entries : List Entry) → GoOver entries → HasNoMark entries
go-unmarked [] go = tt
go-unmarked (e ∷ es) go = (going-unmarked e.msg go.0, go-unmarked es go.1)

-- the entry is no mark, and doesn't go on
abbrev IsBare : Entry → Type 0
IsBare entry = (marked entry.msg ≡ None) × (goes_over entry.msg ≡ false)

abbrev AreBare : List Entry → Type 0
AreBare entries = AllByRecursion IsBare entries

bare-append : (xs ys : List Entry) → AreBare xs → AreBare ys → AreBare (xs ++ ys)
bare-append [] ys hx hy = hy
bare-append (x ∷ xs) ys hx hy = (hx.0, bare-append xs ys hx.1 hy)

bare-unmarked : (entries : List Entry) → AreBare entries → HasNoMark entries
bare-unmarked [] bare = tt
bare-unmarked (e ∷ es) bare = (bare.0.0, bare-unmarked es bare.1)

bare-going : (entries : List Entry) → AreBare entries → going entries ≡ 0
bare-going [] bare = refl
bare-going (e ∷ es) bare =
    let rest = filter (λ entry. goes_over entry.msg) es in
    ap length (cond-false (goes_over e.msg) (e ∷ rest) rest bare.0.1) ∙ bare-going es bare.1

pub unmarked-append : (xs ys : List Entry) → HasNoMark xs → HasNoMark ys → HasNoMark (xs ++ ys)
unmarked-append [] ys hx hy = hy
unmarked-append (x ∷ xs) ys hx hy = (hx.0, unmarked-append xs ys hx.1 hy)

found-first : {X : Type 0} (p : X → Bool) (y : X) (ys : List X) (x : X) → p y ≡ true
    → ((i : ℕ) → slice_get ys i ≡ Some x → p x ≡ true)
    → (i : ℕ) → slice_get (y ∷ ys) i ≡ Some x → p x ≡ true
found-first p y ys x passes more zero is =
    let same : y ≡ x = cc in
    subst (λ z. p z ≡ true) same passes
found-first p y ys x passes more (suc i) is = more i is

-- what passes a test and was found has passed it
found-passes : {X : Type 0} (p : X → Bool) (xs : List X) (x : X) (i : ℕ)
    → slice_get (filter p xs) i ≡ Some x → p x ≡ true
found-passes p [] x i h = cc
found-passes {X} p (y ∷ ys) x i h =
    ⊎_elim (λ (yes : p y ≡ true).
    found-first p y (filter p ys) x yes (found-passes p ys x) i
    (subst (λ b. slice_get (cond b (y ∷ filter p ys) (filter p ys)) i ≡ Some x) yes h))
    (λ (no : p y ≡ false).
    found-passes p ys x i
    (subst (λ b. slice_get (cond b (y ∷ filter p ys) (filter p ys)) i ≡ Some x) no h))
    (cases_Bool (p y))

pub last-joined : (history : List Entry) (user : ℕ) (e : Entry) → last_join history user ≡ Some e
    → is_join_of user e ≡ true
last-joined history user e is =
    found-passes (is_join_of user) history e (length (filter (is_join_of user) history) - 1) is

joined-bare : (m : Msg) → is_some (joined m) ≡ true → (marked m ≡ None) × (goes_over m ≡ false)
joined-bare (msg.Meta (meta.Join registered name)) some = (refl, refl)
joined-bare m some = absurd (false≢true some)

join-bare : (history : List Entry) (user : ℕ) (o : Option Entry) (rest : List Entry)
    → last_join history user ≡ o → AreBare rest → AreBare (cons_option o rest)
join-bare history user None rest is clean = clean
join-bare history user (Some e) rest is clean = (
  joined-bare e.msg
      (and_parts (is_some (joined e.msg)) (e.user == user) (last-joined history user e is)).0,
  clean,
)

joins-bare : (history : List Entry) (users : List ℕ)
    → AreBare (filter_map (last_join history) users)
joins-bare history [] = tt
joins-bare history (user ∷ users) =
    join-bare history user (last_join history user) (filter_map (last_join history) users) refl
    (joins-bare history users)

rule-bare : (layer : ℕ) (o : Option LayerRule) (rest : List Meta)
    → AreBare (map server_entry rest)
    → AreBare (map server_entry (cons_option (option_map (acl_with layer) o) rest))
rule-bare layer None rest clean = clean
rule-bare layer (Some rule) rest clean = ((refl, refl), clean)

rules-bare : (history : List Entry) (layers : List ℕ)
    → AreBare (map server_entry (filter_map (carried_rule history) layers))
rules-bare history [] = tt
rules-bare history (layer ∷ layers) =
    rule-bare layer (rule_of history layer) (filter_map (carried_rule history) layers)
    (rules-bare history layers)

commands-unmarked : (commands : List Draw) → HasNoMark (map command_entry commands)
commands-unmarked [] = tt
commands-unmarked (command ∷ commands) = (refl, commands-unmarked commands)

depth-bare : (o : Option ℕ) (rest : List Meta) → AreBare (map server_entry rest)
    → AreBare (map server_entry (option_to_list (option_map meta.UndoDepth o) ++ rest))
depth-bare None rest clean = clean
depth-bare (Some depth) rest clean = ((refl, refl), clean)

-- the Joins and the rights with which an epoch opens
carried-bare : (history : List Entry) (present : List ℕ)
    → AreBare (filter_map (last_join history) present
    ++ map server_entry (carried history present))
carried-bare history present =
    bare-append (filter_map (last_join history) present)
    (map server_entry (carried history present)) (joins-bare history present) (
      (refl, refl),
      (
        (refl, refl),
        (
          (refl, refl),
          (
            (refl, refl),
            depth-bare (depth_of history) (carried_rules history)
                (rules-bare history (numbers_below 65536)),
          ),
        ),
      ),
    )

pub opening-marked : (epoch : ℕ) (history : List Entry) (present : List ℕ) (commands : List Draw)
    (kept : List Entry) → HasNoMark kept
    → IsHistory epoch (opening epoch history present commands kept)
opening-marked epoch history present commands kept clean =
    let rights = filter_map (last_join history) present
    ++ map server_entry (carried history present) in (
      refl,
      unmarked-append (rights ++ map command_entry commands) kept
          (unmarked-append rights (map command_entry commands)
          (bare-unmarked rights (carried-bare history present)) (commands-unmarked commands))
          clean,
    )

-- few entries of an opening go on: its commands, and of those that it keeps
pub opening-going : (epoch : ℕ) (history : List Entry) (present : List ℕ) (commands : List Draw)
    (kept : List Entry)
    → going (opening epoch history present commands kept) ≤ length commands + length kept
opening-going epoch history present commands kept =
    let rights = filter_map (last_join history) present
    ++ map server_entry (carried history present) in
    let rest : going (opening epoch history present commands kept)
    ≡ going (rights ++ map command_entry commands ++ kept) = refl in
    omega (
      arith,
      rest,
      going-append (rights ++ map command_entry commands) kept,
      going-append rights (map command_entry commands),
      bare-going rights (carried-bare history present),
      going-commands commands,
      going-few kept,
    )

-- ---- Joins

-- ids that rise from a number are at least that
listed-above : (low user : ℕ) (ids : List ℕ) → RiseFrom low ids → lists ids user ≡ true → low ≤ user
listed-above low user [] rise is = cc
listed-above low user (id ∷ ids) rise is =
    ⊎_elim (λ (same : id ≡ user). omega (arith, rise.0, same))
    (λ (other : id ≡ user → ⊥).
    let there : lists ids user ≡ true =
    sym (ap (λ b. b || lists ids user) (ne_eqb id user other)) ∙ is in
    omega (arith, rise.0, listed-above (id + 1) user ids rise.2 there))
    (cases_eq id user)

module _ (history : List Entry) (user : ℕ) where
  abbrev mine : List Entry → List Entry
  mine = filter (is_join_of user)

  -- another user's Join is none of the user's
  other-join : (other : ℕ) (e : Entry) → (other ≡ user → ⊥) → is_join_of other e ≡ true
      → is_join_of user e ≡ false
  other-join other e differ is =
      let whose : e.user ≡ other =
      eqb-true e.user other (and_parts (is_some (joined e.msg)) (e.user == other) is).1 in
      ap (λ b. is_some (joined e.msg) && b)
      (ne_eqb e.user user (λ same. differ (sym whose ∙ same)))
      ∙ and-false (is_some (joined e.msg))

  -- Joins before which none is the user's
  join-other : (other : ℕ) (o : Option Entry) (rest : List Entry) → (other ≡ user → ⊥)
      → last_join history other ≡ o → mine (cons_option o rest) ≡ mine rest
  join-other other None rest differ is = refl
  join-other other (Some e) rest differ is =
      cond-false (is_join_of user e) (e ∷ mine rest) (mine rest)
      (other-join other e differ (last-joined history other e is))

  join-own : (o : Option Entry) (rest : List Entry) → last_join history user ≡ o
      → mine rest ≡ [] → mine (cons_option o rest) ≡ option_to_list o
  join-own None rest is none = none
  join-own (Some e) rest is none =
      cond-true (is_join_of user e) (e ∷ mine rest) (mine rest) (last-joined history user e is)
      ∙ ap (λ es. e ∷ es) none

  joins-below : (low : ℕ) (users : List ℕ) → RiseFrom low users → user < low
      → mine (filter_map (last_join history) users) ≡ []
  joins-below low [] rise below = refl
  joins-below low (other ∷ users) rise below =
      join-other other (last_join history other) (filter_map (last_join history) users)
      (λ same. omega (arith, rise.0, same)) refl
      ∙ joins-below (other + 1) users rise.2 (omega (arith, rise.0))

  joins-found : (low : ℕ) (users : List ℕ) → RiseFrom low users → lists users user ≡ true
      → mine (filter_map (last_join history) users) ≡ option_to_list (last_join history user)
  joins-found low [] rise is = cc
  joins-found low (other ∷ users) rise is =
      let rest = filter_map (last_join history) users in
      ⊎_elim (λ (same : other ≡ user).
      ap (λ k. mine (cons_option (last_join history k) rest)) same
      ∙ join-own (last_join history user) rest refl
      (joins-below (other + 1) users rise.2 (omega (arith, same))))
      (λ (differ : other ≡ user → ⊥).
      let there : lists users user ≡ true =
      sym (ap (λ b. b || lists users user) (ne_eqb other user differ)) ∙ is in
      join-other other (last_join history other) rest differ refl
      ∙ joins-found (other + 1) users rise.2 there)
      (cases_eq other user)

  server-none : 0 < user → (ms : List Meta) → mine (map server_entry ms) ≡ []
  server-none above [] = refl
  server-none above (m ∷ ms) =
      cond-false (is_join_of user (server_entry m)) (server_entry m ∷ mine (map server_entry ms))
      (mine (map server_entry ms))
      (ap (λ b. is_some (joined (msg.Meta m)) && b) (ne_eqb 0 user (λ same. omega arith))
      ∙ and-false (is_some (joined (msg.Meta m))))
      ∙ server-none above ms

  commands-none : (commands : List Draw) → mine (map command_entry commands) ≡ []
  commands-none [] = refl
  commands-none (command ∷ commands) = commands-none commands

  last-of : (o : Option Entry)
      → slice_get (option_to_list o) (length (option_to_list o) - 1) ≡ o
  last-of None = refl
  last-of (Some e) = refl

  -- after a mark
  opened : (mark : Entry) (rest : List Entry) → is_join_of user mark ≡ false
      → mine rest ≡ option_to_list (last_join history user)
      → last_join (mark ∷ rest) user ≡ last_join history user
  opened mark rest other all =
      let first : mine (mark ∷ rest) ≡ option_to_list (last_join history user) =
      cond-false (is_join_of user mark) (mark ∷ mine rest) (mine rest) other ∙ all in
      ap (λ es. slice_get es (length es - 1)) first ∙ last-of (last_join history user)

  pub opening-joins : (epoch : ℕ) (present : List ℕ) (commands : List Draw) (kept : List Entry)
      → RiseFrom 1 present → lists present user ≡ true → mine kept ≡ []
      → last_join (opening epoch history present commands kept) user ≡ last_join history user
  opening-joins epoch present commands kept rise is none =
      let joins = filter_map (last_join history) present in
      let rights = map server_entry (carried history present) in
      let drawn = map command_entry commands in
      let above : 0 < user = omega (arith, listed-above 1 user present rise is) in
      let all : mine (joins ++ rights ++ drawn ++ kept) ≡ option_to_list (last_join history user) =
      filter-append (is_join_of user) (joins ++ rights ++ drawn) kept
      ∙ ap (λ es. mine (joins ++ rights ++ drawn) ++ es) none
      ∙ append-nil (mine (joins ++ rights ++ drawn))
      ∙ filter-append (is_join_of user) (joins ++ rights) drawn
      ∙ ap (λ es. mine (joins ++ rights) ++ es) (commands-none commands)
      ∙ append-nil (mine (joins ++ rights))
      ∙ filter-append (is_join_of user) joins rights
      ∙ ap (λ es. mine joins ++ es) (server-none above (carried history present))
      ∙ append-nil (mine joins)
      ∙ joins-found 1 present rise is in
      opened (server_entry (meta.ResetMark epoch
      (length (carried_entries history present commands kept))))
      (carried_entries history present commands kept) refl all
