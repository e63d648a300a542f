-- What looking back finds after many entries: Joins, rules and commands.
use Rattle.std.proofs.Common.{◌≡◌, ℕ, ◌<◌, ◌==◌, ◌||◌, Bool, true, false, if◌then◌else◌, List, []}
use Rattle.std.proofs.Common.{◌∷◌, ◌++◌, map, Option, Some, None, is_some, unwrap_or, refl, sym, ap}
use Rattle.std.proofs.Common.{subst, ◌∙◌, inl, inr, append_assoc, append-nil}
use Rattle.std.specs.Prelude.{option_to_list}
use Rattle.std.specs.List.{filter, filter_map, cons_option}
use Rattle.std.specs.Option.{option_map, option_or}
use Rattle.std.proofs.lemmas.Bool.{cases_eq, cond-true, cond-false, eq-eqb, ne_eqb, eqb-true}
use Rattle.std.proofs.lemmas.Bool.{and_parts, false≢true}
use Rattle.std.proofs.lemmas.List.Elements.{filter-append}
use Rattle.dp_msg_draw.specs.declared.draw.Draw.{Draw}
use Rattle.dp_msg_meta.specs.declared.message.Meta.{Meta}
use Rattle.dp_msg_meta.specs.declared.message.Meta.TheVariants.{Chat, Join, UndoDepth}
use Rattle.dp_messages.specs.declared.message.Msg.{Msg}
use Rattle.dp_messages.specs.declared.message.Msg.TheVariants as msg
use Rattle.dp_messages.specs.declared.message.Entry.{Entry}
use Rattle.dp_acl.specs.LookBack.{numbers_below, lists, joined, is_join_of, has_joined, LayerRule}
use Rattle.dp_acl.specs.Rights.{is_registered, rule_of, first_tiers}
use Rattle.dp_acl.specs.Carried.{acl_with, carried_rule, carried_rules}
use Rattle.dp_acl.specs.Table.{rule_in_order}
use Rattle.dp_acl.specs.Opening.{server_entry, command_entry, last_join, goes_over, GoOver}
use Rattle.dp_acl.proofs.ListLemmas.{lists-numbers}
use Rattle.dp_acl.proofs.PushLemmas.{last_item, last_item-more, joined-push, registered-push}
use Rattle.dp_acl.proofs.LawLemmas.{Look, look, look_after, look-push}

same-branches : {X : Type 0} (b : Bool) (x : X) → (if b then x else x) ≡ x
same-branches true x = refl
same-branches false x = refl

-- ---- one entry after another

-- what looking back finds after all of some entries
abbrev pub look_all : ℕ → ℕ → List Entry → Look → Look
look_all user layer [] l = l
look_all user layer (e ∷ es) l = look_all user layer es (look_after user layer e l)

module _ (user layer : ℕ) where
  pub look-all : (es history : List Entry)
      → look (history ++ es) user layer ≡ look_all user layer es (look history user layer)
  look-all [] history = ap (λ es. look es user layer) (append-nil history)
  look-all (e ∷ es) history =
      ap (λ xs. look xs user layer) (sym (append_assoc history (e ∷ []) es))
      ∙ look-all es (history ++ e ∷ [])
      ∙ ap (look_all user layer es) (look-push history e user layer)

  pub all-append : (xs ys : List Entry) (l : Look)
      → look_all user layer (xs ++ ys) l ≡ look_all user layer ys (look_all user layer xs l)
  all-append [] ys l = refl
  all-append (x ∷ xs) ys l = all-append xs ys (look_after user layer x l)

  all-option : (o : Option Entry) (es : List Entry) (l : Look)
      → look_all user layer (cons_option o es) l
      ≡ look_all user layer es (look_all user layer (cons_option o []) l)
  all-option None es l = refl
  all-option (Some e) es l = refl

  -- commands change nothing
  pub all-commands : (commands : List Draw) (l : Look)
      → look_all user layer (map command_entry commands) l ≡ l
  all-commands [] l = refl
  all-commands (c ∷ cs) l = all-commands cs l

  -- an entry that goes on changes nothing
  one-kept : (id : ℕ) (m : Msg) (l : Look) → goes_over m ≡ true
      → look_after user layer (record { user = id; msg = m }) l ≡ l
  one-kept id (msg.Draw command) l goes = refl
  one-kept id msg.Point l goes = refl
  one-kept id (msg.Undo target redo) l goes = refl
  one-kept id (msg.Opaque kind body) l goes = refl
  one-kept id (msg.Meta (Chat text)) l goes = refl
  one-kept id m l goes = absurd (false≢true goes)

  -- nor do several
  pub all-kept : (kept : List Entry) (l : Look) → GoOver kept → look_all user layer kept l ≡ l
  all-kept [] l go = refl
  all-kept (e ∷ es) l go =
      ap (look_all user layer es) (one-kept e.user e.msg l go.0) ∙ all-kept es l go.1

-- Entries that are made of keys, one or none of each. Only that of one key changes what is found,
-- and twice changes it as once.
module _ (user layer key : ℕ) (entry : ℕ → Option Entry) (change : ℕ → Look → Look)
    (one : (k : ℕ) (l : Look) → look_all user layer (cons_option (entry k) []) l
    ≡ (if k == key then change k l else l))
    (twice : (l : Look) → change key (change key l) ≡ change key l)
  where
    again : (b : Bool) (l : Look)
        → (if b then change key (change key l) else change key l) ≡ change key l
    again true l = twice l
    again false l = refl

    pub all-keys : (keys : List ℕ) (l : Look)
        → look_all user layer (filter_map entry keys) l
        ≡ (if lists keys key then change key l else l)
    all-keys [] l = refl
    all-keys (k ∷ ks) l = elim (cases_eq k key) [
      | inl same ↦
          all-option user layer (entry k) (filter_map entry ks) l
          ∙ ap (look_all user layer (filter_map entry ks))
          (one k l ∙ cond-true (k == key) (change k l) l (eq-eqb k key same)
          ∙ ap (λ q. change q l) same)
          ∙ all-keys ks (change key l)
          ∙ again (lists ks key) l
          ∙ sym (ap (λ b. if b || lists ks key then change key l else l) (eq-eqb k key same))
      | inr differ ↦
          all-option user layer (entry k) (filter_map entry ks) l
          ∙ ap (look_all user layer (filter_map entry ks))
          (one k l ∙ cond-false (k == key) (change k l) l (ne_eqb k key differ))
          ∙ all-keys ks l
          ∙ sym (ap (λ b. if b || lists ks key then change key l else l) (ne_eqb k key differ))
    ]

-- ---- the last Join of a user

-- a fact that stays true with one more entry
grow : (P : List Entry → Type 0) → ((history : List Entry) (e : Entry) → P history
    → P (history ++ e ∷ [])) → (es history : List Entry) → P history → P (history ++ es)
grow P step [] history known = subst P (sym (append-nil history)) known
grow P step (e ∷ es) history known =
    subst P (append_assoc history (e ∷ []) es)
    (grow P step es (history ++ e ∷ []) (step history e known))

abbrev join_entry : ℕ → Bool → List ℕ → Entry
join_entry id registered name = record { user = id; msg = msg.Meta (Join registered name) }

-- whether a user has joined, the user's last Join, and whether it says that the user is registered
data LastJoin (id : ℕ) : Bool → Option Entry → Bool → Type 0 where
  none : LastJoin id false None false
  some : (registered : Bool) (name : List ℕ)
      → LastJoin id true (Some (join_entry id registered name)) registered

join-msg : (m : Msg) → is_some (joined m) ≡ true
    → (registered : Bool) × (name : List ℕ) × (m ≡ msg.Meta (Join registered name))
join-msg (msg.Meta (Join registered name)) is = (registered, name, refl)
join-msg m is = absurd (false≢true is)

join-is : (user : ℕ) (e : Entry) → is_join_of user e ≡ true
    → (registered : Bool) × (name : List ℕ) × (e ≡ join_entry user registered name)
join-is user e is =
    let parts = and_parts (is_some (joined e.msg)) (e.user == user) is in
    let m = join-msg e.msg parts.0 in (
      m.0,
      m.1,
      ap (λ x. record { user = e.user; msg = x }) m.2
          ∙ ap (λ u. join_entry u m.0 m.1) (eqb-true e.user user parts.1),
    )

last_join-push : (history : List Entry) (e : Entry) (user : ℕ)
    → last_join (history ++ e ∷ []) user
    ≡ (if is_join_of user e then Some e else last_join history user)
last_join-push history e user =
    ap last_item (filter-append (is_join_of user) history (e ∷ [])) ∙ by_case (is_join_of user e)
  where
    by_case : (b : Bool)
        → last_item (filter (is_join_of user) history ++ (if b then e ∷ [] else []))
        ≡ (if b then Some e else last_join history user)
    by_case true = last_item-more (filter (is_join_of user) history) (Some e)
    by_case false = last_item-more (filter (is_join_of user) history) None

LastJoin-same : (id : ℕ) (joins joins' : Bool) (last last' : Option Entry)
    (registered registered' : Bool)
    → joins' ≡ joins → last' ≡ last → registered' ≡ registered
    → LastJoin id joins last registered → LastJoin id joins' last' registered'
LastJoin-same id joins joins' last last' registered registered' a b c known = rw (a, b, c) known

-- the user's last Join
abbrev LastJoinOf : ℕ → List Entry → Type 0
LastJoinOf id history =
    LastJoin id (has_joined history id) (last_join history id) (is_registered history id)

last_join-more : (id : ℕ) (history : List Entry) (e : Entry) → LastJoinOf id history
    → LastJoinOf id (history ++ e ∷ [])
last_join-more id history e known = by_case (is_join_of id e) refl
  where
    by_case : (b : Bool) → is_join_of id e ≡ b → LastJoinOf id (history ++ e ∷ [])
    by_case true is =
        let j = join-is id e is in
        LastJoin-same id true (has_joined (history ++ e ∷ []) id)
        (Some (join_entry id j.0 j.1)) (last_join (history ++ e ∷ []) id)
        j.0 (is_registered (history ++ e ∷ []) id)
        (joined-push history e id ∙ ap (λ b. b || has_joined history id) is)
        (last_join-push history e id
        ∙ cond-true (is_join_of id e) (Some e) (last_join history id) is
        ∙ ap (λ x. Some x) j.2)
        (registered-push history e id
        ∙ cond-true (is_join_of id e) (unwrap_or (joined e.msg) false) (is_registered history id) is
        ∙ ap (λ x. unwrap_or (joined x.msg) false) j.2)
        (some j.0 j.1)
    by_case false is =
        LastJoin-same id (has_joined history id) (has_joined (history ++ e ∷ []) id)
        (last_join history id) (last_join (history ++ e ∷ []) id)
        (is_registered history id) (is_registered (history ++ e ∷ []) id)
        (joined-push history e id ∙ ap (λ b. b || has_joined history id) is)
        (last_join-push history e id
        ∙ cond-false (is_join_of id e) (Some e) (last_join history id) is)
        (registered-push history e id
        ∙ cond-false (is_join_of id e) (unwrap_or (joined e.msg) false) (is_registered history id)
        is)
        known

last-join : (id : ℕ) (history : List Entry) → LastJoinOf id history
last-join id history = grow (LastJoinOf id) (last_join-more id) history [] none

-- ---- Joins

-- what is found after a Join of the user
abbrev joined_look : Bool → Look → Look
joined_look registered l = record l {
  joined = true;
  operator = false;
  trusted = false;
  registered = registered;
  lock_listed = false;
}

-- what is found after the last Join of a user, if there is one
abbrev last_look : Bool → Bool → Look → Look
last_look joins registered l = if joins then joined_look registered l else l

last_look-twice : (joins registered : Bool) (l : Look)
    → last_look joins registered (last_look joins registered l) ≡ last_look joins registered l
last_look-twice true registered l = refl
last_look-twice false registered l = refl

join-cases : (b registered : Bool) (l : Look)
    → record {
      joined = b || l.joined;
      operator = if b then false else l.operator;
      trusted = if b then false else l.trusted;
      registered = if b then registered else l.registered;
      all_locked = l.all_locked;
      lock_listed = if b then false else l.lock_listed;
      tiers = l.tiers;
      rule = l.rule;
    }
    ≡ (if b then joined_look registered l else l)
join-cases true registered l = refl
join-cases false registered l = refl

join-one : (user layer id : ℕ) (joins : Bool) (last : Option Entry) (registered : Bool) (l : Look)
    → LastJoin id joins last registered
    → look_all user layer (cons_option last []) l
    ≡ (if id == user then last_look joins registered l else l)
join-one user layer id joins last registered l none = sym (same-branches (id == user) l)
join-one user layer id joins last registered l (some r name) = join-cases (id == user) r l

-- what is found if no entry stands
abbrev pub at_start : Look
at_start = record {
  joined = false;
  operator = false;
  trusted = false;
  registered = false;
  all_locked = false;
  lock_listed = false;
  tiers = first_tiers;
  rule = None;
}

join-first : (id : ℕ) (joins : Bool) (last : Option Entry) (registered : Bool)
    → LastJoin id joins last registered
    → last_look joins registered at_start
    ≡ record at_start { joined = joins; registered = registered }
join-first id joins last registered none = refl
join-first id joins last registered (some r name) = refl

-- what is found of a user who is present after the last Joins of those who are
pub all-joins : (user layer : ℕ) (history : List Entry) (present : List ℕ)
    → lists present user ≡ true
    → look_all user layer (filter_map (last_join history) present) at_start
    ≡ record at_start {
      joined = has_joined history user;
      registered = is_registered history user;
    }
all-joins user layer history present listed =
    all-keys user layer user (last_join history)
    (λ id. last_look (has_joined history id) (is_registered history id))
    (λ id l. join-one user layer id (has_joined history id) (last_join history id)
    (is_registered history id) l (last-join id history))
    (last_look-twice (has_joined history user) (is_registered history user))
    present at_start
    ∙ cond-true (lists present user)
    (last_look (has_joined history user) (is_registered history user) at_start) at_start listed
    ∙ join-first user (has_joined history user) (last_join history user)
    (is_registered history user) (last-join user history)

-- ---- rules

cons-map : {X Y : Type 0} (g : X → Y) (o : Option X) (xs : List X)
    → map g (cons_option o xs) ≡ cons_option (option_map g o) (map g xs)
cons-map g None xs = refl
cons-map g (Some x) xs = refl

map-filter_map : {X Y Z : Type 0} (g : Y → Z) (f : X → Option Y) (xs : List X)
    → map g (filter_map f xs) ≡ filter_map (λ x. option_map g (f x)) xs
map-filter_map g f [] = refl
map-filter_map g f (x ∷ xs) =
    cons-map g (f x) (filter_map f xs)
    ∙ ap (cons_option (option_map g (f x))) (map-filter_map g f xs)

-- after the depth that is carried
pub all-depth : (user layer : ℕ) (o : Option ℕ) (metas : List Meta) (l : Look)
    → look_all user layer (map server_entry (option_to_list (option_map UndoDepth o) ++ metas)) l
    ≡ look_all user layer (map server_entry metas) l
all-depth user layer None metas l = refl
all-depth user layer (Some depth) metas l = refl

-- what is found after the LayerAcl of a rule, if there is one
abbrev pub ruled : Option LayerRule → Look → Look
ruled o l = record l { rule = option_or (option_map rule_in_order o) l.rule }

ruled-twice : (o : Option LayerRule) (l : Look) → ruled o (ruled o l) ≡ ruled o l
ruled-twice None l = refl
ruled-twice (Some rule) l = refl

rule-cases : (b : Bool) (rule : LayerRule) (l : Look)
    → record l { rule = option_or (if b then Some rule else None) l.rule }
    ≡ (if b then record l { rule = Some rule } else l)
rule-cases true rule l = refl
rule-cases false rule l = refl

rule-one : (user layer k : ℕ) (o : Option LayerRule) (l : Look)
    → look_all user layer (cons_option (option_map server_entry (option_map (acl_with k) o)) []) l
    ≡ (if k == layer then ruled o l else l)
rule-one user layer k None l = sym (same-branches (k == layer) l)
rule-one user layer k (Some rule) l = rule-cases (k == layer) (rule_in_order rule) l

-- after the rules that are carried
pub all-rules : (user layer : ℕ) (history : List Entry) (l : Look) → layer < 65536
    → look_all user layer (map server_entry (carried_rules history)) l
    ≡ ruled (rule_of history layer) l
all-rules user layer history l small =
    ap (λ es. look_all user layer es l)
    (map-filter_map server_entry (carried_rule history) (numbers_below 65536))
    ∙ all-keys user layer layer (λ k. option_map server_entry (carried_rule history k))
    (λ k. ruled (rule_of history k))
    (λ k l. rule-one user layer k (rule_of history k) l)
    (ruled-twice (rule_of history layer))
    (numbers_below 65536) l
    ∙ cond-true (lists (numbers_below 65536) layer) (ruled (rule_of history layer) l) l
    (lists-numbers 65536 layer small)
