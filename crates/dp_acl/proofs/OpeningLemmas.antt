-- The laws of openings: commands change no right, and nor does what an epoch opens with.
use Rattle.std.proofs.Common.{◌≡◌, ℕ, ◌+◌, ◌<◌, ◌==◌, ◌&&◌, ◌||◌, Bool, true, false, if◌then◌else◌}
use Rattle.std.proofs.Common.{List, [], ◌∷◌, ◌++◌, map, Option, Some, None, IfSome, All, refl, sym}
use Rattle.std.proofs.Common.{ap, subst, ◌∙◌, inl, inr, arith, append_assoc, append-nil, rules}
use Rattle.std.specs.List.{filter, filter_map, after_last}
use Rattle.std.specs.Option.{option_map, option_map_or, option_or}
use Rattle.std.proofs.lemmas.Bool.{cases_eq, ne_eqb, eqb-true, false≢true}
use Rattle.std.proofs.Math.Bool.{and-false, and-true, or-false}
use Rattle.std.proofs.lemmas.List.Folds.{list_any-append}
use Rattle.std.proofs.lemmas.Map.Views.{any-filter_same}
use Rattle.dp_msg_draw.specs.declared.draw.Draw.{Draw}
use Rattle.dp_msg_draw.specs.declared.draw.Draw.TheVariants as draw
use Rattle.dp_msg_draw.specs.Payloads.{DrawHasSpelling}
use Rattle.dp_msg_meta.specs.Fields.{RiseFrom}
use Rattle.dp_msg_meta.specs.declared.message.Meta.TheVariants as meta
use Rattle.dp_messages.specs.declared.message.Msg.{Msg}
use Rattle.dp_messages.specs.declared.message.Msg.TheVariants as msg
use Rattle.dp_messages.specs.declared.message.Entry.{Entry}
use Rattle.dp_messages.specs.Messages.{HasSpelling}
use Rattle.dp_acl.specs.LookBack as said
use Rattle.dp_acl.specs.LookBack.{lists, is_join_of, has_joined, last_said, LayerRule}
use Rattle.dp_acl.specs.Rights.{is_listed, is_operator, is_trusted, is_registered, are_all_locked}
use Rattle.dp_acl.specs.Rights.{is_lock_listed, tiers_of, depth_of, rule_of, lets_paint}
use Rattle.dp_acl.specs.Carried.{carried, carried_rules, lock_of_all}
use Rattle.dp_acl.specs.Step.{IsKeptAfter}
use Rattle.dp_acl.specs.Table.{Kept, StandsFor, rule_in_order}
use Rattle.dp_acl.specs.Opening.{server_entry, command_entry, last_join, goes_over, GoOver, opening}
use Rattle.dp_acl.specs.Laws.{CommandsChangeNoRight, KeptChangeNoRight, OpeningsChangeNoRight}
use Rattle.dp_acl.proofs.StepLemmas.{stands-push, kept-other}
use Rattle.dp_acl.proofs.PaintLemmas.{lets-in_order}
use Rattle.dp_acl.proofs.LawLemmas.{Look, look, but_rule, LetAlike, painted_by, painted_layer}
use Rattle.dp_acl.proofs.LawLemmas.{permitted-same, lists-below}
use Rattle.dp_acl.proofs.LookLemmas.{look_all, look-all, all-append, all-commands, all-kept}
use Rattle.dp_acl.proofs.LookLemmas.{all-joins, at_start, all-depth, ruled, all-rules}

-- ---- commands

pub commands-change-nothing : CommandsChangeNoRight
commands-change-nothing kept history [] stands =
    subst (StandsFor kept) (sym (append-nil history)) stands
commands-change-nothing kept history (c ∷ cs) stands =
    subst (StandsFor kept) (append_assoc history (command_entry c ∷ []) (map command_entry cs))
    (commands-change-nothing kept (history ++ command_entry c ∷ []) cs
    (stands-push kept kept history (command_entry c)
    (kept-other kept 0 (msg.Draw c) (λ meta same. cc same)) stands))

-- ---- entries that go on

-- a chat leaves what is kept
kept-chat : (table : Kept) (user : ℕ) (text : List ℕ)
    → IsKeptAfter table (record { user = user; msg = msg.Meta (meta.Chat text) }) table
kept-chat table user text = search rules

kept-going : (table : Kept) (user : ℕ) (m : Msg) → goes_over m ≡ true
    → IsKeptAfter table (record { user = user; msg = m }) table
kept-going table user (msg.Meta (meta.Chat text)) goes = kept-chat table user text
kept-going table user (msg.Meta m) goes = cc
kept-going table user m goes = kept-other table user m (λ other same. cc (ap goes_over same))

pub kept-change-nothing : KeptChangeNoRight
kept-change-nothing table history [] go stands =
    subst (StandsFor table) (sym (append-nil history)) stands
kept-change-nothing table history (e ∷ es) go stands =
    subst (StandsFor table) (append_assoc history (e ∷ []) es)
    (kept-change-nothing table (history ++ e ∷ []) es go.1
    (stands-push table table history e (kept-going table e.user e.msg go.0) stands))

-- ---- users who are present

-- an id that some ids list, which rise, is an id of a user
listed-low : (low id : ℕ) (ids : List ℕ) → RiseFrom low ids → lists ids id ≡ true → id < 256
listed-low low id [] rise listed = absurd (false≢true listed)
listed-low low id (i ∷ ids) rise listed = elim (cases_eq i id) [
  | inl same ↦ omega (arith, rise.1)
  | inr differ ↦ listed-low (i + 1) id ids rise.2
      (sym (ap (λ b. b || lists ids id) (ne_eqb i id differ)) ∙ listed)
]

-- a listed id is among those that pass a test exactly if it passes
filter-listed : (p : ℕ → Bool) (ids : List ℕ) (id : ℕ) → lists ids id ≡ true
    → lists (filter p ids) id ≡ p id
filter-listed p ids id listed =
    any-filter_same (λ other. other == id) p (p id) (λ k same. ap p (eqb-true k id same)) ids
    ∙ ap (λ b. p id && b) listed
    ∙ and-true (p id)

-- an id that isn't listed is not among them
filter-absent : (p : ℕ → Bool) (ids : List ℕ) (id : ℕ) → lists ids id ≡ false
    → lists (filter p ids) id ≡ false
filter-absent p ids id absent =
    any-filter_same (λ other. other == id) p (p id) (λ k same. ap p (eqb-true k id same)) ids
    ∙ ap (λ b. p id && b) absent
    ∙ and-false (p id)

-- who hasn't joined isn't listed
listed-joined : (ids : Msg → Option (List ℕ)) (history : List Entry) (user : ℕ)
    → (has_joined history user && is_listed ids history user) ≡ is_listed ids history user
listed-joined ids history user = by_case (has_joined history user)
  where
    by_case : (b : Bool)
        → (b && option_map_or (λ listed. lists listed user)
        (last_said ids (if b then after_last (is_join_of user) history else [])) false)
        ≡ option_map_or (λ listed. lists listed user)
        (last_said ids (if b then after_last (is_join_of user) history else [])) false
    by_case true = refl
    by_case false = refl

-- ---- locks

lock-zero : (b : Bool) → lists (if b then 0 ∷ [] else []) 0 ≡ b
lock-zero true = refl
lock-zero false = refl

lock-other : (b : Bool) (user : ℕ) → (0 == user) ≡ false
    → lists (if b then 0 ∷ [] else []) user ≡ false
lock-other true user other = ap (λ b. b || false) other
lock-other false user other = refl

module _ (history : List Entry) (present : List ℕ) (user : ℕ) (rise : RiseFrom 1 present)
    (listed : lists present user ≡ true) where
  -- the ids of the UserAcl that is carried
  abbrev Locks : List ℕ
  Locks = lock_of_all history ++ filter (is_lock_listed history) present

  locks-all : lists Locks 0 ≡ are_all_locked history
  locks-all =
      list_any-append (λ other. other == 0) (lock_of_all history)
      (filter (is_lock_listed history) present)
      ∙ ap (λ b. lists (lock_of_all history) 0 || b)
      (filter-absent (is_lock_listed history) present 0
      (lists-below 1 0 present rise (omega arith)))
      ∙ or-false (lists (lock_of_all history) 0)
      ∙ lock-zero (are_all_locked history)

  not-zero : 0 ≡ user → ⊥
  not-zero same =
      false≢true (sym (lists-below 1 0 present rise (omega arith)) ∙ ap (lists present) same
      ∙ listed)

  locks-user : lists Locks user ≡ is_lock_listed history user
  locks-user =
      list_any-append (λ other. other == user) (lock_of_all history)
      (filter (is_lock_listed history) present)
      ∙ ap (λ b. b || lists (filter (is_lock_listed history) present) user)
      (lock-other (are_all_locked history) user (ne_eqb 0 user not-zero))
      ∙ filter-listed (is_lock_listed history) present user listed

  among-joined : (ids : Msg → Option (List ℕ)) (some : List ℕ)
      → lists some user ≡ is_listed ids history user
      → (has_joined history user && lists some user) ≡ is_listed ids history user
  among-joined ids some same =
      ap (λ b. has_joined history user && b) same ∙ listed-joined ids history user

  -- ---- the opening

  -- what is found of the user after the entries of rights
  abbrev after_rights : Look
  after_rights = record {
    joined = has_joined history user;
    operator = has_joined history user && lists (filter (is_operator history) present) user;
    trusted = has_joined history user && lists (filter (is_trusted history) present) user;
    registered = is_registered history user;
    all_locked = lists Locks 0;
    lock_listed = has_joined history user && lists Locks user;
    tiers = tiers_of history;
    rule = None;
  }

  option_or-none : (o : Option LayerRule) → option_or o None ≡ o
  option_or-none None = refl
  option_or-none (Some rule) = refl

  rights-same : (layer : ℕ) → ruled (rule_of history layer) after_rights
      ≡ record (look history user layer) {
        rule = option_map rule_in_order (rule_of history layer);
      }
  rights-same layer =
      cc (
        among-joined said.owners (filter (is_operator history) present)
            (filter-listed (is_operator history) present user listed),
        among-joined said.trusted (filter (is_trusted history) present)
            (filter-listed (is_trusted history) present user listed),
        locks-all,
        among-joined said.locked_users Locks locks-user,
        option_or-none (option_map rule_in_order (rule_of history layer)),
      )

  -- What is found of the user after the opening is what was found before it. Only the ids of the
  -- layer's rule are put in order.
  look-opening : (epoch : ℕ) (commands : List Draw) (kept : List Entry) (layer : ℕ) → GoOver kept
      → layer < 65536
      → look (opening epoch history present commands kept) user layer
      ≡ record (look history user layer) {
        rule = option_map rule_in_order (rule_of history layer);
      }
  look-opening epoch commands kept layer go small =
      let joins = filter_map (last_join history) present in
      let rights = map server_entry (carried history present) in
      let rest = map command_entry commands in
      look-all user layer (opening epoch history present commands kept) []
      ∙ all-append user layer (joins ++ rights ++ rest) kept at_start
      ∙ all-kept user layer kept (look_all user layer (joins ++ rights ++ rest) at_start) go
      ∙ all-append user layer (joins ++ rights) rest at_start
      ∙ all-commands user layer commands (look_all user layer (joins ++ rights) at_start)
      ∙ all-append user layer joins rights at_start
      ∙ ap (look_all user layer rights) (all-joins user layer history present listed)
      ∙ all-depth user layer (depth_of history) (carried_rules history) after_rights
      ∙ all-rules user layer history after_rights small
      ∙ rights-same layer

-- ---- what is permitted

-- a layer that a message paints on has two bytes, if the message has a spelling
painted_by-small : (m : Draw) → DrawHasSpelling m → painted_by m < 65536
painted_by-small (draw.PutImage layer mode x y w h colors) spelled = spelled.0
painted_by-small (draw.FillRect layer mode x y w h color) spelled = spelled.0
painted_by-small (draw.PutTile layer col row repeat content) spelled = spelled.0
painted_by-small (draw.DabsRound layer x y r g b mode dabs) spelled = spelled.0
painted_by-small (draw.DabsSquare layer x y r g b mode dabs) spelled = spelled.0
painted_by-small (draw.MoveRect layer sx sy w h tx ty) spelled = spelled.0
painted_by-small _ spelled = omega arith

painted-small : (m : Msg) → HasSpelling m → painted_layer m < 65536
painted-small (msg.Draw command) spelled = painted_by-small command spelled
painted-small m spelled = omega arith

-- a rule with its ids in order lets a user paint as before
let-alike : (history : List Entry) (user : ℕ) (o : Option LayerRule) → user < 256
    → IfSome o (λ rule. All (λ id. id < 256) rule.ids)
    → option_map_or (lets_paint history user) (option_map rule_in_order o) true
    ≡ option_map_or (lets_paint history user) o true
let-alike history user None low bytes = refl
let-alike history user (Some rule) low bytes = lets-in_order history user rule low bytes

pub openings-change-nothing : OpeningsChangeNoRight
openings-change-nothing table epoch history present commands kept user m go stands rise listed
    spelled =
    let small : painted_layer m < 65536 = painted-small m spelled in
    let found = λ (layer : ℕ) (low : layer < 65536).
    look-opening history present user rise listed epoch commands kept layer go low in
    let alike : LetAlike (opening epoch history present commands kept) history user
    (painted_layer m) =
    ap (λ l. option_map_or (lets_paint history user) l.rule true) (found (painted_layer m) small)
    ∙ let-alike history user (rule_of history (painted_layer m))
    (listed-low 1 user present rise listed) (stands.ids (painted_layer m) small) in
    permitted-same (opening epoch history present commands kept) history user
    (ap but_rule (found 0 (omega arith))) m alike
