-- Who is present has joined last as before an event, or by it.
use Rattle.std.proofs.Common.{◌≡◌, ℕ, ◌+◌, ◌-◌, ◌==◌, ◌&&◌, ◌||◌, not, Bool, true, false, cond}
use Rattle.std.proofs.Common.{if◌then◌else◌, List, [], ◌∷◌, ◌++◌, length, slice_get, Option, None}
use Rattle.std.proofs.Common.{Some, is_some, refl, sym, ap, subst, ◌∙◌, ⊎_elim, arith, append-nil}
use Rattle.std.specs.List.{filter, find}
use Rattle.std.proofs.lemmas.Bool.{cond-true, cond-false, cases_Bool, cases_eq, ne_eqb, eq-eqb}
use Rattle.std.proofs.lemmas.Bool.{false≢true}
use Rattle.std.proofs.lemmas.List.{length_push}
use Rattle.std.proofs.lemmas.List.Elements.{filter-append}
use Rattle.dp_msg_meta.specs.declared.message.Meta.TheVariants as meta
use Rattle.dp_messages.specs.declared.message.Msg.{Msg}
use Rattle.dp_messages.specs.declared.message.Msg.TheVariants as msg
use Rattle.dp_messages.specs.declared.message.Entry.{Entry}
use Rattle.dp_acl.specs.LookBack.{lists, joined, is_join_of}
use Rattle.dp_acl.specs.Permitted.{permitted}
use Rattle.dp_acl.specs.Opening.{last_join}
use Rattle.dp_epochs.specs.declared.effect.Effect.{Effect}
use Rattle.dp_epochs.specs.declared.effect.Effect.TheVariants.{Placed, Filtered, Joined, Left}
use Rattle.dp_epochs.specs.declared.effect.Effect.TheVariants.{Dropped, Reopened}
use Rattle.dp_epochs.specs.declared.event.Event.{Event}
use Rattle.dp_epochs.specs.declared.event.Event.TheVariants as event
use Rattle.dp_epochs.specs.declared.event.Reply.TheVariants as reply
use Rattle.dp_epochs.specs.State.{State, stays, after_event, epoch_of, entry_of}
use Rattle.dp_epochs.specs.State.{is_name, is_present, free_id, user_ids, present_users, opened_as}
use Rattle.dp_epochs.specs.State.{next_owner, owner_on_join, sent_commands, kept_by}
use Rattle.dp_epochs.specs.Effects.{own_message, entries_of, live_after, IsEffect}
use Rattle.dp_acl.proofs.KeptLemmas.{going-joins}
use Rattle.dp_epochs.proofs.OpeningLemmas.{present-rise, opening-joins, kept-go}
use Rattle.dp_epochs.proofs.EffectLemmas.{has-effect}

-- ---- lists

get-last : {X : Type 0} (xs : List X) (x : X) → slice_get (xs ++ x ∷ []) (length xs) ≡ Some x
get-last [] x = refl
get-last (y ∷ xs) x = get-last xs x

find-passes : {X : Type 0} (p : X → Bool) (xs : List X) (x : X) → find p xs ≡ Some x → p x ≡ true
find-passes p [] x h = cc
find-passes {X} p (y ∷ ys) x h =
    ⊎_elim (λ (yes : p y ≡ true).
    let e : Some y ≡ Some x = sym (cond-true (p y) (Some y) (find p ys) yes) ∙ h in
    let same : y ≡ x = cc in
    subst (λ z. p z ≡ true) same yes)
    (λ (no : p y ≡ false).
    find-passes p ys x (sym (cond-false (p y) (Some y) (find p ys) no) ∙ h))
    (cases_Bool (p y))

-- an id among those that pass a test passes it
pub listed-passes : (p : ℕ → Bool) (user : ℕ) (ids : List ℕ) → lists (filter p ids) user ≡ true
    → p user ≡ true
listed-passes p user [] h = cc
listed-passes p user (id ∷ ids) h =
    ⊎_elim (λ (yes : p id ≡ true).
    let there : lists (id ∷ filter p ids) user ≡ true =
    sym (ap (λ xs. lists xs user) (cond-true (p id) (id ∷ filter p ids) (filter p ids) yes)) ∙ h in
    ⊎_elim (λ (same : id ≡ user). subst (λ k. p k ≡ true) same yes)
    (λ (other : id ≡ user → ⊥).
    listed-passes p user ids (sym (ap (λ b. b || lists (filter p ids) user) (ne_eqb id user other))
    ∙ there))
    (cases_eq id user))
    (λ (no : p id ≡ false).
    listed-passes p user ids
    (sym (ap (λ xs. lists xs user) (cond-false (p id) (id ∷ filter p ids) (filter p ids) no)) ∙ h))
    (cases_Bool (p id))

not_both : (b : Bool) → b ≡ true → not b ≡ true → ⊥
not_both b here absent = false≢true (sym (ap not here) ∙ absent)

-- ---- the last Join

module _ (user : ℕ) where
  abbrev mine : List Entry → List Entry
  mine = filter (is_join_of user)

  last-more : (history more : List Entry) → mine more ≡ []
      → last_join (history ++ more) user ≡ last_join history user
  last-more history more none =
      ap (λ es. slice_get es (length es - 1))
      (filter-append (is_join_of user) history more ∙ ap (λ es. mine history ++ es) none
      ∙ append-nil (mine history))

  last-new : (history : List Entry) (e : Entry) (more : List Entry) → is_join_of user e ≡ true
      → mine more ≡ [] → last_join (history ++ e ∷ more) user ≡ Some e
  last-new history e more is none =
      let all : mine (history ++ e ∷ more) ≡ mine history ++ e ∷ [] =
      filter-append (is_join_of user) history (e ∷ more)
      ∙ ap (λ es. mine history ++ es) (cond-true (is_join_of user e) (e ∷ mine more) (mine more) is)
      ∙ ap (λ es. mine history ++ e ∷ es) none in
      let last : length (mine history ++ e ∷ []) - 1 ≡ length (mine history) =
      omega (arith, length_push (mine history) e) in
      ap (λ es. slice_get es (length es - 1)) all
      ∙ ap (slice_get (mine history ++ e ∷ [])) last
      ∙ get-last (mine history) e

  owner-none : (o : Option ℕ) → mine (next_owner o) ≡ []
  owner-none None = refl
  owner-none (Some owner) = refl

  permitted-none : (h : List Entry) (u : ℕ) (m : Msg) → permitted h u m ≡ true → joined m ≡ None
  permitted-none h u (msg.Meta (meta.Join registered name)) may = cc
  permitted-none h u m may = refl

  -- a present user's last Join is as before
  effect-join : (s : State) (e : Event) (effect : Effect) → IsEffect s e effect
      → lists (present_users s) user ≡ true
      → last_join (live_after s e effect) user ≡ last_join s.live user
  effect-join s e (Placed conn c) cause present =
      let m = own_message e in
      last-more s.live (entry_of c.user m ∷ [])
      (ap (λ o. cond (is_some o && (c.user == user)) (entry_of c.user m ∷ []) [])
      (permitted-none s.live c.user m cause.2))
  effect-join s e (Filtered conn c) cause present =
      last-more s.live (entries_of e (Filtered conn c)) refl
  effect-join s e (Joined newer next) cause present =
      let here = listed-passes (is_present s) user user_ids present in
      let absent = find-passes (λ id. not (is_present s id)) user_ids newer cause.free in
      let differ : (newer ≡ user → ⊥) = λ same. not_both (is_present s user) here
      (subst (λ k. not (is_present s k) ≡ true) same absent) in
      let join : joined (own_message e) ≡ Some cause.registered =
      ap (λ x. joined (own_message x)) cause.came in
      last-more s.live (entries_of e (Joined newer next))
      (ap (λ o. cond (is_some o && newer == user) (entry_of newer (own_message e)
      ∷ mine (next_owner next)) (mine (next_owner next))) join
      ∙ cond-false (newer == user) (entry_of newer (own_message e)
      ∷ mine (next_owner next)) (mine (next_owner next)) (ne_eqb newer user differ)
      ∙ owner-none next)
  effect-join s e (Left conn c next) cause present =
      last-more s.live (entries_of e (Left conn c next)) (owner-none next)
  effect-join s e (Dropped conn c) cause present =
      last-more s.live (entries_of e (Dropped conn c)) refl
  effect-join s e (Reopened conn c) cause present =
      opening-joins s.live user (epoch_of s + 1) (present_users s) (sent_commands s.stream)
      (kept_by s.stream s.live) (present-rise s) present
      (going-joins (kept_by s.stream s.live) user (kept-go s.stream s.live))
  effect-join s e effect cause present = last-more s.live [] refl

  pub join-stays : (s : State) (e : Event) → lists (present_users s) user ≡ true
      → last_join (after_event s e).live user ≡ last_join s.live user
  join-stays s e present =
      let it = has-effect s e in
      ap (λ a. last_join a.state.live user) it.made ∙ effect-join s e it.effect it.cause present

  -- a user who joins has joined last by that
  pub join-new : (s : State) (name : List ℕ) (registered : Bool) → is_name name ≡ true
      → free_id s ≡ Some user
      → last_join (after_event s (event.Open name registered)).live user
      ≡ Some (entry_of user (msg.Meta (meta.Join registered name)))
  join-new s name registered named free =
      let join = entry_of user (msg.Meta (meta.Join registered name)) in
      ap (λ b. last_join (if b then opened_as s registered name (free_id s)
      else stays s reply.NameRefused).state.live user) named
      ∙ ap (λ o. last_join (opened_as s registered name o).state.live user) free
      ∙ last-new s.live join (next_owner (owner_on_join s user))
      (eq-eqb user user refl) (owner-none (owner_on_join s user))
