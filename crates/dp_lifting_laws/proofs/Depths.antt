-- No history of a session of the first profile sets a depth.
use Rattle.std.proofs.Common.{◌≡◌, ◌≢◌, ℕ, zero, suc, ◌+◌, ◌-◌, ◌==◌, true, List, [], ◌∷◌}
use Rattle.std.proofs.Common.{◌++◌, length, map, fold, Option, None, Some, is_some}
use Rattle.std.proofs.Common.{inl, inr, refl, sym, ap, subst, ◌∙◌}
use Rattle.std.specs.Prelude.{option_to_list, slice_get, slice_index_or}
use Rattle.std.specs.List.{AllByRecursion, cons_option, filter_map}
use Rattle.std.specs.Option.{option_map}
use Rattle.std.proofs.lemmas.Bool.{and_parts}
use Rattle.dp_msg_draw.specs.declared.draw.Draw.{Draw}
use Rattle.dp_msg_meta.specs.declared.message.Meta.{Meta}
use Rattle.dp_msg_meta.specs.declared.message.Meta.TheVariants as meta
use Rattle.dp_messages.specs.declared.message.Msg.{Msg}
use Rattle.dp_messages.specs.declared.message.Msg.TheVariants as msg
use Rattle.dp_messages.specs.declared.message.Entry.{Entry}
use Rattle.dp_messages.specs.Messages.{Spells}
use Rattle.dp_keeper.specs.declared.row.Row.{Row}
use Rattle.dp_acl.specs.LookBack.{numbers_below, joined, set_depth, LayerRule}
use Rattle.dp_acl.specs.Rights.{rule_of, depth_of}
use Rattle.dp_acl.specs.Carried.{acl_with, carried, carried_owners, carried_trusted}
use Rattle.dp_acl.specs.Carried.{carried_locks, carried_tiers, carried_rule, carried_rules}
use Rattle.dp_acl.specs.Opening.{server_entry, command_entry, last_join, goes_over, GoOver, opening}
use Rattle.dp_epochs.specs.declared.effect.Effect.{Effect}
use Rattle.dp_epochs.specs.declared.effect.Effect.TheVariants.{Placed, Filtered, Joined, Left}
use Rattle.dp_epochs.specs.declared.effect.Effect.TheVariants.{Dropped, Reopened}
use Rattle.dp_epochs.specs.declared.event.Event.{Event}
use Rattle.dp_epochs.specs.declared.event.Event.TheVariants as event
use Rattle.dp_epochs.specs.State.{State, after_event, epoch_of, first_state, histories, history_of}
use Rattle.dp_epochs.specs.State.{next_owner, noted, present_users, sent_commands, kept_by}
use Rattle.dp_epochs.specs.Effects.{own_message, entries_of, ended_after, live_after}
use Rattle.dp_epochs.specs.Past.{after_item, interleaved, state_after}
use Rattle.dp_epochs.proofs.OpeningLemmas.{last-joined, kept-go}
use Rattle.dp_epochs.proofs.EffectLemmas.{has-effect}
use Rattle.dp_recording_laws.specs.FirstProfile.{SpelledFirst}
use Rattle.dp_lifting_laws.specs.FirstCarried.{first_carried}
use Rattle.dp_lifting_laws.specs.FirstRows.{RowSpelled, StoodAfter, WereRowsOf}

-- no entry sets a depth
abbrev pub SetsNone : List Entry → Type 0
SetsNone entries = AllByRecursion (λ e. set_depth e.msg ≡ None) entries

none-append : (xs ys : List Entry) → SetsNone xs → SetsNone ys → SetsNone (xs ++ ys)
none-append [] ys hx hy = hy
none-append (x ∷ xs) ys hx hy = (hx.0, none-append xs ys hx.1 hy)

-- ---- the opening

join-sets-none : (m : Msg) → is_some (joined m) ≡ true → set_depth m ≡ None
join-sets-none (msg.Meta (meta.UndoDepth depth)) some = cc
join-sets-none m some = refl

join-none : (history : List Entry) (user : ℕ) (o : Option Entry) (rest : List Entry)
    → last_join history user ≡ o → SetsNone rest → SetsNone (cons_option o rest)
join-none history user None rest is none = none
join-none history user (Some e) rest is none = (
  join-sets-none e.msg
      (and_parts (is_some (joined e.msg)) (e.user == user) (last-joined history user e is)).0,
  none,
)

joins-none : (history : List Entry) (users : List ℕ)
    → SetsNone (filter_map (last_join history) users)
joins-none history [] = tt
joins-none history (user ∷ users) =
    join-none history user (last_join history user) (filter_map (last_join history) users) refl
    (joins-none history users)

rule-none : (layer : ℕ) (o : Option LayerRule) (rest : List Meta)
    → SetsNone (map server_entry rest)
    → SetsNone (map server_entry (cons_option (option_map (acl_with layer) o) rest))
rule-none layer None rest none = none
rule-none layer (Some rule) rest none = (refl, none)

rules-none : (history : List Entry) (layers : List ℕ)
    → SetsNone (map server_entry (filter_map (carried_rule history) layers))
rules-none history [] = tt
rules-none history (layer ∷ layers) =
    rule-none layer (rule_of history layer) (filter_map (carried_rule history) layers)
    (rules-none history layers)

commands-none : (commands : List Draw) → SetsNone (map command_entry commands)
commands-none [] = tt
commands-none (command ∷ commands) = (refl, commands-none commands)

depths-none : (history : List Entry) → SetsNone history
    → filter_map (λ e. set_depth e.msg) history ≡ []
depths-none [] h = refl
depths-none (e ∷ es) h =
    ap (λ o. cons_option o (filter_map (λ x. set_depth x.msg) es)) h.0 ∙ depths-none es h.1

depth-none : (history : List Entry) → SetsNone history → depth_of history ≡ None
depth-none history h = ap (λ all. slice_get all (length all - 1)) (depths-none history h)

-- if no depth was set, none is carried
pub carried-first : (history : List Entry) (present : List ℕ) → SetsNone history
    → carried history present ≡ first_carried history present
carried-first history present h =
    ap (λ o. carried_owners history present ∷ carried_trusted history present
    ∷ carried_locks history present ∷ carried_tiers history
    ∷ (option_to_list (option_map meta.UndoDepth o) ++ carried_rules history))
    (depth-none history h)

first_rights-none : (history : List Entry) (present : List ℕ)
    → SetsNone (map server_entry (first_carried history present))
first_rights-none history present =
    (refl, (refl, (refl, (refl, rules-none history (numbers_below 65536)))))

rights-none : (history : List Entry) (present : List ℕ) → SetsNone history
    → SetsNone (map server_entry (carried history present))
rights-none history present h =
    subst (λ ms. SetsNone (map server_entry ms)) (sym (carried-first history present h))
    (first_rights-none history present)

going-sets-none : (m : Msg) → goes_over m ≡ true → set_depth m ≡ None
going-sets-none (msg.Meta (meta.UndoDepth depth)) goes = cc
going-sets-none m goes = refl

kept-none : (kept : List Entry) → GoOver kept → SetsNone kept
kept-none [] go = tt
kept-none (e ∷ es) go = (going-sets-none e.msg go.0, kept-none es go.1)

opening-none : (epoch : ℕ) (history : List Entry) (present : List ℕ) (commands : List Draw)
    (kept : List Entry) → GoOver kept → SetsNone history
    → SetsNone (opening epoch history present commands kept)
opening-none epoch history present commands kept go h =
    let joins = filter_map (last_join history) present in
    let rights = map server_entry (carried history present) in
    let rest = map command_entry commands in (
      refl,
      none-append (joins ++ rights ++ rest) kept
          (none-append (joins ++ rights) rest
          (none-append joins rights (joins-none history present) (rights-none history present h))
          (commands-none commands)) (kept-none kept go),
    )

-- ---- an event

-- the event's own message sets no depth
abbrev pub IsWithout : Event → Type 0
IsWithout e = set_depth (own_message e) ≡ None

owner-none : (next : Option ℕ) → SetsNone (next_owner next)
owner-none None = tt
owner-none (Some user) = (refl, tt)

entries-none : (e : Event) (effect : Effect) → IsWithout e → SetsNone (entries_of e effect)
entries-none e (Placed conn c) own = (own, tt)
entries-none e (Filtered conn c) own = (refl, tt)
entries-none e (Joined user next) own = (own, owner-none next)
entries-none e (Left conn c next) own = (refl, owner-none next)
entries-none e (Dropped conn c) own = (refl, tt)
entries-none e effect own = tt

-- no history of the state sets a depth
record AreWithout (ended : List (List Entry)) (live : List Entry) : Type 0 where
  before : AllByRecursion SetsNone ended
  now : SetsNone live

ended-push : (ended : List (List Entry)) (live : List Entry) → AllByRecursion SetsNone ended
    → SetsNone live → AllByRecursion SetsNone (ended ++ live ∷ [])
ended-push [] live h now = (now, tt)
ended-push (history ∷ ended) live h now = (h.0, ended-push ended live h.1 now)

effect-none : (s : State) (e : Event) (effect : Effect) → IsWithout e
    → AreWithout s.ended s.live → AreWithout (ended_after s effect) (live_after s e effect)
effect-none s e (Reopened conn c) own h = record {
  before = ended-push s.ended s.live h.before h.now;
  now = opening-none (epoch_of s + 1) s.live (present_users s) (sent_commands s.stream)
      (kept_by s.stream s.live) (kept-go s.stream s.live) h.now;
}
effect-none s e effect own h = record {
  before = h.before;
  now = none-append s.live (entries_of e effect) h.now (entries-none e effect own);
}

event-none : (s : State) (e : Event) → IsWithout e → AreWithout s.ended s.live
    → AreWithout (after_event s e).ended (after_event s e).live
event-none s e own h =
    let it = has-effect s e in
    subst (λ a. AreWithout (noted s a).ended (noted s a).live) (sym it.made)
    (effect-none s e it.effect own h)

run-none : (s : State) (n : ℕ) (journal : List Event) → AllByRecursion IsWithout journal
    → AreWithout s.ended s.live
    → AreWithout (fold after_item s (interleaved n journal [])).ended
    (fold after_item s (interleaved n journal [])).live
run-none s n [] own h = h
run-none s n (e ∷ journal) own h =
    run-none (after_event s e) (n + 1) journal own.1 (event-none s e own.0 h)

history-none : (hs : List (List Entry)) (epoch : ℕ) → AllByRecursion SetsNone hs
    → SetsNone (slice_index_or hs epoch [])
history-none [] epoch h = tt
history-none (history ∷ hs) zero h = h.0
history-none (history ∷ hs) (suc epoch) h = history-none hs epoch h.1

-- ---- rows

spelled-none : (kind : ℕ) (payload : List ℕ) (m : Msg) → kind ≢ 70 → Spells kind payload m
    → set_depth m ≡ None
spelled-none kind payload (msg.Meta (meta.UndoDepth depth)) other s = absurd (other s.kind)
spelled-none kind payload m other s = refl

said-none : (kind : ℕ) (payload : List ℕ) (m : Msg) → SpelledFirst kind payload m
    → set_depth m ≡ None
said-none kind payload m (inl x) = ap set_depth x.1
said-none kind payload m (inr x) = spelled-none kind payload m x.0 x.2

row-none : (bytes : List ℕ) (e : Event) → RowSpelled bytes e → IsWithout e
row-none bytes (event.Open name registered) s = refl
row-none bytes (event.Say conn m) s = said-none s.kind s.payload m s.spelled
row-none bytes (event.Close conn) s = refl

rows-none : (before : List Event) (rows : List Row) (journal : List Event)
    → StoodAfter before rows journal → AllByRecursion IsWithout journal
rows-none before [] [] h = tt
rows-none before [] (e ∷ journal) h = absurd h
rows-none before (row ∷ rows) [] h = absurd h
rows-none before (row ∷ rows) (e ∷ journal) h =
    (row-none row.bytes e h.0.spelled, rows-none (before ++ e ∷ []) rows journal h.1)

pub histories-none : (rows : List Row) (journal : List Event) (epoch : ℕ)
    → WereRowsOf rows journal → SetsNone (history_of (state_after journal []) epoch)
histories-none rows journal epoch h =
    let s = state_after journal [] in
    let all = run-none first_state 0 journal (rows-none [] rows journal h)
    (record { before = tt; now = (refl, tt) }) in
    history-none (histories s) epoch (ended-push s.ended s.live all.before all.now)
