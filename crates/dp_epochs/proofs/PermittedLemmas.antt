-- No history holds a message that its user was not permitted to send.
use Rattle.std.proofs.Common.{◌≡◌, ℕ, suc, ◌+◌, ◌<◌, ◌≤◌, List, [], ◌∷◌, ◌++◌, length, All, Option}
use Rattle.std.proofs.Common.{None, Some, refl, sym, ap, subst, ◌∙◌, inl, inr, ⊎_elim, arith}
use Rattle.std.proofs.Common.{append-nil, append_assoc, length-append}
use Rattle.std.specs.Prelude.{slice_index_or}
use Rattle.std.specs.Option.{option_map_or}
use Rattle.std.proofs.lemmas.Bool.{cases_lt}
use Rattle.std.proofs.lemmas.List.{get_or_past}
use Rattle.std.proofs.lemmas.List.Elements.{All-nil, All-push}
use Rattle.dp_msg_draw.specs.declared.draw.Draw.{Draw}
use Rattle.dp_messages.specs.declared.message.Entry.{Entry}
use Rattle.dp_epochs.specs.declared.connection.Connection.{Connection}
use Rattle.dp_epochs.specs.declared.connection.Ending.TheVariants as ending
use Rattle.dp_epochs.specs.declared.effect.Effect.{Effect}
use Rattle.dp_epochs.specs.declared.effect.Effect.TheVariants.{Placed, Filtered, Joined, Left}
use Rattle.dp_epochs.specs.declared.effect.Effect.TheVariants.{Dropped, Reopened}
use Rattle.dp_epochs.specs.declared.event.Event.{Event}
use Rattle.dp_acl.specs.Opening.{opening}
use Rattle.dp_epochs.specs.State.{State, first_state, noted, after_event, after_shut, epoch_of}
use Rattle.dp_epochs.specs.State.{history_of, open_connection, with_connection, next_owner}
use Rattle.dp_epochs.specs.State.{present_users, sent_commands, kept_by}
use Rattle.dp_epochs.specs.Effects.{own_message, entries_of, ended_after, live_after, IsEffect}
use Rattle.dp_epochs.specs.Past.{Past, state_of}
use Rattle.dp_epochs.specs.Laws.{is_servers, IsAllowed, ArePermitted}
use Rattle.dp_epochs.proofs.EffectLemmas.{has-effect}
use Rattle.dp_epochs.proofs.LawLemmas.{past-holds}

-- ---- lists in two pieces

-- an entry of two pieces stands in the first
in-first : (live before after more : List Entry) (entry : Entry)
    → live ++ more ≡ before ++ entry ∷ after → length before < length live
    → (rest : List Entry) × (live ≡ before ++ entry ∷ rest)
in-first [] before after more entry is within = absurd (omega (arith, within))
in-first (x ∷ live) [] after more entry is within =
    let same : x ≡ entry = cc in (live, ap (λ e. e ∷ live) same)
in-first (x ∷ live) (y ∷ before) after more entry is within =
    let same : x ≡ y = cc in
    let tails : live ++ more ≡ before ++ entry ∷ after = cc in
    let found = in-first live before after more entry tails (omega (arith, within)) in
    (found.0, ap (λ e. e ∷ live) same ∙ ap (λ es. y ∷ es) found.1)

-- or in the second
in-second : (live before more later : List Entry) → live ++ more ≡ before ++ later
    → length live ≤ length before
    → (rest : List Entry) × (before ≡ live ++ rest) × (more ≡ rest ++ later)
in-second [] before more later is within = (before, refl, is)
in-second (x ∷ live) [] more later is within = absurd (omega (arith, within))
in-second (x ∷ live) (y ∷ before) more later is within =
    let same : y ≡ x = cc in
    let tails : live ++ more ≡ before ++ later = cc in
    let found = in-second live before more later tails (omega (arith, within)) in (
      found.0,
      ap (λ e. e ∷ before) same ∙ ap (λ es. x ∷ es) found.1,
      found.2,
    )

-- ---- histories that grow

nothing-permitted : ArePermitted []
nothing-permitted before after entry is past =
    absurd (omega (arith, ap length is, length-append before (entry ∷ after)))

last-allowed : (live before after rest : List Entry) (e entry : Entry) → IsAllowed live e
    → before ≡ live ++ rest → e ∷ [] ≡ rest ++ entry ∷ after → IsAllowed before entry
last-allowed live before after [] e entry allowed is last =
    let same : e ≡ entry = cc in
    subst (λ es. IsAllowed es entry) (sym (is ∙ append-nil live))
    (subst (IsAllowed live) same allowed)
last-allowed live before after (y ∷ rest) e entry allowed is last =
    absurd (omega (arith, ap length last, length-append rest (entry ∷ after)))

-- with one more entry that may stand there
permitted-one : (live : List Entry) (e : Entry) → ArePermitted live → IsAllowed live e
    → ArePermitted (live ++ e ∷ [])
permitted-one [] e h allowed before after entry is past =
    absurd (omega (arith, ap length is, length-append before (entry ∷ after), past))
permitted-one (x ∷ live) e h allowed before after entry is past =
    ⊎_elim (λ (within : length before < length (x ∷ live)).
    let found = in-first (x ∷ live) before after (e ∷ []) entry is within in
    h before found.0 entry found.1 past)
    (λ (beyond : length (x ∷ live) ≤ length before).
    let found = in-second (x ∷ live) before (e ∷ []) (entry ∷ after) is beyond in
    last-allowed (x ∷ live) before after found.0 e entry allowed found.1 found.2)
    (cases_lt (length before) (length (x ∷ live)))

-- each may stand after those before it
abbrev AreNext : List Entry → List Entry → Type 0
AreNext live [] = Unit {0}
AreNext live (e ∷ more) = IsAllowed live e × AreNext (live ++ e ∷ []) more

permitted-more : (live more : List Entry) → ArePermitted live → AreNext live more
    → ArePermitted (live ++ more)
permitted-more live [] h next = subst ArePermitted (sym (append-nil live)) h
permitted-more live (e ∷ more) h next =
    subst ArePermitted (append_assoc live (e ∷ []) more)
    (permitted-more (live ++ e ∷ []) more (permitted-one live e h next.0) next.1)

-- an opening has no entry after those that it carried
opening-permitted : (epoch : ℕ) (history : List Entry) (present : List ℕ) (commands : List Draw)
    (kept : List Entry) → ArePermitted (opening epoch history present commands kept)
opening-permitted epoch history present commands kept before after entry is past =
    absurd (omega (arith, ap length is, length-append before (entry ∷ after), past))

-- ---- what events place

owner-next : (live : List Entry) (o : Option ℕ) → AreNext live (next_owner o)
owner-next live None = tt
owner-next live (Some user) = (inl refl, tt)

entries-next : (s : State) (e : Event) (effect : Effect) → IsEffect s e effect
    → AreNext s.live (entries_of e effect)
entries-next s e (Placed conn c) cause = (inr (inr cause.2), tt)
entries-next s e (Filtered conn c) cause = (inr (inl refl), tt)
entries-next s e (Joined user next) cause =
    (inr (inl (ap (λ x. is_servers (own_message x)) cause.came)), owner-next _ next)
entries-next s e (Left conn c next) cause = (inr (inl refl), owner-next _ next)
entries-next s e (Dropped conn c) cause = (inr (inl refl), tt)
entries-next s e effect cause = tt

permitted-effect : (s : State) (e : Event) (effect : Effect) → IsEffect s e effect
    → All ArePermitted s.ended × ArePermitted s.live
    → All ArePermitted (ended_after s effect) × ArePermitted (live_after s e effect)
permitted-effect s e (Reopened conn c) cause h = (
  All-push ArePermitted s.ended s.live h.0 h.1,
  opening-permitted (epoch_of s + 1) s.live (present_users s) (sent_commands s.stream)
      (kept_by s.stream s.live),
)
permitted-effect s e effect cause h =
    (h.0, permitted-more s.live (entries_of e effect) h.1 (entries-next s e effect cause))

-- ---- every history

abbrev IsPermitted : State → ℕ → Type 0
IsPermitted s n = All ArePermitted s.ended × ArePermitted s.live

event-permitted : (s : State) (e : Event) (n : ℕ) → IsPermitted s n
    → IsPermitted (after_event s e) (suc n)
event-permitted s e n h =
    let it = has-effect s e in
    subst (λ a. IsPermitted (noted s a) (suc n)) (sym it.made)
    (permitted-effect s e it.effect it.cause h)

shut-permitted : (s : State) (conn n : ℕ) → IsPermitted s n → IsPermitted (after_shut s conn) n
shut-permitted s conn n h = at_most_one (open_connection s conn)
  where
    at_most_one : (o : Option Connection) → IsPermitted (option_map_or (λ c. with_connection s conn
        (record c { ending = ending.Shut })) o s) n
    at_most_one None = h
    at_most_one (Some c) = h

first-permitted : ArePermitted first_state.live
first-permitted before after entry is past =
    absurd (omega (arith, ap length is, length-append before (entry ∷ after), past))

permitted-at : (hs : List (List Entry)) (k : ℕ) → All ArePermitted hs
    → ArePermitted (slice_index_or hs k [])
permitted-at hs k all =
    ⊎_elim (λ (within : k < length hs). all k [] within)
    (λ (past : length hs ≤ k). subst ArePermitted (sym (get_or_past hs k [] past))
    nothing-permitted)
    (cases_lt k (length hs))

pub permitted-histories : (past : Past) (epoch : ℕ)
    → ArePermitted (history_of (state_of past) epoch)
permitted-histories past epoch =
    let s = state_of past in
    let h = past-holds IsPermitted event-permitted shut-permitted
    (All-nil ArePermitted, first-permitted) past in
    permitted-at (s.ended ++ s.live ∷ []) epoch (All-push ArePermitted s.ended s.live h.0 h.1)
