-- In a session in which what is said has a spelling, so has each entry of each epoch.
use Rattle.std.proofs.Common.{◌≡◌, ℕ, zero, suc, ◌+◌, ◌*◌, ◌^◌, ◌<◌, ◌≤◌, ◌==◌, Bool, true, false}
use Rattle.std.proofs.Common.{nat_lt, not, ◌&&◌, if◌then◌else◌, List, [], ◌∷◌, ◌++◌, length}
use Rattle.std.proofs.Common.{map, fold, drop}
use Rattle.std.proofs.Common.{Option, None, Some, refl, sym, ap, subst, ◌∙◌, ⊎_elim, arith}
use Rattle.std.specs.Prelude.{All, nat_le}
use Rattle.std.specs.List.{find, filter, list_any, sum_by, range_with_len}
use Rattle.std.specs.Option.{option_map, option_map_or}
use Rattle.std.specs.Str.{is_utf8}
use Rattle.std.proofs.lemmas.Bool.{cond_both, cases_Bool, cases_lt, and_parts, ltb-true, leb-true}
use Rattle.std.proofs.lemmas.Str.{IsUtf8-from_is_utf8}
use Rattle.std.proofs.lemmas.List.{length-append, get_or_past}
use Rattle.std.proofs.lemmas.List.Elements.{All-nil, All-cons, All-head, All-tail, All-append}
use Rattle.std.proofs.lemmas.List.Elements.{All-push, All-weaker, All-filter, All-drop}
use Rattle.std.proofs.lemmas.List.Sums.{fold-append}
use Rattle.dp_msg_draw.specs.declared.draw.Draw.{Draw}
use Rattle.dp_msg_draw.specs.declared.draw.Draw.TheVariants as draws
use Rattle.dp_msg_draw.specs.Payloads.{DrawHasSpelling, draw_kind}
use Rattle.dp_msg_meta.specs.declared.message.Control.{Control}
use Rattle.dp_msg_meta.specs.declared.message.Control.TheVariants as control
use Rattle.dp_msg_meta.specs.declared.message.Meta.{Meta}
use Rattle.dp_msg_meta.specs.declared.message.Meta.TheVariants as meta
use Rattle.dp_msg_meta.specs.Payloads.{control_kind, meta_kind}
use Rattle.dp_messages.specs.declared.message.Msg.{Msg}
use Rattle.dp_messages.specs.declared.message.Msg.TheVariants as msg
use Rattle.dp_messages.specs.declared.message.Entry.{Entry}
use Rattle.dp_messages.specs.Messages.{HasSpelling, kind_of}
use Rattle.dp_acl.specs.Opening.{server_entry, goes_over, kept_entries, part_limit, opening_limit}
use Rattle.dp_acl.specs.Laws.{SpelledIdsAreInOrder}
use Rattle.dp_epochs.specs.declared.connection.Ending.TheVariants as ending
use Rattle.dp_epochs.specs.declared.event.Event.{Event}
use Rattle.dp_epochs.specs.declared.event.Event.TheVariants as event
use Rattle.dp_epochs.specs.declared.event.ShutAt.{ShutAt}
use Rattle.dp_epochs.specs.State.{State, Stream, first_state, noted, after_event, after_shut}
use Rattle.dp_epochs.specs.State.{epoch_of, history_of, entry_of, is_name, user_ids, is_present}
use Rattle.dp_epochs.specs.State.{kept_by, next_owner, left, stream_without, sent_commands}
use Rattle.dp_epochs.specs.State.{part_bytes, reset_byte_limit, with_part, present_users}
use Rattle.dp_epochs.specs.State.{open_connection, with_connection}
use Rattle.dp_epochs.specs.declared.effect.Effect.{Effect}
use Rattle.dp_epochs.specs.declared.effect.Effect.TheVariants.{Placed, Filtered, Joined, Left}
use Rattle.dp_epochs.specs.declared.effect.Effect.TheVariants.{Began, Added, Dropped, Reopened}
use Rattle.dp_epochs.specs.Effects.{own_message, made, entries_of, ended_after, live_after}
use Rattle.dp_epochs.specs.Effects.{stream_after, IsEffect, EventsHaveEffects}
use Rattle.dp_epochs.specs.Rows.{event_limit}
use Rattle.dp_epochs.specs.Past.{Past, Journalled, RefusedClose, shut_at, interleaved}
use Rattle.dp_epochs.specs.Past.{after_item, state_of, kept, refused}
use Rattle.dp_epochs.specs.Laws.{ShutBefore, shut_by}
use Rattle.dp_epochs.proofs.OpeningLemmas.{opening-short, present-few, present-rise}
use Rattle.dp_epochs.proofs.OpeningLemmas.{kept-few, going-few}
use Rattle.dp_lists.proofs.Options.{option_both}
use Rattle.dp_sim.proofs.Marks.{live-is}
use Rattle.dp_sim_laws.specs.Spelled.{AreSpelledEntries, IsSpelledEvent}
use Rattle.dp_sim_laws.proofs.Openings.{opening-spelled}

-- ---- single entries

-- no kind is above a byte
control-small : (m : Control) → control_kind m < 2 ^ 8
control-small (control.Hello name) = omega arith
control-small m = omega arith

meta-small : (m : Meta) → meta_kind m < 2 ^ 8
meta-small meta.Leave = omega arith
meta-small m = omega arith

draw-small : (m : Draw) → draw_kind m < 2 ^ 8
draw-small (draws.Background color) = omega arith
draw-small m = omega arith

kind-small : (m : Msg) → HasSpelling m → kind_of m < 2 ^ 8
kind-small (msg.Control m) spelled = control-small m
kind-small (msg.Meta m) spelled = meta-small m
kind-small (msg.Draw command) spelled = draw-small command
kind-small (msg.Opaque kind body) spelled = spelled.1
kind-small _ spelled = omega arith

-- a user's id
abbrev IsUser : ℕ → Type 0
IsUser user = (1 ≤ user) × (user ≤ 254)

found-user : (p : ℕ → Bool) (low n k : ℕ) → 1 ≤ low → low + n ≤ 255
    → find p (range_with_len low n) ≡ Some k → IsUser k
found-user p low zero k above within found = cc
found-user p low (suc n) k above within found =
    ⊎_elim (λ (here : p low ≡ true).
    let e : Some low ≡ Some k = sym (ap (λ b. if b then Some low
    else find p (range_with_len (low + 1) n)) here) ∙ found in
    let same : low ≡ k = cc in
    (omega (arith, same), omega (arith, same)))
    (λ (other : p low ≡ false).
    found-user p (low + 1) n k (omega arith) (omega arith)
    (sym (ap (λ b. if b then Some low else find p (range_with_len (low + 1) n)) other) ∙ found))
    (cases_Bool (p low))

among-users : (p : ℕ → Bool) (k : ℕ) → find p user_ids ≡ Some k → IsUser k
unfolding user_ids
among-users p k found = found-user p 1 254 k (omega arith) (omega arith) found

-- the entry that makes a user operator, if it is one
owner-spelled : (o : Option ℕ) → ((user : ℕ) → o ≡ Some user → IsUser user)
    → AreSpelledEntries (next_owner o)
owner-spelled None is = All-nil (λ (e : Entry). HasSpelling e.msg)
owner-spelled (Some user) is =
    let h = is user refl in
    All-cons (λ (e : Entry). HasSpelling e.msg) (server_entry (meta.Owners (user ∷ []))) []
    (h.0, h.1, tt) (All-nil (λ (e : Entry). HasSpelling e.msg))

if-else : {X : Type 0} (b : Bool) (o : Option X) (x : X) → (if b then o else None) ≡ Some x
    → o ≡ Some x
if-else true o x is = is
if-else false o x is = cc

if-not : {X : Type 0} (b : Bool) (o : Option X) (x : X) → (if b then None else o) ≡ Some x
    → o ≡ Some x
if-not true o x is = cc
if-not false o x is = is

one-spelled : (user : ℕ) (m : Msg) → HasSpelling m → AreSpelledEntries (entry_of user m ∷ [])
one-spelled user m spelled =
    All-cons (λ (e : Entry). HasSpelling e.msg) (entry_of user m) [] spelled
    (All-nil (λ (e : Entry). HasSpelling e.msg))

name-spelled : (registered : Bool) (name : List ℕ) → is_name name ≡ true
    → HasSpelling (msg.Meta (meta.Join registered name))
name-spelled registered name named =
    let two = and_parts (nat_le 1 (length name) && nat_le (length name) 32) (is_utf8 name) named in
    let sides = and_parts (nat_le 1 (length name)) (nat_le (length name) 32) two.0 in (
      IsUtf8-from_is_utf8 name two.1,
      (leb-true 1 (length name) sides.0, leb-true (length name) 32 sides.1),
    )

-- ---- what an event places

entries-spelled : (s : State) (e : Event) (effect : Effect) → IsEffect s e effect
    → IsSpelledEvent e → AreSpelledEntries (entries_of e effect)
entries-spelled s e (Placed conn c) cause spelled =
    one-spelled c.user (own_message e) (subst IsSpelledEvent cause.0.came spelled)
entries-spelled s e (Filtered conn c) cause spelled =
    one-spelled c.user (msg.Meta (meta.Filtered (kind_of (own_message e))))
    (kind-small (own_message e) (subst IsSpelledEvent cause.0.came spelled))
entries-spelled s e (Joined user next) cause spelled =
    let P : Entry → Type 0 = λ e. HasSpelling e.msg in
    All-cons P (entry_of user (own_message e)) (next_owner next)
    (subst (λ e. HasSpelling (own_message e)) (sym cause.came)
    (name-spelled cause.registered cause.name cause.named))
    (owner-spelled next (λ other is.
    let e : Some user ≡ Some other =
    if-not (list_any (is_present s) user_ids) (Some user) other (sym cause.owner ∙ is) in
    among-users (λ k. not (is_present s k)) other (cause.free ∙ e)))
entries-spelled s e (Left conn c next) cause spelled =
    let P : Entry → Type 0 = λ e. HasSpelling e.msg in
    let gone = left s conn c in
    All-cons P (entry_of c.user (msg.Meta meta.Leave)) (next_owner next) tt
    (owner-spelled next (λ user is.
    among-users (is_present gone) user
    (if-else _ (find (is_present gone) user_ids) user (sym cause.owner ∙ is))))
entries-spelled s e (Dropped conn c) cause spelled =
    one-spelled c.user (msg.Meta (meta.Filtered (kind_of (own_message e))))
    (kind-small (own_message e) (subst IsSpelledEvent cause.1.said.came spelled))
entries-spelled s e effect cause spelled = All-nil (λ (e : Entry). HasSpelling e.msg)

-- ---- states

-- a past of n events has come to the state
pub record Came (n : ℕ) (s : State) : Type 0 where
  pub past : Past
  pub before : ShutBefore past
  pub is : state_of past ≡ s
  pub many : length past.journal ≡ n

-- What is true of a state after n events: the entries of its histories have a spelling, and so have
-- the commands of the reset that is being sent, which aren't too many.
pub record IsSpelledState (n : ℕ) (s : State) : Type 0 where
  pub came : Came n s
  pub ended : All AreSpelledEntries s.ended
  pub live : AreSpelledEntries s.live
  pub epochs : epoch_of s ≤ n
  pub few : length (sent_commands s.stream) ≤ part_limit
  pub commands : All DrawHasSpelling (sent_commands s.stream)

-- the commands of a stream are few, and have a spelling
abbrev IsSpelledStream : Option Stream → Type 0
IsSpelledStream stream =
    (length (sent_commands stream) ≤ part_limit) × All DrawHasSpelling (sent_commands stream)

none-sent : IsSpelledStream None
none-sent = (omega arith, All-nil DrawHasSpelling)

without-spelled : (conn : ℕ) (stream : Option Stream) → IsSpelledStream stream
    → IsSpelledStream (stream_without conn stream)
without-spelled conn None h = h
without-spelled conn (Some stream) h =
    cond_both (stream.owner == conn) None (Some stream) IsSpelledStream (λ yes. none-sent) (λ no. h)

stream-spelled : (s : State) (e : Event) (effect : Effect) → IsEffect s e effect
    → IsSpelledEvent e → IsSpelledStream s.stream
    → IsSpelledStream (stream_after e s.stream effect)
stream-spelled s e (Left conn c next) cause spelled h = without-spelled conn s.stream h
stream-spelled s e (Began conn c) cause spelled h = none-sent
stream-spelled s e (Added conn c) cause spelled h =
    let command = cause.0 in
    let before = cause.2.stream in
    let sent : IsSpelledStream (Some before) = subst IsSpelledStream cause.2.sent h in
    let may : HasSpelling (msg.Part command) =
    subst HasSpelling cause.1.is (subst IsSpelledEvent cause.1.said.came spelled) in
    let room = and_parts (nat_lt (length before.commands) part_limit)
    (nat_le (sum_by part_bytes before.commands + part_bytes command) reset_byte_limit)
    cause.2.fits in
    subst (λ m. IsSpelledStream (option_map (with_part m) s.stream)) (sym cause.1.is)
    (subst (λ stream. IsSpelledStream (option_map (with_part (msg.Part command)) stream))
    (sym cause.2.sent) (
      omega (
        arith,
        length-append before.commands (command ∷ []),
        ltb-true (length before.commands) part_limit room.0,
      ),
      All-push DrawHasSpelling before.commands command sent.1 may.0,
    ))
stream-spelled s e (Dropped conn c) cause spelled h = none-sent
stream-spelled s e (Reopened conn c) cause spelled h = none-sent
stream-spelled s e effect cause spelled h = h

-- what is kept of a history has a spelling
kept-spelled : (stream : Option Stream) (history : List Entry) → AreSpelledEntries history
    → AreSpelledEntries (kept_by stream history)
kept-spelled None history each = All-nil (λ (e : Entry). HasSpelling e.msg)
kept-spelled (Some stream) history each = from stream.place
  where
    from : (place : Option ℕ) → AreSpelledEntries (kept_entries place history)
    from None = All-nil (λ (e : Entry). HasSpelling e.msg)
    from (Some place) =
        All-filter (λ (e : Entry). goes_over e.msg) (λ (e : Entry). HasSpelling e.msg)
        (drop place history) (All-drop (λ (e : Entry). HasSpelling e.msg) place history each)

-- no more than the history has
kept-short : (stream : Option Stream) (history : List Entry)
    → length (kept_by stream history) ≤ length history
kept-short stream history = omega (arith, kept-few stream history, going-few history)

module _ (order : SpelledIdsAreInOrder)
    (short : (past : Past) (epoch : ℕ)
    → length (history_of (state_of past) epoch) ≤ 2 * length past.journal + opening_limit) where
  -- the live history isn't too long
  live-short : (n : ℕ) (s : State) → Came n s → length s.live ≤ 2 * n + opening_limit
  live-short n s came =
      let at = short came.past (epoch_of (state_of came.past)) in
      let live = ap length (live-is (state_of came.past)) ∙ ap (λ t. length t.live) came.is in
      omega (arith, at, live, came.many)

  effect-histories : (n : ℕ) (s : State) (e : Event) (effect : Effect) → IsEffect s e effect
      → IsSpelledEvent e → n < event_limit → IsSpelledState n s
      → All AreSpelledEntries (ended_after s effect) × AreSpelledEntries (live_after s e effect)
  effect-histories n s e (Reopened conn c) cause spelled below h =
      let commands = sent_commands s.stream in
      let kept = kept_by s.stream s.live in
      let present = present_users s in (
        All-push AreSpelledEntries s.ended s.live h.ended h.live,
        opening-spelled order s.live h.live (epoch_of s + 1) present commands kept
            (omega (arith, below, h.epochs))
            (omega (
              arith,
              below,
              opening-short (epoch_of s + 1) s.live present commands kept (present-few s) h.few,
              kept-short s.stream s.live,
              live-short n s h.came,
            ))
            (present-rise s) h.commands (kept-spelled s.stream s.live h.live),
      )
  effect-histories n s e effect cause spelled below h = (
    h.ended,
    All-append (λ (e : Entry). HasSpelling e.msg) s.live (entries_of e effect) h.live
        (entries-spelled s e effect cause spelled),
  )

  effect-epochs : (n : ℕ) (s : State) (effect : Effect) → epoch_of s ≤ n
      → length (ended_after s effect) ≤ n + 1
  effect-epochs n s (Reopened conn c) le =
      omega (arith, le, length-append s.ended (s.live ∷ []))
  effect-epochs n s effect le = omega (arith, le)

  effect-spelled : (n : ℕ) (s : State) (e : Event) (effect : Effect) → IsEffect s e effect
      → IsSpelledEvent e → n < event_limit → IsSpelledState n s
      → Came (n + 1) (noted s (made s e effect))
      → IsSpelledState (n + 1) (noted s (made s e effect))
  effect-spelled n s e effect cause spelled below h came =
      let histories = effect-histories n s e effect cause spelled below h in
      let stream = stream-spelled s e effect cause spelled (h.few, h.commands) in
      record {
        came = came;
        ended = histories.0;
        live = histories.1;
        epochs = effect-epochs n s effect h.epochs;
        few = stream.0;
        commands = stream.1;
      }

  module _ (effects : EventsHaveEffects)
      (on_kept : (past : Past) (e : Event) → ShutBefore past
      → state_of (kept past e) ≡ after_event (state_of past) e)
      (on_refused : (past : Past) (e : Event)
      → state_of (refused past e) ≡ shut_by (state_of past) e) where
    came-event : (n : ℕ) (s : State) (e : Event) → Came n s → Came (n + 1) (after_event s e)
    came-event n s e h =
        let more = length-append h.past.journal (e ∷ []) in
        let many = h.many in
        record {
          past = kept h.past e;
          before = All-weaker (λ (c : ShutAt). c.n ≤ length h.past.journal)
              (λ (c : ShutAt). c.n ≤ length (h.past.journal ++ e ∷ []))
              (λ c le. omega (arith, le, more)) h.past.shut h.before;
          is = on_kept h.past e h.before ∙ ap (λ t. after_event t e) h.is;
          many = omega (arith, more, many);
        }

    came-shut : (n : ℕ) (s : State) (conn : ℕ) → Came n s → Came n (after_shut s conn)
    came-shut n s conn h =
        let m = length h.past.journal in
        record {
          past = refused h.past (event.Close conn);
          before = All-push (λ (c : ShutAt). c.n ≤ m) h.past.shut
              (record { conn = conn; n = m }) h.before (omega arith);
          is = on_refused h.past (event.Close conn) ∙ ap (λ t. after_shut t conn) h.is;
          many = h.many;
        }

    event-spelled : (n : ℕ) (s : State) (e : Event) → IsSpelledEvent e → n < event_limit
        → IsSpelledState n s → IsSpelledState (n + 1) (after_event s e)
    event-spelled n s e spelled below h =
        let it = effects s e in
        subst (λ a. IsSpelledState (n + 1) (noted s a)) (sym it.made)
        (effect-spelled n s e it.effect it.cause spelled below h
        (subst (λ a. Came (n + 1) (noted s a)) it.made (came-event n s e h.came)))

    shut-spelled : (n : ℕ) (s : State) (conn : ℕ) → IsSpelledState n s
        → IsSpelledState n (after_shut s conn)
    shut-spelled n s conn h =
        option_both (λ c. with_connection s conn (record c { ending = ending.Shut }))
        (open_connection s conn) s (IsSpelledState n)
        (λ c found. record {
          came = subst (Came n)
              (ap (λ o. option_map_or
              (λ c. with_connection s conn (record c { ending = ending.Shut })) o s) found)
              (came-shut n s conn h.came);
          ended = h.ended;
          live = h.live;
          epochs = h.epochs;
          few = h.few;
          commands = h.commands;
        }) h

    closings-spelled : (n : ℕ) (s : State) (shut : List ShutAt) → IsSpelledState n s
        → IsSpelledState n (fold after_item s (map (λ c. RefusedClose c.conn) shut))
    closings-spelled n s [] h = h
    closings-spelled n s (c ∷ shut) h =
        closings-spelled n (after_shut s c.conn) shut (shut-spelled n s c.conn h)

    run-spelled : (n : ℕ) (s : State) (journal : List Event) (shut : List ShutAt)
        → All IsSpelledEvent journal → n + length journal ≤ event_limit → IsSpelledState n s
        → IsSpelledState (n + length journal) (fold after_item s (interleaved n journal shut))
    run-spelled n s [] shut each few h =
        subst (λ k. IsSpelledState k (fold after_item s (shut_at n shut))) (omega arith)
        (closings-spelled n s (filter (λ c. c.n == n) shut) h)
    run-spelled n s (e ∷ journal) shut each few h =
        let closed = fold after_item s (shut_at n shut) in
        let before = closings-spelled n s (filter (λ c. c.n == n) shut) h in
        let next = event-spelled n closed e (All-head IsSpelledEvent e journal each)
        (omega (arith, few)) before in
        let rest = interleaved (n + 1) journal shut in
        subst (IsSpelledState (n + length (e ∷ journal)))
        (sym (fold-append after_item s (shut_at n shut) (Journalled e ∷ rest)))
        (subst (λ k. IsSpelledState k (fold after_item (after_event closed e) rest))
        (omega arith)
        (run-spelled (n + 1) (after_event closed e) journal shut
        (All-tail IsSpelledEvent e journal each) (omega (arith, few)) next))

    first-spelled : IsSpelledState 0 first_state
    first-spelled = record {
      came = record {
        past = record {
          journal = [];
          shut = [];
          quiet = [];
          first_fault = None;
          known = Some [];
          count = 0;
          read_faults = 0;
        };
        before = All-nil (λ (c : ShutAt). c.n ≤ 0);
        is = refl;
        many = refl;
      };
      ended = All-nil AreSpelledEntries;
      live = one-spelled 0 (msg.Meta (meta.ResetMark 0 0)) (omega arith, omega arith);
      epochs = omega arith;
      few = omega arith;
      commands = All-nil DrawHasSpelling;
    }

    -- the entries of each epoch have a spelling
    pub history-spelled : (past : Past) (epoch : ℕ) → All IsSpelledEvent past.journal
        → length past.journal ≤ event_limit → AreSpelledEntries (history_of (state_of past) epoch)
    history-spelled past epoch each few =
        let s = state_of past in
        let h = run-spelled 0 first_state past.journal past.shut each (omega (arith, few))
        first-spelled in
        let hs = s.ended ++ s.live ∷ [] in
        let all = All-push AreSpelledEntries s.ended s.live h.ended h.live in
        ⊎_elim (λ (within : epoch < length hs). all epoch [] within)
        (λ (past_it : length hs ≤ epoch).
        subst AreSpelledEntries (sym (get_or_past hs epoch [] past_it))
        (All-nil (λ (e : Entry). HasSpelling e.msg)))
        (cases_lt epoch (length hs))
