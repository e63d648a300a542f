-- The laws of sessions.
use Rattle.std.proofs.Common.{◌≡◌, ℕ, zero, suc, ◌+◌, ◌*◌, ◌<◌, ◌≤◌, ◌==◌, Bool, true, false}
use Rattle.std.proofs.Common.{nat_lt, nat_le, if◌then◌else◌, List, [], ◌∷◌, ◌++◌, length, map, fold}
use Rattle.std.proofs.Common.{All, Option, None, Some, Result, Ok, Err, refl, sym, ap, subst, ◌∙◌}
use Rattle.std.proofs.Common.{⊎_elim, arith, length-append}
use Rattle.std.specs.Prelude.{slice_index_or}
use Rattle.std.specs.List.{filter, sum_by}
use Rattle.std.specs.Option.{option_map, option_map_or}
use Rattle.std.specs.declared.alloc.AllocError.{AllocError}
use Rattle.dp_epochs.specs.declared.connection.Connection.{Connection}
use Rattle.dp_epochs.specs.declared.connection.Ending.TheVariants as ending
use Rattle.dp_epochs.specs.declared.effect.Effect.{Effect}
use Rattle.dp_epochs.specs.declared.effect.Effect.TheVariants.{Placed, Filtered, Joined, Left}
use Rattle.dp_epochs.specs.declared.effect.Effect.TheVariants.{Began, Added, Dropped, Reopened}
use Rattle.dp_epochs.specs.declared.event.Event.{Event}
use Rattle.dp_epochs.specs.declared.event.Event.TheVariants as event
use Rattle.dp_epochs.specs.declared.event.Reply.{Reply}
use Rattle.dp_epochs.specs.declared.event.ShutAt.{ShutAt}
use Rattle.std.proofs.lemmas.Bool.{cond_both, and_parts, ltb-true, cases_lt}
use Rattle.std.proofs.lemmas.List.{get_or_past}
use Rattle.dp_msg_meta.specs.declared.message.Meta.TheVariants as meta
use Rattle.dp_messages.specs.declared.message.Msg.{Msg}
use Rattle.dp_messages.specs.declared.message.Msg.TheVariants as msg
use Rattle.dp_msg_draw.specs.declared.draw.Draw.{Draw}
use Rattle.dp_messages.specs.declared.message.Entry.{Entry}
use Rattle.dp_messages.specs.Properties.{marked}
use Rattle.dp_acl.specs.Permitted.{permitted}
use Rattle.dp_acl.specs.Opening.{part_limit, opening_limit, opening}
use Rattle.dp_epochs.specs.State.{State, Stream, first_state, acted, noted, after_event, epoch_of}
use Rattle.dp_epochs.specs.State.{histories, history_of, open_connection, with_connection}
use Rattle.dp_epochs.specs.State.{after_shut, next_owner, stream_without, present_users}
use Rattle.dp_epochs.specs.State.{part_bytes, reset_byte_limit, fits_reset, with_part}
use Rattle.dp_epochs.specs.State.{sent_commands, kept_by, entry_of}
use Rattle.dp_epochs.specs.Effects.{own_message, made, entries_of, ended_after, live_after}
use Rattle.dp_epochs.specs.Effects.{IsEffect}
use Rattle.dp_epochs.specs.Past.{Past, LogItem, Journalled, RefusedClose, shut_at, interleaved}
use Rattle.dp_epochs.specs.Past.{after_item, state_after, state_of}
use Rattle.dp_epochs.specs.Past.{Serves, Step, refused, kept, shut_with, sure_step}
use Rattle.dp_epochs.specs.Rows.{has_room}
use Rattle.std.proofs.lemmas.List.Elements.{All-nil, All-weaker, All-push}
use Rattle.dp_epochs.specs.Laws.{Continues, LoggedStep, IsRun, IsFault, AreFaults, ShutBefore}
use Rattle.dp_epochs.specs.Laws.{shut_by, HasNoMark, IsHistory, AreHistories}
use Rattle.dp_epochs.proofs.Interleaving.{state-came, state-shut}
use Rattle.dp_epochs.proofs.OpeningLemmas.{opening-short, present-few, opening-marked}
use Rattle.dp_epochs.proofs.OpeningLemmas.{unmarked-append, going, going-append, going-few}
use Rattle.dp_epochs.proofs.OpeningLemmas.{opening-going, kept-few, kept-go, go-unmarked}
use Rattle.dp_epochs.proofs.EffectLemmas.{has-effect, entries-few, history-goes_over}

-- ---- answers

came_in : List LogItem → ℕ
came_in [] = 0
came_in (Journalled e ∷ more) = suc (came_in more)
came_in (RefusedClose conn ∷ more) = came_in more

came_in-append : (hs gs : List LogItem) → came_in (hs ++ gs) ≡ came_in hs + came_in gs
unfolding came_in
came_in-append [] gs = omega arith
came_in-append (Journalled e ∷ hs) gs = omega (arith, came_in-append hs gs)
came_in-append (RefusedClose conn ∷ hs) gs = came_in-append hs gs

came_in-shut : (shut : List ShutAt) → came_in (map (λ s. RefusedClose s.conn) shut) ≡ 0
unfolding came_in
came_in-shut [] = refl
came_in-shut (s ∷ shut) = came_in-shut shut

came_in-interleaved : (n : ℕ) (journal : List Event) (shut : List ShutAt)
    → came_in (interleaved n journal shut) ≡ length journal
unfolding came_in
came_in-interleaved n [] shut = came_in-shut (filter (λ s. s.n == n) shut)
came_in-interleaved n (e ∷ journal) shut =
    omega (
      arith,
      came_in-append (shut_at n shut) (Journalled e ∷ interleaved (n + 1) journal shut),
      came_in-shut (filter (λ s. s.n == n) shut),
      came_in-interleaved (n + 1) journal shut,
    )

shut-answers : (s : State) (conn : ℕ) (o : Option Connection)
    → (option_map_or (λ c. with_connection s conn (record c { ending = ending.Shut })) o s).answers
    ≡ s.answers
shut-answers s conn None = refl
shut-answers s conn (Some c) = refl

answers-run : (s : State) (hs : List LogItem) → length (fold after_item s hs).answers
    ≡ length s.answers + came_in hs
unfolding came_in
answers-run s [] = omega arith
answers-run s (Journalled e ∷ more) =
    answers-run (after_item s (Journalled e)) more
    ∙ omega (arith, length-append s.answers ((acted s e).reply ∷ []))
answers-run s (RefusedClose conn ∷ more) =
    answers-run (after_shut s conn) more
    ∙ ap (λ rs. length rs + came_in more) (shut-answers s conn (open_connection s conn))

-- one answer for each event
pub answered-once : (past : Past) → length (state_of past).answers ≡ length past.journal
answered-once past =
    omega (
      arith,
      answers-run first_state (interleaved 0 past.journal past.shut),
      came_in-interleaved 0 past.journal past.shut,
    )

-- ---- growing

-- the history of each epoch goes on after one more event
pub history-grows : (journal : List Event) (shut : List ShutAt) (e : Event) (epoch : ℕ)
    → All (λ s. s.n ≤ length journal) shut
    → Continues (history_of (state_after journal shut) epoch)
    (history_of (state_after (journal ++ e ∷ []) shut) epoch)
history-grows journal shut e epoch before =
    subst (λ s. Continues (history_of (state_after journal shut) epoch) (history_of s epoch))
    (sym (state-came journal shut e before))
    (history-goes_over (state_after journal shut) e epoch)

-- ---- what holds of every state

module _ (P : State → ℕ → Type 0)
    (event : (s : State) (e : Event) (n : ℕ) → P s n → P (after_event s e) (suc n))
    (shut : (s : State) (conn : ℕ) (n : ℕ) → P s n → P (after_shut s conn) n) where
  run-holds : (s : State) (n : ℕ) (hs : List LogItem) → P s n
      → P (fold after_item s hs) (n + came_in hs)
  unfolding came_in
  run-holds s n [] h = subst (P s) (omega arith) h
  run-holds s n (Journalled e ∷ more) h =
      subst (P (fold after_item (after_event s e) more)) (omega arith)
      (run-holds (after_event s e) (suc n) more (event s e n h))
  run-holds s n (RefusedClose conn ∷ more) h =
      run-holds (after_shut s conn) n more (shut s conn n h)

  -- what holds at first, and stays so with each event, holds of the state of each past
  pub past-holds : P first_state 0 → (past : Past) → P (state_of past) (length past.journal)
  past-holds first past =
      subst (P (state_of past)) (omega (arith, came_in-interleaved 0 past.journal past.shut))
      (run-holds first_state 0 (interleaved 0 past.journal past.shut) first)

-- ---- length

abbrev pub IsShortStream : Option Stream → Type 0
IsShortStream None = Unit {0}
IsShortStream (Some stream) = length stream.commands ≤ part_limit

-- After n events each history is short, and so is the reset that is being sent. Each entry that
-- goes on and each part of the reset came by an event of its own.
pub record IsShort (s : State) (n : ℕ) : Type 0 where
  pub ended : All (λ history. length history ≤ 2 * n + opening_limit) s.ended
  pub live : length s.live ≤ 2 * n + opening_limit
  pub stream : IsShortStream s.stream
  pub going : going s.live + length (sent_commands s.stream) ≤ n
  pub epoch : length s.ended ≤ n

module _ (s : State) (n : ℕ) (h : IsShort s n) where
  ended-short : All (λ history. length history ≤ 2 * suc n + opening_limit) s.ended
  ended-short =
      All-weaker (λ (history : List Entry). length history ≤ 2 * n + opening_limit)
      (λ (history : List Entry). length history ≤ 2 * suc n + opening_limit)
      (λ history few. omega (arith, few)) s.ended h.ended

  short-grown : (t : State) (more : List Entry) → t.ended ≡ s.ended → t.live ≡ s.live ++ more
      → length more ≤ 2 → IsShortStream t.stream
      → going more + length (sent_commands t.stream) ≤ length (sent_commands s.stream) + 1
      → IsShort t (suc n)
  short-grown t more ended live few stream goes = record {
    ended = subst (All (λ history. length history ≤ 2 * suc n + opening_limit)) (sym ended)
        ended-short;
    live = omega (arith, ap length live, length-append s.live more, few, h.live);
    stream = stream;
    going = omega (arith, ap going live, going-append s.live more, goes, h.going);
    epoch = omega (arith, ap length ended, h.epoch);
  }

without-short : (conn : ℕ) (o : Option Stream) → IsShortStream o
    → IsShortStream (stream_without conn o)
without-short conn None h = tt
without-short conn (Some stream) h =
    cond_both (stream.owner == conn) None (Some stream) IsShortStream (λ yes. tt) (λ no. h)

without-few : (conn : ℕ) (o : Option Stream)
    → length (sent_commands (stream_without conn o)) ≤ length (sent_commands o)
without-few conn None = omega arith
without-few conn (Some stream) =
    cond_both (stream.owner == conn) None (Some stream)
    (λ (o : Option Stream). length (sent_commands o) ≤ length stream.commands)
    (λ yes. omega arith) (λ no. omega arith)

added-few : (command : Draw) (o : Option Stream)
    → length (sent_commands (option_map (with_part (msg.Part command)) o))
    ≤ length (sent_commands o) + 1
added-few command None = omega arith
added-few command (Some sent) = omega (arith, length-append sent.commands (command ∷ []))

owner-still : (o : Option ℕ) → going (next_owner o) ≡ 0
owner-still None = refl
owner-still (Some user) = refl

added-short : (command : Draw) (o : Option Stream) (stream : Stream) → o ≡ Some stream
    → fits_reset stream.commands command ≡ true
    → IsShortStream (option_map (with_part (msg.Part command)) o)
added-short command None stream is fits = tt
added-short command (Some sent) stream is fits =
    let same : sent ≡ stream = cc in
    let room : length stream.commands < part_limit =
    ltb-true (length stream.commands) part_limit
    (and_parts (nat_lt (length stream.commands) part_limit)
    (nat_le (sum_by part_bytes stream.commands + part_bytes command) reset_byte_limit) fits).0 in
    omega (
      arith,
      room,
      ap (λ x. length x.commands) same,
      length-append sent.commands (command ∷ []),
    )

sent-short : (o : Option Stream) → IsShortStream o → length (sent_commands o) ≤ part_limit
sent-short None h = omega arith
sent-short (Some stream) h = h

short-effect : (s : State) (e : Event) (effect : Effect) → IsEffect s e effect → (n : ℕ)
    → IsShort s n → IsShort (noted s (made s e effect)) (suc n)
short-effect s e (Joined user next) cause n h =
    short-grown s n h (noted s (made s e (Joined user next))) (entries_of e (Joined user next)) refl
    refl (entries-few e (Joined user next)) h.stream
    (omega (
      arith,
      going-append (entry_of user (own_message e) ∷ []) (next_owner next),
      going-few (entry_of user (own_message e) ∷ []),
      owner-still next,
    ))
short-effect s e (Left conn c next) cause n h =
    short-grown s n h (noted s (made s e (Left conn c next))) (entries_of e (Left conn c next)) refl
    refl (entries-few e (Left conn c next)) (without-short conn s.stream h.stream)
    (let still : going (entries_of e (Left conn c next)) ≡ 0 = owner-still next in
    omega (arith, still, without-few conn s.stream))
short-effect s e (Began conn c) cause n h =
    short-grown s n h (noted s (made s e (Began conn c))) [] refl refl (omega arith) (omega arith)
    (omega arith)
short-effect s e (Added conn c) cause n h =
    short-grown s n h (noted s (made s e (Added conn c))) [] refl refl (omega arith)
    (subst (λ m. IsShortStream (option_map (with_part m) s.stream)) (sym cause.1.is)
    (added-short cause.0 s.stream cause.2.stream cause.2.sent cause.2.fits))
    (subst (λ m. going [] + length (sent_commands (option_map (with_part m) s.stream))
    ≤ length (sent_commands s.stream) + 1) (sym cause.1.is)
    (omega (arith, added-few cause.0 s.stream)))
short-effect s e (Dropped conn c) cause n h =
    short-grown s n h (noted s (made s e (Dropped conn c))) (entries_of e (Dropped conn c)) refl
    refl (omega arith) tt (let still : going (entries_of e (Dropped conn c)) ≡ 0 = refl in
    omega (arith, still))
short-effect s e (Reopened conn c) cause n h =
    let commands = sent_commands s.stream in
    let kept = kept_by s.stream s.live in
    let short = opening-short (epoch_of s + 1) s.live (present_users s) commands kept
    (present-few s) (sent-short s.stream h.stream) in
    let few = kept-few s.stream s.live in
    record {
      ended = All-push (λ (history : List Entry). length history ≤ 2 * suc n + opening_limit)
          s.ended s.live (ended-short s n h) (omega (arith, h.live));
      live = omega (arith, short, few, h.going);
      stream = tt;
      going = omega (
        arith,
        opening-going (epoch_of s + 1) s.live (present_users s) commands kept,
        few,
        h.going,
      );
      epoch = omega (arith, length-append s.ended (s.live ∷ []), h.epoch);
    }
short-effect s e effect cause n h =
    short-grown s n h (noted s (made s e effect)) (entries_of e effect) refl refl
    (entries-few e effect) h.stream (omega (arith, going-few (entries_of e effect)))

pub event-short : (s : State) (e : Event) (n : ℕ) → IsShort s n → IsShort (after_event s e) (suc n)
event-short s e n h =
    let it = has-effect s e in
    subst (λ a. IsShort (noted s a) (suc n)) (sym it.made) (short-effect s e it.effect it.cause n h)

pub shut-short : (s : State) (conn n : ℕ) → IsShort s n → IsShort (after_shut s conn) n
shut-short s conn n h = at_most_one (open_connection s conn)
  where
    at_most_one : (o : Option Connection) → IsShort (option_map_or (λ c. with_connection s conn
        (record c { ending = ending.Shut })) o s) n
    at_most_one None = h
    at_most_one (Some c) = record {
      ended = h.ended;
      live = h.live;
      stream = h.stream;
      going = h.going;
      epoch = h.epoch;
    }

pub first-short : IsShort first_state 0
first-short = record {
  ended = All-nil (λ (history : List Entry). length history ≤ 2 * 0 + opening_limit);
  live = omega arith;
  stream = tt;
  going = let none : going first_state.live ≡ 0 = refl in omega (arith, none);
  epoch = omega arith;
}

past-short : (past : Past) → IsShort (state_of past) (length past.journal)
past-short = past-holds IsShort event-short shut-short first-short

-- the epoch is at most the number of events
pub few-epochs : (past : Past) → epoch_of (state_of past) ≤ length past.journal
few-epochs past = (past-short past).epoch

short-at : (bound : ℕ) (hs : List (List Entry)) (k : ℕ)
    → All (λ history. length history ≤ bound) hs → length (slice_index_or hs k []) ≤ bound
short-at bound hs k short =
    ⊎_elim (λ (within : k < length hs). short k [] within)
    (λ (past : length hs ≤ k). omega (arith, ap length (get_or_past hs k [] past)))
    (cases_lt k (length hs))

-- each history is short
pub short-history : (past : Past) (epoch : ℕ) → length (history_of (state_of past) epoch)
    ≤ 2 * length past.journal + opening_limit
short-history past epoch =
    let s = state_of past in
    let h = past-short past in
    short-at (2 * length past.journal + opening_limit) (s.ended ++ s.live ∷ []) epoch
    (All-push (λ (history : List Entry). length history
    ≤ 2 * length past.journal + opening_limit) s.ended s.live h.ended h.live)

-- ---- epochs

epoch-effect : (s : State) (effect : Effect)
    → (length s.ended ≤ length (ended_after s effect))
    × (length (ended_after s effect) ≤ length s.ended + 1)
epoch-effect s (Reopened conn c) = (
  omega (arith, length-append s.ended (s.live ∷ [])),
  omega (arith, length-append s.ended (s.live ∷ [])),
)
epoch-effect s effect = (omega arith, omega arith)

pub epoch-rises : (s : State) (e : Event) → (epoch_of s ≤ epoch_of (after_event s e))
    × (epoch_of (after_event s e) ≤ epoch_of s + 1)
epoch-rises s e =
    let it = has-effect s e in
    subst (λ a. (epoch_of s ≤ epoch_of (noted s a)) × (epoch_of (noted s a) ≤ epoch_of s + 1))
    (sym it.made) (epoch-effect s it.effect)

-- ---- marks

unmarked-permitted : (h : List Entry) (user : ℕ) (m : Msg) → permitted h user m ≡ true
    → marked m ≡ None
unmarked-permitted h user (msg.Meta (meta.ResetMark epoch carried)) may = cc
unmarked-permitted h user m may = refl

unmarked-owner : (o : Option ℕ) → HasNoMark (next_owner o)
unmarked-owner None = tt
unmarked-owner (Some user) = (refl, tt)

-- no entry that an event places after the live history is a mark
entries-unmarked : (s : State) (e : Event) (effect : Effect) → IsEffect s e effect
    → HasNoMark (entries_of e effect)
entries-unmarked s e (Placed conn c) cause =
    (unmarked-permitted s.live c.user (own_message e) cause.2, tt)
entries-unmarked s e (Filtered conn c) cause = (refl, tt)
entries-unmarked s e (Joined user next) cause =
    (ap (λ x. marked (own_message x)) cause.came, unmarked-owner next)
entries-unmarked s e (Left conn c next) cause = (refl, unmarked-owner next)
entries-unmarked s e (Dropped conn c) cause = (refl, tt)
entries-unmarked s e effect cause = tt

-- the histories are those of the epochs from this one on
abbrev AreMarked : ℕ → List (List Entry) → Type 0
AreMarked epoch [] = Unit {0}
AreMarked epoch (history ∷ hs) = IsHistory epoch history × AreMarked (suc epoch) hs

history-append : (epoch : ℕ) (history more : List Entry) → IsHistory epoch history
    → HasNoMark more → IsHistory epoch (history ++ more)
history-append epoch [] more h clean = absurd h
history-append epoch (first ∷ rest) more h clean =
    (h.0, unmarked-append rest more h.1 clean)

marked-grown : (epoch : ℕ) (ended : List (List Entry)) (live more : List Entry)
    → AreMarked epoch (ended ++ live ∷ []) → HasNoMark more
    → AreMarked epoch (ended ++ (live ++ more) ∷ [])
marked-grown epoch [] live more h clean = (history-append epoch live more h.0 clean, tt)
marked-grown epoch (history ∷ ended) live more h clean =
    (h.0, marked-grown (suc epoch) ended live more h.1 clean)

marked-opened : (epoch : ℕ) (hs : List (List Entry)) (new : List Entry) → AreMarked epoch hs
    → IsHistory (epoch + length hs) new → AreMarked epoch (hs ++ new ∷ [])
marked-opened epoch [] new h is =
    (subst (λ k. IsHistory k new) (omega arith) is, tt)
marked-opened epoch (history ∷ hs) new h is = (
  h.0,
  marked-opened (suc epoch) hs new h.1 (subst (λ k. IsHistory k new) (omega arith) is),
)

marked-at : (epoch : ℕ) (hs : List (List Entry)) (k : ℕ) → AreMarked epoch hs → k < length hs
    → IsHistory (epoch + k) (slice_index_or hs k [])
marked-at epoch [] k h lt = absurd (omega arith)
marked-at epoch (history ∷ hs) zero h lt = subst (λ n. IsHistory n history) (omega arith) h.0
marked-at epoch (history ∷ hs) (suc k) h lt =
    subst (λ n. IsHistory n (slice_index_or hs k [])) (omega arith)
    (marked-at (suc epoch) hs k h.1 (omega arith))

-- the histories of a state are marked so
abbrev IsMarked : State → ℕ → Type 0
IsMarked s n = AreMarked 0 (histories s)

marked-effect : (s : State) (e : Event) (effect : Effect) → IsEffect s e effect
    → AreMarked 0 (histories s)
    → AreMarked 0 (ended_after s effect ++ live_after s e effect ∷ [])
marked-effect s e (Reopened conn c) cause h =
    marked-opened 0 (s.ended ++ s.live ∷ [])
    (opening (epoch_of s + 1) s.live (present_users s) (sent_commands s.stream)
    (kept_by s.stream s.live)) h
    (subst (λ k. IsHistory k (opening (epoch_of s + 1) s.live (present_users s)
    (sent_commands s.stream) (kept_by s.stream s.live)))
    (omega (arith, length-append s.ended (s.live ∷ [])))
    (opening-marked (epoch_of s + 1) s.live (present_users s) (sent_commands s.stream)
    (kept_by s.stream s.live)
    (go-unmarked (kept_by s.stream s.live) (kept-go s.stream s.live))))
marked-effect s e effect cause h =
    marked-grown 0 s.ended s.live (entries_of e effect) h (entries-unmarked s e effect cause)

event-marked : (s : State) (e : Event) (n : ℕ) → IsMarked s n → IsMarked (after_event s e) (suc n)
event-marked s e n h =
    let it = has-effect s e in
    subst (λ a. IsMarked (noted s a) (suc n)) (sym it.made)
    (marked-effect s e it.effect it.cause h)

shut-marked : (s : State) (conn n : ℕ) → IsMarked s n → IsMarked (after_shut s conn) n
shut-marked s conn n h = at_most_one (open_connection s conn)
  where
    at_most_one : (o : Option Connection) → IsMarked (option_map_or (λ c. with_connection s conn
        (record c { ending = ending.Shut })) o s) n
    at_most_one None = h
    at_most_one (Some c) = h

-- each history of a past begins with the mark of its epoch, and has no other
pub marked-histories : (past : Past) → AreHistories (state_of past)
marked-histories past epoch within =
    let s = state_of past in
    let h = past-holds IsMarked event-marked shut-marked ((refl, tt), tt) past in
    subst (λ k. IsHistory k (history_of s epoch)) (omega arith)
    (marked-at 0 (histories s) epoch h (omega (arith, length-append s.ended (s.live ∷ []))))

-- ---- one more event

pub refused-leads : (past : Past) (e : Event) → state_of (refused past e)
    ≡ shut_by (state_of past) e
refused-leads past (event.Open name registered) = refl
refused-leads past (event.Say conn m) = refl
refused-leads past (event.Close conn) = state-shut past.journal past.shut conn

weaker : {m : ℕ} (n : ℕ) (shut : List ShutAt) → All (λ s. s.n ≤ m) shut → m ≤ n
    → All (λ s. s.n ≤ n) shut
weaker {m} n shut before le =
    All-weaker (λ (s : ShutAt). s.n ≤ m) (λ (s : ShutAt). s.n ≤ n) (λ s h. omega (arith, h, le))
    shut before

stays-before : (past : Past) (e : Event) (n : ℕ) → ShutBefore past → length past.journal ≤ n
    → All (λ s. s.n ≤ n) (shut_with (length past.journal) past.shut e)
stays-before past (event.Close conn) n before le =
    All-push (λ (s : ShutAt). s.n ≤ n) past.shut (record { conn = conn; n = length past.journal })
    (weaker n past.shut before le) le
stays-before past _ n before le = weaker n past.shut before le

pub before-step : (past : Past) (e : Event) → ShutBefore past → ShutBefore (sure_step past e)
before-step past e before =
    by_room (has_room past.journal e)
  where
    by_room : (b : Bool) → ShutBefore (if b then kept past e else refused past e)
    by_room true =
        All-weaker (λ (s : ShutAt). s.n ≤ length past.journal)
        (λ (s : ShutAt). s.n ≤ length (past.journal ++ e ∷ []))
        (λ s h. omega (arith, h, length-append past.journal (e ∷ []))) past.shut before
    by_room false = stays-before past e (length past.journal) before (omega arith)

-- ---- faults

stays-broken : (past : Past) (e : Event) (answer : Result Reply AllocError) (new : Past) (first : ℕ)
    → past.first_fault ≡ Some first → Step past e answer new
    → IsFault first answer × (new.first_fault ≡ Some first)
stays-broken past e (Ok answer) new first first_fault step =
    let h : Serves (Some first) past e answer new = subst (λ b. Serves b past e answer new)
    first_fault step in
    (h.reply, ap (λ p. p.first_fault) h.after ∙ first_fault)
stays-broken past (event.Open name registered) (Err want) new first first_fault step =
    (tt, ap (λ p. p.first_fault) step ∙ first_fault)
stays-broken past _ (Err want) new first first_fault step =
    (tt, ap (λ p. p.first_fault) step ∙ first_fault)

-- each outcome is that fault
pub broken-for_good : (past : Past) (first : ℕ) (log : List LoggedStep)
    → past.first_fault ≡ Some first
    → IsRun past log
    → AreFaults first log
broken-for_good past first [] first_fault run = tt
broken-for_good past first (outcome ∷ log) first_fault run =
    let h = stays-broken past outcome.event outcome.answer outcome.left first first_fault run.0 in
    (h.0, broken-for_good outcome.left first log h.1 run.1)
