-- What one event does to the users and their answers: open connections are of users that differ,
-- and an event of one connection places no answers of others.
use Rattle.std.proofs.Common.{◌≡◌, ◌⊎◌, ℕ, zero, suc, ◌+◌, ◌-◌, ◌<◌, ◌≤◌, ◌==◌, Bool, true, false}
use Rattle.std.proofs.Common.{not, ◌&&◌, ◌||◌, nat_le, cond, if◌then◌else◌, List, [], ◌∷◌, ◌++◌}
use Rattle.std.proofs.Common.{length, Option, None, Some, is_some, refl, sym, ap, subst, ◌∙◌}
use Rattle.std.proofs.Common.{⊎_elim, inl, inr, arith, append-nil, append_assoc, length-append}
use Rattle.std.specs.Prelude.{slice_set}
use Rattle.std.specs.List.{find, list_any, range_with_len, slice_get}
use Rattle.std.proofs.lemmas.Bool.{cases_eq, cases_Bool, cond_both, eq-eqb, or_parts}
use Rattle.std.proofs.lemmas.Bool.{and_parts, le-leb, not-true, false≢true}
use Rattle.std.proofs.Math.Bool.{and-false, or-false}
use Rattle.dp_client.specs.Client.{may_answer}
use Rattle.dp_client.specs.Taking.{EntriesAreTaken}
use Rattle.dp_messages.specs.Properties.{carried_in}
use Rattle.dp_msg_draw.specs.declared.draw.Draw.{Draw}
use Rattle.dp_msg_meta.specs.declared.message.Control.TheVariants as control
use Rattle.dp_msg_meta.specs.declared.message.Meta.TheVariants as meta
use Rattle.dp_messages.specs.declared.message.Msg.{Msg}
use Rattle.dp_messages.specs.declared.message.Msg.TheVariants as msg
use Rattle.dp_messages.specs.declared.message.Entry.{Entry}
use Rattle.dp_messages.specs.Messages.{kind_of}
use Rattle.dp_messages.specs.Properties.{carried_by}
use Rattle.dp_messages.specs.Equality.{same_message}
use Rattle.dp_acl.specs.Permitted.{permitted}
use Rattle.dp_acl.specs.Opening.{server_entry, carried_entries, opening}
use Rattle.dp_epochs.specs.declared.connection.Connection.{Connection}
use Rattle.dp_epochs.specs.declared.connection.Ending.TheVariants as ending
use Rattle.dp_epochs.specs.declared.decision.Decision.{Decision}
use Rattle.dp_epochs.specs.declared.decision.Decision.TheVariants as decision
use Rattle.dp_epochs.specs.declared.effect.Effect.{Effect}
use Rattle.dp_epochs.specs.declared.effect.Effect.TheVariants.{Nothing, TakesUp, Placed, Filtered}
use Rattle.dp_epochs.specs.declared.effect.Effect.TheVariants.{Joined, Left, Dropped, Reopened}
use Rattle.dp_epochs.specs.declared.event.Event.{Event}
use Rattle.dp_epochs.specs.declared.event.Event.TheVariants as event
use Rattle.dp_epochs.specs.declared.event.Reply.{Reply}
use Rattle.dp_epochs.specs.declared.event.Reply.TheVariants as reply
use Rattle.dp_epochs.specs.State.{State, first_state, noted, after_event, epoch_of}
use Rattle.dp_epochs.specs.State.{here, entry_of, filtered_entry, present_users}
use Rattle.dp_epochs.specs.State.{is_present, user_ids, free_id, new_connection, next_owner}
use Rattle.dp_epochs.specs.Connections.{is_open}
use Rattle.dp_epochs.specs.State.{open_in, open_connection, has_acknowledged}
use Rattle.dp_epochs.specs.State.{judged, heard, decided, fits_reset}
use Rattle.dp_epochs.specs.State.{part_decided, may_begin, reset_of, sent_commands, kept_by}
use Rattle.dp_epochs.specs.Effects.{own_message, made, entries_of, ended_after, live_after}
use Rattle.dp_epochs.specs.Effects.{connections_after, answer_of, IsStill, IsSaid}
use Rattle.dp_epochs.specs.Effects.{IsEffect, effect_by, EventsHaveEffects, EffectsAreMade}
use Rattle.dp_epochs.specs.Effects.{DecisionsHaveEffects, begin_message}
use Rattle.dp_epochs.specs.Rows.{has_room}
use Rattle.dp_epochs.specs.Past.{Past, state_of, kept, refused, answer_to, sure_step, sure_answer}
use Rattle.dp_epochs.specs.Laws.{ShutBefore, AreHistories}
use Rattle.dp_sim.specs.Moves.{InstructionsAreMoves}
use Rattle.dp_lists.specs.Numbered.{numbered}
use Rattle.dp_lists.proofs.Numbered.{number-found, numbered-same, numbered-old}
use Rattle.dp_lists.proofs.Numbered.{numbered-either, numbered-new}
use Rattle.dp_epochs.proofs.OpenConnections.{open_is_found, found_is_open, other_stays_open}
use Rattle.dp_epochs.proofs.OpenConnections.{changed_is_open}
use Rattle.dp_sim_laws.proofs.Answering.{answers_from, NoAnswers, answers-append, answers-none}
use Rattle.dp_sim_laws.proofs.Answering.{answers-same, answers-before, answers-one, none-append}
use Rattle.dp_sim_laws.proofs.Answering.{none-other, none-mute, AnswersTo, Answer}

-- ---- people

-- the users of open connections are above 0 and differ, and none has taken up a later epoch
pub record ArePeople (epoch : ℕ) (cs : List Connection) : Type 0 where
  pub users : (n : ℕ) (c : Connection) → open_in cs n ≡ Some c → 1 ≤ c.user
  pub known : (n : ℕ) (c : Connection) → open_in cs n ≡ Some c → c.acknowledged ≤ epoch
  pub apart : (n m : ℕ) (c d : Connection) → open_in cs n ≡ Some c → open_in cs m ≡ Some d
      → c.user ≡ d.user → n ≡ m

none-open : (n : ℕ) (c : Connection) → open_in [] n ≡ Some c → ⊥
none-open n c is =
    let found = number-found [] n c (open_is_found [] n c is).0 in let no : None
    ≡ Some c = found.1 in cc

-- if there are no connections
none-people : ArePeople 0 []
none-people = record {
  users = λ n c is. absurd (none-open n c is);
  known = λ n c is. absurd (none-open n c is);
  apart = λ n m c d is it same. absurd (none-open n c is);
}

-- the connection of this number was one of the same user, and has taken up no later epoch
record Was (epoch : ℕ) (cs : List Connection) (n : ℕ) (x : Connection) : Type 0 where
  old : Connection
  found : open_in cs n ≡ Some old
  user : x.user ≡ old.user
  known : x.acknowledged ≤ epoch

people-from : (epoch later : ℕ) (cs ds : List Connection)
    → ((n : ℕ) (x : Connection) → open_in ds n ≡ Some x → Was later cs n x)
    → ArePeople epoch cs → ArePeople later ds
people-from epoch later cs ds back h = record {
  users = λ n c is. let w = back n c is in omega (arith, w.user, h.users n w.old w.found);
  known = λ n c is. (back n c is).known;
  apart = λ n m c d is it same.
      let v = back n c is in
      let w = back m d it in
      h.apart n m v.old w.old v.found w.found (sym v.user ∙ same ∙ w.user);
}

-- the last of connections, or another
open-either : (cs : List Connection) (d : Connection) (n : ℕ) (x : Connection)
    → open_in (cs ++ d ∷ []) n ≡ Some x
    → (open_in cs n ≡ Some x) ⊎ ((n ≡ length cs + 1) × (x ≡ d))
open-either cs d n x is =
    let h = open_is_found (cs ++ d ∷ []) n x is in
    ⊎_elim (λ (old : numbered cs n ≡ Some x). inl (found_is_open cs n x old h.1))
    (λ (new : (n ≡ length cs + 1) × (x ≡ d)). inr new)
    (numbered-either cs d n x h.0)

-- one more, of a user whom no open connection has
people-more : (epoch : ℕ) (cs : List Connection) (d : Connection) → 1 ≤ d.user
    → d.acknowledged ≡ epoch
    → ((n : ℕ) (x : Connection) → open_in cs n ≡ Some x → x.user ≡ d.user → ⊥)
    → ArePeople epoch cs → ArePeople epoch (cs ++ d ∷ [])
people-more epoch cs d user ready fresh h = record {
  users = λ n c is.
      ⊎_elim (λ (old : open_in cs n ≡ Some c). h.users n c old)
      (λ (new : (n ≡ length cs + 1) × (c ≡ d)). subst (λ x. 1 ≤ x.user) (sym new.1) user)
      (open-either cs d n c is);
  known = λ n c is.
      ⊎_elim (λ (old : open_in cs n ≡ Some c). h.known n c old)
      (λ (new : (n ≡ length cs + 1) × (c ≡ d)).
      subst (λ x. x.acknowledged ≤ epoch) (sym new.1) (omega (arith, ready)))
      (open-either cs d n c is);
  apart = λ n m c e is it same.
      ⊎_elim (λ (old : open_in cs n ≡ Some c).
      ⊎_elim (λ (older : open_in cs m ≡ Some e). h.apart n m c e old older same)
      (λ (new : (m ≡ length cs + 1) × (e ≡ d)). absurd (fresh n c old
      (same ∙ ap (λ x. x.user) new.1)))
      (open-either cs d m e it))
      (λ (new : (n ≡ length cs + 1) × (c ≡ d)).
      ⊎_elim (λ (older : open_in cs m ≡ Some e). absurd (fresh m e older
      (sym same ∙ ap (λ x. x.user) new.1)))
      (λ (newer : (m ≡ length cs + 1) × (e ≡ d)). new.0 ∙ sym newer.0)
      (open-either cs d m e it))
      (open-either cs d n c is);
}

-- the first entry is the server's
abbrev pub IsServerFirst : List Entry → Type 0
IsServerFirst [] = ⊥
IsServerFirst (entry ∷ entries) = entry.user ≡ 0

server-more : (xs ys : List Entry) → IsServerFirst xs → IsServerFirst (xs ++ ys)
server-more [] ys h = absurd h
server-more (x ∷ xs) ys h = h

-- the users of a state, and the server
pub record HasPeople (s : State) : Type 0 where
  pub connections : ArePeople (epoch_of s) s.connections
  pub server : IsServerFirst s.live

-- those of a session to which nothing has come
pub first-people : HasPeople first_state
first-people = record { connections = none-people; server = refl }

-- ---- events

-- entries stand after the live history, and none of them answers the users of these connections
pub record Grown (s : State) (Others : ℕ → Type 0) (t : State) : Type 0 where
  pub more : List Entry
  pub live : t.live ≡ s.live ++ more
  pub strange : (n : ℕ) (c : Connection) → Others n → open_connection s n ≡ Some c
      → NoAnswers c.user more

-- no answer of the user's stands after what the history carried
pub record Unheard (user : ℕ) (live : List Entry) : Type 0 where
  pub base : carried_in live < length live
  pub none : answers_from user (carried_in live) 0 live ≡ []

-- The users are people after it, and these connections stay. While the epoch is the same, no entry
-- that is placed answers their users; and in a later epoch none has answered them yet.
pub record Passes (s : State) (Others : ℕ → Type 0) (t : State) : Type 0 where
  pub people : HasPeople t
  pub epochs : epoch_of s ≤ epoch_of t
  pub same : epoch_of t ≡ epoch_of s → Grown s Others t
  pub later : epoch_of s < epoch_of t → (n : ℕ) (c : Connection) → Others n
      → open_connection s n ≡ Some c → Unheard c.user t.live
  pub stay : (n : ℕ) (c : Connection) → Others n → open_connection s n ≡ Some c
      → open_connection t n ≡ Some c

-- all connections, and all but one
abbrev pub Everyone : ℕ → Type 0
Everyone n = Unit {0}

abbrev pub NotThis : ℕ → ℕ → Type 0
NotThis conn n = n ≡ conn → ⊥

-- entries that don't answer the user come after it
pub unheard-more : (user : ℕ) (live more : List Entry) → Unheard user live
    → ((at n : ℕ) → at < n → answers_from user at n more ≡ []) → Unheard user (live ++ more)
unheard-more user [] more h none = absurd (omega (arith, h.base))
unheard-more user (x ∷ live) more h none =
    let at = carried_by x.msg in
    let base : at < suc (length live) = h.base in
    record {
      base = omega (arith, length-append live more, base);
      none = answers-append user at 0 (x ∷ live) more
          ∙ ap (λ ms. answers_from user at 0 (x ∷ live) ++ ms)
          (none at (0 + suc (length live)) (omega (arith, base)))
          ∙ append-nil (answers_from user at 0 (x ∷ live)) ∙ h.none;
    }

-- what is carried into an epoch answers nobody, what was kept of a user's own among it
unheard-opening : (user epoch : ℕ) (history : List Entry) (present : List ℕ) (commands : List Draw)
    (kept : List Entry) → Unheard user (opening epoch history present commands kept)
unheard-opening user epoch history present commands kept =
    let rest = carried_entries history present commands kept in
    record {
      base = omega arith;
      none = answers-before user (length rest) 0 (opening epoch history present commands kept)
          (omega arith);
    }

pub passes-not : (s : State) (Others : ℕ → Type 0) → HasPeople s → Passes s Others s
passes-not s Others h = record {
  people = h;
  epochs = omega arith;
  same = λ is. record {
    more = [];
    live = sym (append-nil s.live);
    strange = λ n c other is. tt;
  };
  later = λ less. absurd (omega (arith, less));
  stay = λ n c other is. is;
}

grown-both : (s t u : State) (Others : ℕ → Type 0)
    → ((n : ℕ) (c : Connection) → Others n → open_connection s n ≡ Some c
    → open_connection t n ≡ Some c)
    → Grown s Others t → Grown t Others u → Grown s Others u
grown-both s t u Others stay h k = record {
  more = h.more ++ k.more;
  live = k.live ∙ ap (λ live. live ++ k.more) h.live ∙ append_assoc s.live h.more k.more;
  strange = λ n c other is. none-append c.user h.more k.more (h.strange n c other is)
      (k.strange n c other (stay n c other is));
}

pub passes-both : (s t u : State) (Others : ℕ → Type 0) → Passes s Others t → Passes t Others u
    → Passes s Others u
passes-both s t u Others h k = record {
  people = k.people;
  epochs = omega (arith, h.epochs, k.epochs);
  same = λ is. grown-both s t u Others h.stay
      (h.same (omega (arith, is, h.epochs, k.epochs)))
      (k.same (omega (arith, is, h.epochs, k.epochs)));
  later = λ less n c other is.
      ⊎_elim (λ (same : epoch_of u ≡ epoch_of t).
      let before = h.later (omega (arith, same, less)) n c other is in
      let grown = k.same same in
      subst (Unheard c.user) (sym grown.live) (unheard-more c.user t.live grown.more before
      (λ at m below. answers-none c.user at m grown.more
      (grown.strange n c other (h.stay n c other is)))))
      (λ (ne : epoch_of u ≡ epoch_of t → ⊥).
      k.later (omega (arith, ne, k.epochs)) n c other (h.stay n c other is))
      (cases_eq (epoch_of u) (epoch_of t));
  stay = λ n c other is. k.stay n c other (h.stay n c other is);
}

-- ---- what a connection's message makes of it

-- the message is an acknowledgement of the epoch
abbrev pub is_ack : ℕ → Msg → Bool
is_ack epoch (msg.Control (control.Ack other)) = other == epoch
is_ack epoch m = false

-- the message is the user's own affair, and has an answer
abbrev pub is_send : Msg → Bool
is_send (msg.Control m) = false
is_send (msg.Part command) = false
is_send m = true

-- the message, if it is such a one and the connection has taken up the live epoch
abbrev pub sends_of : Bool → Msg → List Msg
sends_of ready m = if ready && is_send m then m ∷ [] else []

-- the epoch is the same: entries stand after the live history, and of them those that may answer
-- the user answer the message
pub record HeardHere (s : State) (c : Connection) (m : Msg) (u : State) (d : Connection) : Type 0
  where
    pub more : List Entry
    pub live : u.live ≡ s.live ++ more
    pub ready : has_acknowledged u d ≡ (has_acknowledged s c || is_ack (epoch_of s) m)
    pub answers : (at n : ℕ) → at < n
        → Answer (answers_from c.user at n more) (sends_of (has_acknowledged s c) m)

-- the connection after its message
pub record Hears (s : State) (conn : ℕ) (c : Connection) (m : Msg) (u : State) : Type 0 where
  pub connection : Connection
  pub found : open_connection u conn ≡ Some connection
  pub user : connection.user ≡ c.user
  pub epochs : epoch_of s ≤ epoch_of u
  pub same : epoch_of u ≡ epoch_of s → HeardHere s c m u connection
  pub later : epoch_of s < epoch_of u
      → (connection ≡ c) × ((user : ℕ) → Unheard user u.live)

may-permitted : (h : List Entry) (user : ℕ) (m : Msg) → permitted h user m ≡ true
    → may_answer m ≡ true
may-permitted h user (msg.Meta (meta.Join registered name)) may = cc
may-permitted h user (msg.Meta meta.Leave) may = cc
may-permitted h user (msg.Meta (meta.Filtered kind)) may = cc
may-permitted h user m may = refl

-- ---- what a message is, by what becomes of it

-- a send has a kind from 32 on
abbrev pub IsHigh : Msg → Type 0
IsHigh (msg.Control m) = Unit {0}
IsHigh (msg.Part command) = Unit {0}
IsHigh m = 32 ≤ kind_of m

high-kind : (m : Msg) → IsHigh m → is_send m ≡ true → 32 ≤ kind_of m
high-kind (msg.Control m) high send = cc
high-kind (msg.Part command) high send = cc
high-kind m high send = high

low-kind : (m : Msg) → is_send m ≡ false → nat_le 32 (kind_of m) ≡ false
low-kind (msg.Control (control.Hello name)) send = refl
low-kind (msg.Control m) send = refl
low-kind (msg.Part command) send = refl
low-kind m send = cc

-- What is ignored is no acknowledgement that counts, and no send of a connection that has taken up
-- the epoch. That epoch is acknowledged, and what is placed is a send.
abbrev pub IsOf : State → Connection → Msg → Decision → Type 0
IsOf s c m decision.Ignore =
    ((has_acknowledged s c || is_ack (epoch_of s) m) ≡ has_acknowledged s c)
    × ((has_acknowledged s c && is_send m) ≡ false)
IsOf s c m decision.Acknowledge = is_ack (epoch_of s) m ≡ true
IsOf s c m decision.Place = is_send m ≡ true
IsOf s c m other = Unit {0}

ignored-ack : (a b : Bool) → (a && not b) ≡ false → (b || a) ≡ b
ignored-ack true true is = refl
ignored-ack true false is = cc
ignored-ack false b is = or-false b

module _ (s : State) (conn : ℕ) (c : Connection) where
  asked-is : (m : Msg) (d : Decision) → is_ack (epoch_of s) m ≡ false → IsOf s c m d
      → IsOf s c m (if has_acknowledged s c then d else decision.Ignore)
  asked-is m d ack h =
      cond_both (has_acknowledged s c) d decision.Ignore (IsOf s c m) (λ ready. h)
      (λ late. (
        ap (λ a. has_acknowledged s c || a) ack ∙ or-false (has_acknowledged s c),
        ap (λ b. b && is_send m) late,
      ))

  part-is : (command : Draw) (o : Option (List Draw))
      → IsOf s c (msg.Part command) (part_decided command o)
  part-is command None = tt
  part-is command (Some commands) =
      cond_both (fits_reset commands command) decision.AddPart decision.DropReset
      (IsOf s c (msg.Part command)) (λ fits. tt) (λ full. tt)

  pub decided-is : (m : Msg) → IsOf s c m (decided s conn c m)
  decided-is (msg.Control (control.Ping pong)) =
      (or-false (has_acknowledged s c), and-false (has_acknowledged s c))
  decided-is (msg.Control (control.Disconnect reason)) =
      (or-false (has_acknowledged s c), and-false (has_acknowledged s c))
  decided-is (msg.Control (control.Ack epoch)) =
      let b = has_acknowledged s c in
      cond_both (epoch == epoch_of s && not b) decision.Acknowledge decision.Ignore
      (IsOf s c (msg.Control (control.Ack epoch)))
      (λ yes. (and_parts (epoch == epoch_of s) (not b) yes).0)
      (λ no. (ignored-ack (epoch == epoch_of s) b no, and-false b))
  decided-is (msg.Control control.ResetBegin) =
      let m = msg.Control control.ResetBegin in
      asked-is m (heard s conn c m) refl
      (cond_both (may_begin s conn c) decision.BeginReset decision.Filter (IsOf s c m) (λ yes. tt)
      (λ no. tt))
  decided-is (msg.Control control.ResetEnd) =
      let m = msg.Control control.ResetEnd in
      asked-is m (heard s conn c m) refl
      (cond_both (is_some (reset_of s conn c)) decision.OpenEpoch decision.Filter (IsOf s c m)
      (λ yes. tt) (λ no. tt))
  decided-is (msg.Control (control.ResetFrom at)) =
      let m = msg.Control (control.ResetFrom at) in
      asked-is m (heard s conn c m) refl
      (cond_both (may_begin s conn c && nat_le at (length s.live)) decision.BeginReset
      decision.Filter (IsOf s c m) (λ yes. tt) (λ no. tt))
  decided-is (msg.Control m) = asked-is (msg.Control m) decision.Filter refl tt
  decided-is (msg.Part command) =
      asked-is (msg.Part command) (part_decided command (reset_of s conn c)) refl
      (part-is command (reset_of s conn c))
  decided-is m =
      asked-is m (judged s c m) refl
      (cond_both (permitted s.live c.user m) decision.Place decision.Filter (IsOf s c m)
      (λ may. refl) (λ no. tt))

-- ---- what a decision makes of the connection

-- what begins a reset is no send
begin-mute : (place : Option ℕ) → is_send (begin_message place) ≡ false
begin-mute None = refl
begin-mute (Some at) = refl

module _ (s : State) (conn : ℕ) (c : Connection) (m : Msg)
    (found : open_connection s conn ≡ Some c) where
  -- the state after the effect of a decision
  abbrev by_decision : Decision → State
  by_decision d = noted s (made s (event.Say conn m) (effect_by conn c d))

  -- the epoch and the connection stay, and the history grows by entries that answer so
  hears-here : (u : State) (more : List Entry) → u.ended ≡ s.ended → u.connections ≡ s.connections
      → u.live ≡ s.live ++ more
      → (has_acknowledged s c || is_ack (epoch_of s) m) ≡ has_acknowledged s c
      → ((at n : ℕ) → at < n
      → Answer (answers_from c.user at n more) (sends_of (has_acknowledged s c) m))
      → Hears s conn c m u
  hears-here u more ended connections live ready answers = record {
    connection = c;
    found = ap (λ cs. open_in cs conn) connections ∙ found;
    user = refl;
    epochs = omega (arith, ap length ended);
    same = λ same. record {
      more = more;
      live = live;
      ready = ap (λ n. c.acknowledged == n) same ∙ sym ready;
      answers = answers;
    };
    later = λ less. absurd (omega (arith, less, ap length ended));
  }

  -- a connection that has taken up the epoch says what is no send
  module _ (ready : has_acknowledged s c ≡ true) (send : is_send m ≡ false) where
    ready-stays : (has_acknowledged s c || is_ack (epoch_of s) m) ≡ has_acknowledged s c
    ready-stays = ap (λ b. b || is_ack (epoch_of s) m) ready ∙ sym ready

    no-sends : (ms : List Msg) → ms ≡ [] → Answer ms (sends_of (has_acknowledged s c) m)
    no-sends ms none =
        subst (λ ns. Answer ns (sends_of (has_acknowledged s c) m)) (sym none)
        (subst (λ b. Answer [] (if b then m ∷ [] else []))
        (sym (ap (λ a. has_acknowledged s c && a) send ∙ and-false (has_acknowledged s c))) tt)

    hears-noted : (u : State) → u.ended ≡ s.ended → u.connections ≡ s.connections
        → u.live ≡ s.live ++ [] → Hears s conn c m u
    hears-noted u ended connections live =
        hears-here u [] ended connections live ready-stays (λ at n below. no-sends [] refl)

    hears-mute : (u : State) → u.ended ≡ s.ended → u.connections ≡ s.connections
        → u.live ≡ s.live ++ filtered_entry c.user m ∷ [] → Hears s conn c m u
    hears-mute u ended connections live =
        let entry = filtered_entry c.user m in
        hears-here u (entry ∷ []) ended connections live ready-stays
        (λ at n below. no-sends (answers_from c.user at n (entry ∷ []))
        (answers-none c.user at n (entry ∷ []) (none-mute c.user entry [] (low-kind m send) tt)))

  -- the user's own entry answers a send
  hears-answered : (u : State) (answer : Msg) → u.ended ≡ s.ended
      → u.connections ≡ s.connections → u.live ≡ s.live ++ entry_of c.user answer ∷ []
      → has_acknowledged s c ≡ true → is_send m ≡ true → may_answer answer ≡ true
      → AnswersTo answer m → Hears s conn c m u
  hears-answered u answer ended connections live ready send may answers =
      let entry = entry_of c.user answer in
      hears-here u (entry ∷ []) ended connections live
      (ap (λ b. b || is_ack (epoch_of s) m) ready ∙ sym ready)
      (λ at n below.
      let one : answers_from c.user at n (entry ∷ []) ≡ answer ∷ [] =
      answers-one c.user at n answer may below in
      let yes : (has_acknowledged s c && is_send m) ≡ true =
      ap (λ b. b && is_send m) ready ∙ send in
      subst (λ ms. Answer ms (sends_of (has_acknowledged s c) m)) (sym one)
      (subst (λ b. Answer (answer ∷ []) (if b then m ∷ [] else [])) (sym yes) (answers, tt)))

  -- the epoch is taken up
  hears-takes : is_ack (epoch_of s) m ≡ true → has_acknowledged s c ≡ false
      → Hears s conn c m (by_decision decision.Acknowledge)
  hears-takes ack late =
      let d : Connection = record c { acknowledged = epoch_of s } in
      let h = open_is_found s.connections conn c found in
      record {
        connection = d;
        found = found_is_open (slice_set s.connections (conn - 1) d) conn d
            (numbered-same s.connections conn c d h.0) h.1;
        user = refl;
        epochs = omega arith;
        same = λ same. record {
          more = [];
          live = refl;
          ready = eq-eqb (epoch_of s) (epoch_of s) refl
              ∙ sym (ap (λ b. b || is_ack (epoch_of s) m) late ∙ ack);
          answers = λ at n below. subst (λ b. Answer [] (if b then m ∷ [] else []))
              (sym (ap (λ b. b && is_send m) late)) tt;
        };
        later = λ less. absurd (omega (arith, less));
      }

  -- the next epoch opens
  hears-opened : Hears s conn c m (by_decision decision.OpenEpoch)
  hears-opened = record {
    connection = c;
    found = found;
    user = refl;
    epochs = omega (arith, length-append s.ended (s.live ∷ []));
    same = λ same. absurd (omega (arith, same, length-append s.ended (s.live ∷ [])));
    later = λ less. (
      refl,
      λ user. unheard-opening user (epoch_of s + 1) s.live (present_users s)
          (sent_commands s.stream) (kept_by s.stream s.live),
    );
  }

  hears-decision : (d : Decision) → IsHigh m → IsOf s c m d
      → IsEffect s (event.Say conn m) (effect_by conn c d) → Hears s conn c m (by_decision d)
  hears-decision decision.Ignore high is cause =
      hears-here (by_decision decision.Ignore) [] refl refl refl is.0
      (λ at n below. subst (λ b. Answer [] (if b then m ∷ [] else [])) (sym is.1) tt)
  hears-decision decision.Acknowledge high is cause = hears-takes is cause.1
  hears-decision decision.Place high is cause =
      hears-answered (by_decision decision.Place) m refl refl refl cause.1 is
      (may-permitted s.live c.user m cause.2) (inr refl)
  hears-decision decision.Filter high is cause =
      let u = by_decision decision.Filter in
      ⊎_elim (λ (send : is_send m ≡ true).
      hears-answered u (msg.Meta (meta.Filtered (kind_of m))) refl refl refl cause.1 send
      (le-leb 32 (kind_of m) (high-kind m high send)) (inl refl))
      (λ (other : is_send m ≡ false). hears-mute cause.1 other u refl refl refl)
      (cases_Bool (is_send m))
  hears-decision decision.BeginReset high is cause =
      hears-noted cause.1.acknowledged (ap is_send cause.1.is ∙ begin-mute cause.0)
      (by_decision decision.BeginReset) refl refl refl
  hears-decision decision.AddPart high is cause =
      hears-noted cause.1.acknowledged (ap is_send cause.1.is) (by_decision decision.AddPart) refl
      refl refl
  hears-decision decision.DropReset high is cause =
      hears-mute cause.1.acknowledged (ap is_send cause.1.is) (by_decision decision.DropReset) refl
      refl refl
  hears-decision decision.OpenEpoch high is cause = hears-opened

-- ---- ids

-- what is found among numbers is among them, and passes
find-passes : (p : ℕ → Bool) (low n k : ℕ) → find p (range_with_len low n) ≡ Some k
    → (low ≤ k) × (p k ≡ true)
find-passes p low zero k found = cc
find-passes p low (suc n) k found =
    ⊎_elim (λ (here : p low ≡ true).
    let e : Some low ≡ Some k = sym (ap (λ b. cond b (Some low)
    (find p (range_with_len (low + 1) n))) here) ∙ found in
    let same : low ≡ k = cc in
    (omega arith, ap p (sym same) ∙ here))
    (λ (other : p low ≡ false).
    let h = find-passes p (low + 1) n k (sym (ap (λ b. cond b (Some low)
    (find p (range_with_len (low + 1) n))) other) ∙ found) in
    (omega (arith, h.0), h.1))
    (cases_Bool (p low))

free-id : (s : State) (user : ℕ) → free_id s ≡ Some user → (1 ≤ user) × (is_present s user ≡ false)
unfolding user_ids
free-id s user is =
    let h = find-passes (λ k. not (is_present s k)) 1 254 user is in
    (h.0, not-true (is_present s user) h.1)

-- none of the items at numbers passes if none does
none-at : (p : Connection → Bool) (cs : List Connection) (i : ℕ) (x : Connection)
    → list_any p cs ≡ false
    → slice_get cs i ≡ Some x → p x ≡ false
none-at p [] i x none is = cc
none-at p (c ∷ cs) zero x none is =
    let same : c ≡ x = cc in subst (λ y. p y ≡ false) same (or_parts (p c) (list_any p cs) none).0
none-at p (c ∷ cs) (suc i) x none is = none-at p cs i x (or_parts (p c) (list_any p cs) none).1 is

-- an id that no one holds is of no open connection
fresh-id : (s : State) (user : ℕ) → is_present s user ≡ false
    → (n : ℕ) (x : Connection) → open_connection s n ≡ Some x → x.user ≡ user → ⊥
fresh-id s user none n x is same =
    let h = open_is_found s.connections n x is in
    let at = number-found s.connections n x h.0 in
    let no : (is_open x && x.user == user) ≡ false =
    none-at (λ c. is_open c && c.user == user) s.connections (n - 1) x none at.1 in
    let e : true ≡ false = sym (ap (λ b. b && x.user == user) h.1 ∙ eq-eqb x.user user same)
    ∙ no in cc

-- ---- effects

-- the connections that an event is none of
abbrev pub Spares : Event → ℕ → Type 0
Spares (event.Open name registered) n = Unit {0}
Spares (event.Say conn m) n = n ≡ conn → ⊥
Spares (event.Close conn) n = n ≡ conn → ⊥

effect-people : (s : State) (e : Event) (effect : Effect) → IsEffect s e effect → HasPeople s
    → ArePeople (length (ended_after s effect)) (connections_after s effect)
effect-people s e (TakesUp conn c) cause h =
    let d : Connection = record c { acknowledged = epoch_of s } in
    people-from (epoch_of s) (epoch_of s) s.connections (slice_set s.connections (conn - 1) d)
    (λ n x is.
    ⊎_elim (λ (new : (n ≡ conn) × (x ≡ d)). record {
      old = c;
      found = ap (λ k. open_in s.connections k) new.0 ∙ cause.0.at.found;
      user = ap (λ y. y.user) new.1;
      known = omega (arith, ap (λ y. y.acknowledged) new.1);
    })
    (λ (old : open_in s.connections n ≡ Some x).
    record { old = x; found = old; user = refl; known = h.connections.known n x old })
    (changed_is_open s.connections conn c d n x cause.0.at.found is))
    h.connections
effect-people s e (Joined user next) cause h =
    let free = free-id s user cause.free in
    people-more (epoch_of s) s.connections (new_connection s user) free.0 refl
    (fresh-id s user free.1) h.connections
effect-people s e (Left conn c next) cause h =
    let d : Connection = record c { ending = ending.Left (here s) } in
    people-from (epoch_of s) (epoch_of s) s.connections (slice_set s.connections (conn - 1) d)
    (λ n x is.
    ⊎_elim (λ (new : (n ≡ conn) × (x ≡ d)).
    let up : is_open d ≡ true =
    subst (λ y. is_open y ≡ true) new.1
    (open_is_found (slice_set s.connections (conn - 1) d) n x is).1 in
    absurd (false≢true up))
    (λ (old : open_in s.connections n ≡ Some x).
    record { old = x; found = old; user = refl; known = h.connections.known n x old })
    (changed_is_open s.connections conn c d n x cause.at.found is))
    h.connections
effect-people s e (Reopened conn c) cause h =
    people-from (epoch_of s) (length (s.ended ++ s.live ∷ [])) s.connections s.connections
    (λ n x is. record {
      old = x;
      found = is;
      user = refl;
      known = omega
          (arith, length-append s.ended (s.live ∷ []), h.connections.known n x is);
    })
    h.connections
effect-people s e effect cause h = h.connections

effect-server : (s : State) (e : Event) (effect : Effect) → IsServerFirst s.live
    → IsServerFirst (live_after s e effect)
effect-server s e (Reopened conn c) h = refl
effect-server s e effect h = server-more s.live (entries_of e effect) h

effect-stay : (s : State) (e : Event) (effect : Effect) → IsEffect s e effect
    → (n : ℕ) (x : Connection) → Spares e n → open_connection s n ≡ Some x
    → open_in (connections_after s effect) n ≡ Some x
effect-stay s e (TakesUp conn c) cause n x other is =
    other_stays_open s.connections conn c (record c { acknowledged = epoch_of s }) n x
    cause.0.at.found (subst (λ k. Spares k n) cause.0.came other) is
effect-stay s e (Joined user next) cause n x other is =
    let d = new_connection s user in
    let f = open_is_found s.connections n x is in
    found_is_open (s.connections ++ d ∷ []) n x (numbered-old s.connections (d ∷ []) n x f.0) f.1
effect-stay s e (Left conn c next) cause n x other is =
    other_stays_open s.connections conn c (record c { ending = ending.Left (here s) }) n x
    cause.at.found (subst (λ k. Spares k n) cause.came other) is
effect-stay s e effect cause n x other is = is

none-owner : (user : ℕ) (o : Option ℕ) → 1 ≤ user → NoAnswers user (next_owner o)
none-owner user None above = tt
none-owner user (Some owner) above =
    none-other user (server_entry (meta.Owners (owner ∷ []))) [] (λ same. omega arith) tt

-- what a user says is no answer of another's
none-said : (s : State) (e : Event) (conn : ℕ) (c : Connection) (d : Decision) (entry : Entry)
    → IsSaid s e conn c d → entry.user ≡ c.user → HasPeople s
    → (n : ℕ) (x : Connection) → Spares e n → open_connection s n ≡ Some x
    → NoAnswers x.user (entry ∷ [])
none-said s e conn c d entry said whose h n x other is =
    let far : n ≡ conn → ⊥ = subst (λ k. Spares k n) said.came other in
    none-other x.user entry []
    (λ same. far (h.connections.apart n conn x c is said.at.found (sym same ∙ whose))) tt

effect-strange : (s : State) (e : Event) (effect : Effect) → IsEffect s e effect → HasPeople s
    → (n : ℕ) (x : Connection) → Spares e n → open_connection s n ≡ Some x
    → NoAnswers x.user (entries_of e effect)
effect-strange s e (Placed conn c) cause h n x other is =
    none-said s e conn c decision.Place (entry_of c.user (own_message e)) cause.0 refl h n x other
    is
effect-strange s e (Filtered conn c) cause h n x other is =
    none-said s e conn c decision.Filter (filtered_entry c.user (own_message e)) cause.0 refl h n x
    other is
effect-strange s e (Joined user next) cause h n x other is =
    subst (λ m. NoAnswers x.user (entry_of user m ∷ next_owner next))
    (sym (ap own_message cause.came))
    (none-mute x.user (entry_of user (msg.Meta (meta.Join cause.registered cause.name)))
    (next_owner next) refl (none-owner x.user next (h.connections.users n x is)))
effect-strange s e (Left conn c next) cause h n x other is =
    none-mute x.user (entry_of c.user (msg.Meta meta.Leave)) (next_owner next) refl
    (none-owner x.user next (h.connections.users n x is))
effect-strange s e (Dropped conn c) cause h n x other is =
    none-said s e conn c decision.DropReset (filtered_entry c.user (own_message e)) cause.1.said
    refl h n x other is
effect-strange s e effect cause h n x other is = tt

effect-grown : (s : State) (e : Event) (effect : Effect) → IsEffect s e effect → HasPeople s
    → length (ended_after s effect) ≡ epoch_of s → Grown s (Spares e) (noted s (made s e effect))
effect-grown s e (Reopened conn c) cause h same =
    absurd (omega (arith, same, length-append s.ended (s.live ∷ [])))
effect-grown s e effect cause h same = record {
  more = entries_of e effect;
  live = refl;
  strange = effect-strange s e effect cause h;
}

effect-later : (s : State) (e : Event) (effect : Effect)
    → epoch_of s < length (ended_after s effect)
    → (user : ℕ) → Unheard user (live_after s e effect)
effect-later s e (Reopened conn c) less user =
    unheard-opening user (epoch_of s + 1) s.live (present_users s) (sent_commands s.stream)
    (kept_by s.stream s.live)
effect-later s e effect less user = absurd (omega (arith, less))

effect-epochs : (s : State) (effect : Effect) → epoch_of s ≤ length (ended_after s effect)
effect-epochs s (Reopened conn c) = omega (arith, length-append s.ended (s.live ∷ []))
effect-epochs s effect = omega arith

passes-effect : (s : State) (e : Event) (effect : Effect) → IsEffect s e effect → HasPeople s
    → Passes s (Spares e) (noted s (made s e effect))
passes-effect s e effect cause h = record {
  people = record {
    connections = effect-people s e effect cause h;
    server = effect-server s e effect h.server;
  };
  epochs = effect-epochs s effect;
  same = effect-grown s e effect cause h;
  later = λ less n c other is. effect-later s e effect less c.user;
  stay = effect-stay s e effect cause;
}

-- Its connection is open, of the user, and has taken up the live epoch, in which the Join stands.
-- No answer of the user's stands after that.
pub record Welcomes (conn user epoch at : ℕ) (t : State) : Type 0 where
  pub connection : Connection
  pub found : open_connection t conn ≡ Some connection
  pub whose : connection.user ≡ user
  pub ready : has_acknowledged t connection ≡ true
  pub opened : epoch ≡ epoch_of t
  pub base : at < length t.live
  pub none : answers_from user at 0 t.live ≡ []

-- what the answer to an Open says
abbrev pub Tells : State → State → Reply → Type 0
Tells s t (reply.Opened conn user epoch at) = Welcomes conn user epoch at t
Tells s t other = Unit {0}

pub record Opens (s : State) (r : Reply) (t : State) : Type 0 where
  pub passes : Passes s Everyone t
  pub tells : Tells s t r

still-tells : (s t : State) (e : Event) (r : Reply) → IsStill s e r → Tells s t r
still-tells s t e (reply.Opened conn user epoch at) still = absurd still
still-tells s t e r still = tt

effect-tells : (s : State) (e : Event) (effect : Effect) → IsEffect s e effect
    → Tells s (noted s (made s e effect)) (answer_of s effect)
effect-tells s e (Nothing answer) cause =
    still-tells s (noted s (made s e (Nothing answer))) e answer cause
effect-tells s e (Joined user next) cause =
    let join = entry_of user (own_message e) in
    let more : List Entry = join ∷ next_owner next in
    let d = new_connection s user in
    let above = (free-id s user cause.free).0 in
    let mute : NoAnswers user more =
    subst (λ m. NoAnswers user (entry_of user m ∷ next_owner next))
    (sym (ap own_message cause.came))
    (none-mute user (entry_of user (msg.Meta (meta.Join cause.registered cause.name)))
    (next_owner next) refl (none-owner user next above)) in
    record {
      connection = d;
      found = found_is_open (s.connections ++ d ∷ []) (length s.connections + 1) d
          (numbered-new s.connections d) refl;
      whose = refl;
      ready = eq-eqb (epoch_of s) (epoch_of s) refl;
      opened = refl;
      base = omega (arith, length-append s.live more);
      none = answers-same user (length s.live) s.live more mute
          ∙ answers-before user (length s.live) 0 s.live (omega arith);
    }
effect-tells s e effect cause = tt

-- ---- where one more event leads

-- the laws of sessions and of messages that are used
pub record Leading : Type 0 where
  pub moves : InstructionsAreMoves
  pub decisions : DecisionsHaveEffects
  pub effect_made : EffectsAreMade
  pub on_kept : (past : Past) (e : Event) → ShutBefore past
      → state_of (kept past e) ≡ after_event (state_of past) e
  pub before : (past : Past) (e : Event) → ShutBefore past → ShutBefore (sure_step past e)
  pub effects : EventsHaveEffects
  pub marked : (past : Past) → AreHistories (state_of past)
  pub same : (m : Msg) → same_message m m ≡ true
  pub taking : EntriesAreTaken

-- the event was not answered Ended
abbrev pub NotEnded : Past → Event → Type 0
NotEnded past e = sure_answer past e ≡ reply.Ended → ⊥

step-room : (past : Past) (e : Event) → NotEnded past e → has_room past.journal e ≡ true
step-room past e goes = by_room (has_room past.journal e) refl
  where
    by_room : (b : Bool) → has_room past.journal e ≡ b → b ≡ true
    by_room true is = refl
    by_room false is = absurd (goes (ap (λ b. if b then answer_to past e else reply.Ended) is))

step-kept : Leading → (past : Past) (e : Event) → ShutBefore past → NotEnded past e
    → state_of (sure_step past e) ≡ after_event (state_of past) e
step-kept laws past e before goes =
    ap (λ b. state_of (if b then kept past e else refused past e)) (step-room past e goes)
    ∙ laws.on_kept past e before

passes-step : Leading → (past : Past) (e : Event) → ShutBefore past → NotEnded past e
    → HasPeople (state_of past)
    → Passes (state_of past) (Spares e) (state_of (sure_step past e))
passes-step laws past e before goes people =
    let s = state_of past in
    let h = laws.effects s e in
    subst (Passes s (Spares e)) (sym (step-kept laws past e before goes))
    (subst (λ a. Passes s (Spares e) (noted s a)) (sym h.made)
    (passes-effect s e h.effect h.cause people))

pub passes-say : Leading → (past : Past) (conn : ℕ) (m : Msg) → ShutBefore past
    → NotEnded past (event.Say conn m) → HasPeople (state_of past)
    → Passes (state_of past) (NotThis conn) (state_of (sure_step past (event.Say conn m)))
passes-say laws past conn m before goes people =
    passes-step laws past (event.Say conn m) before goes people

pub passes-close : Leading → (past : Past) (conn : ℕ) → ShutBefore past
    → NotEnded past (event.Close conn) → HasPeople (state_of past)
    → Passes (state_of past) (NotThis conn) (state_of (sure_step past (event.Close conn)))
passes-close laws past conn before goes people =
    passes-step laws past (event.Close conn) before goes people

pub hears-say : Leading → (past : Past) (conn : ℕ) (m : Msg) (c : Connection) → ShutBefore past
    → NotEnded past (event.Say conn m) → open_connection (state_of past) conn ≡ Some c → IsHigh m
    → Hears (state_of past) conn c m (state_of (sure_step past (event.Say conn m)))
hears-say laws past conn m c before goes found high =
    let s = state_of past in
    let d = decided s conn c m in
    let cause = laws.decisions s conn c m found in
    subst (Hears s conn c m)
    (sym (step-kept laws past (event.Say conn m) before goes
    ∙ ap (noted s) (laws.effect_made s (event.Say conn m) (effect_by conn c d) cause)))
    (hears-decision s conn c m found d high (decided-is s conn c m) cause)

pub opens-open : Leading → (past : Past) (name : List ℕ) (registered : Bool) → ShutBefore past
    → NotEnded past (event.Open name registered) → HasPeople (state_of past)
    → Opens (state_of past) (sure_answer past (event.Open name registered))
    (state_of (sure_step past (event.Open name registered)))
opens-open laws past name registered before goes people =
    let e = event.Open name registered in
    let s = state_of past in
    let h = laws.effects s e in
    let answer : answer_to past e ≡ sure_answer past e =
    sym (ap (λ b. if b then answer_to past e else reply.Ended) (step-room past e goes)) in
    subst (λ r. Opens s r (state_of (sure_step past e))) answer
    (subst (Opens s (answer_to past e)) (sym (step-kept laws past e before goes))
    (subst (λ a. Opens s a.reply (noted s a)) (sym h.made) (record {
      passes = passes-effect s e h.effect h.cause people;
      tells = effect-tells s e h.effect h.cause;
    })))
