-- What is true of a client and the answers to its sends, and that its instructions keep it so.
use Rattle.std.proofs.Common.{◌≡◌, ◌⊎◌, ℕ, suc, ◌+◌, ◌<◌, ◌≤◌, ◌==◌, Bool, true, false, ◌&&◌, ◌||◌}
use Rattle.std.proofs.Common.{if◌then◌else◌, List, [], ◌∷◌, ◌++◌, length, take, drop, Option, None}
use Rattle.std.proofs.Common.{Some, is_some, refl, sym, ap, subst, ◌∙◌, ⊎_elim, inl, inr, arith}
use Rattle.std.proofs.Common.{append-nil, append_assoc, length-append, add-one}
use Rattle.std.specs.Prelude.{nat_lt}
use Rattle.std.specs.List.{slice_get, AllByRecursion}
use Rattle.std.proofs.lemmas.Bool.{cases_Bool, cases_eq, ne_eqb}
use Rattle.std.proofs.lemmas.List.{drop-append-le}
use Rattle.dp_msg_meta.specs.declared.message.Control.TheVariants.{Disconnect, Ack}
use Rattle.dp_showing.specs.Resets.{client_reset}
use Rattle.dp_snap.specs.Snapshot.{snapshot}
use Rattle.dp_messages.specs.declared.message.Msg.{Msg}
use Rattle.dp_messages.specs.declared.message.Msg.TheVariants as msg
use Rattle.dp_messages.specs.declared.message.Entry.{Entry}
use Rattle.dp_messages.specs.Properties.{is_disconnect, is_filtered, carried_by, carried_in}
use Rattle.dp_messages.specs.Equality.{same_message}
use Rattle.dp_client.specs.Client as client
use Rattle.dp_client.specs.Client.{Took, last_before, is_own_answer}
use Rattle.dp_client.specs.Client.{may_answer, answered, own_of, fork_after}
use Rattle.dp_client.specs.Taking.{IsUnderway, with_entry, with_mark}
use Rattle.dp_fork.specs.declared.own.Own.TheVariants.{Stranger, Echo, Dropped, Lost}
use Rattle.dp_epochs.specs.declared.connection.Connection.{Connection}
use Rattle.dp_epochs.specs.declared.event.Event.TheVariants as event
use Rattle.dp_epochs.specs.declared.event.Reply.{Reply}
use Rattle.dp_epochs.specs.declared.event.Reply.TheVariants as reply
use Rattle.dp_epochs.specs.State.{State, open_connection, has_acknowledged, epoch_of, history_of}
use Rattle.dp_epochs.specs.Past.{state_of, sure_step}
use Rattle.dp_epochs.specs.Laws.{ShutBefore}
use Rattle.dp_schedule.specs.declared.action.Instruction.{Instruction}
use Rattle.dp_sim.specs.declared.participant.LinkState.TheVariants.{Connected, Leaving, Closed}
use Rattle.dp_sim.specs.Exchanges.{Participant, Exchange, heard, next_entry, acks, took_next}
use Rattle.dp_sim.specs.Exchanges.{exchanged}
use Rattle.dp_sim.specs.Invariant.{IsParticipant, IsSayable, is_closed}
use Rattle.dp_sim.specs.Moves.{Queued, Saying, Resetting, Parting, Move, Rests, Queues, SendsFirst}
use Rattle.dp_sim.specs.Moves.{TakesNext, Closes, queued_messages, forked_messages, link_after}
use Rattle.dp_sim.specs.Moves.{with_queued, after_move, instruction_move, IsQueuedBy, IsMoveBy}
use Rattle.dp_sim.proofs.Marks.{live-is, NextHere, NextLater, next-either}
use Rattle.dp_sim_laws.specs.OwnSteps.{steps_of_move, steps_of_exchange}
use Rattle.dp_sim_laws.specs.Tally.{Tally, no_sends, tally_step, tally_from, move_replies}
use Rattle.dp_sim_laws.specs.Tally.{exchange_replies}
use Rattle.dp_sim_laws.proofs.Answering.{answers_from, answers-append, answers-same}
use Rattle.dp_sim_laws.proofs.Answering.{answers-before, answers-none, answers-push, answers-at}
use Rattle.dp_sim_laws.proofs.Answering.{NoAnswers, AnswersTo, Answer, answer-both, answer-none}
use Rattle.dp_sim_laws.proofs.Answering.{FirstSend, first-of, split-at, drop-first}
use Rattle.dp_sim_laws.proofs.Events.{HasPeople, IsServerFirst, Passes, Grown, NotThis, Unheard}
use Rattle.dp_sim_laws.proofs.Events.{unheard-more, passes-not, passes-both, Hears, HeardHere}
use Rattle.dp_sim_laws.proofs.Events.{is_ack, is_send, sends_of}
use Rattle.dp_sim_laws.proofs.Events.{Leading, NotEnded, passes-say, passes-close, hears-say}
use Rattle.dp_sim_laws.proofs.Uplinks.{due, hears_more, MayStand, HasNoEnd, stands-high, high-send}
use Rattle.dp_sim_laws.proofs.Uplinks.{no-ack, all-later, all-push, due-first, hears-first}
use Rattle.dp_sim_laws.proofs.Uplinks.{all-both, all-reset, reset-messages, due-reset, hears-reset}
use Rattle.dp_sim_laws.proofs.Uplinks.{due-push, hears-push, due-end, due-ack, hears-ack}

-- no reply is Ended
abbrev pub NeverEnds : List Reply → Type 0
NeverEnds replies = AllByRecursion (λ answer. answer ≡ reply.Ended → ⊥) replies

-- The sends of a client of the live epoch: those that the session has heard, each with its own
-- answer in the history, and those that it is to hear from the uplink. Of the answers it has seen
-- those that it has taken.
pub record IsHere (epoch : ℕ) (live : List Entry) (ready : Bool) (p : Participant) (t : Tally)
    : Type 0 where
  pub base : last_before p.state < length live
  pub sent : List Msg
  pub sends : t.sends ≡ sent ++ due epoch ready p.uplink
  pub answered : Answer (answers_from p.state.user (last_before p.state) 0 live) sent
  pub taken : t.answers ≡ length (answers_from p.state.user (last_before p.state) 0 p.state.taken)
  pub more : p.link ≡ Connected → hears_more epoch ready p.uplink ≡ true

-- a client of an earlier epoch: nothing that it says is heard, nor was since the live one opened
pub record IsLagging (live : List Entry) (ready : Bool) (p : Participant) : Type 0 where
  pub late : ready ≡ false
  pub unheard : Unheard p.state.user live

-- A client that isn't closed: its connection is open, and it is of the live epoch or behind.
pub record Live (s : State) (number : ℕ) (p : Participant) (t : Tally) : Type 0 where
  pub connection : Connection
  pub found : open_connection s number ≡ Some connection
  pub user : connection.user ≡ p.state.user
  pub known : p.state.epoch ≤ epoch_of s
  pub stands : AllByRecursion (MayStand p.state.epoch) p.uplink
  pub endless : p.link ≡ Connected → HasNoEnd p.uplink
  pub here : p.state.epoch ≡ epoch_of s
      → IsHere (epoch_of s) s.live (has_acknowledged s connection) p t
  pub lags : p.state.epoch < epoch_of s → IsLagging s.live (has_acknowledged s connection) p

-- the fork is the sends after as many as answers
pub record Holds (s : State) (number : ℕ) (p : Participant) (t : Tally) : Type 0 where
  pub few : t.answers ≤ length t.sends
  pub fork : p.state.fork ≡ drop t.answers t.sends
  pub live : is_closed p.link ≡ false → Live s number p t

-- ---- events of others

longer : (xs ys zs : List Entry) (n : ℕ) → zs ≡ xs ++ ys → n < length xs → n < length zs
longer xs ys zs n is below = omega (arith, ap length is, length-append xs ys)

here-grown : (epoch : ℕ) (live more now : List Entry) (ready : Bool) (p : Participant) (t : Tally)
    → now ≡ live ++ more → NoAnswers p.state.user more → IsHere epoch live ready p t
    → IsHere epoch now ready p t
here-grown epoch live more now ready p t is strange h =
    let same : answers_from p.state.user (last_before p.state) 0 now
    ≡ answers_from p.state.user (last_before p.state) 0 live =
    ap (answers_from p.state.user (last_before p.state) 0) is
    ∙ answers-same p.state.user (last_before p.state) live more strange in
    record {
      base = longer live more now (last_before p.state) is h.base;
      sent = h.sent;
      sends = h.sends;
      answered = subst (λ ms. Answer ms h.sent) (sym same) h.answered;
      taken = h.taken;
      more = h.more;
    }

lagging-grown : (live more now : List Entry) (ready : Bool) (p : Participant)
    → now ≡ live ++ more → NoAnswers p.state.user more → IsLagging live ready p
    → IsLagging now ready p
lagging-grown live more now ready p is strange h = record {
  late = h.late;
  unheard = subst (Unheard p.state.user) (sym is)
      (unheard-more p.state.user live more h.unheard
      (λ at n below. answers-none p.state.user at n more strange));
}

module _ (s u : State) (Others : ℕ → Type 0) (number : ℕ) (p : Participant) (t : Tally)
    (people : HasPeople s) (passes : Passes s Others u) (other : Others number)
    (h : Live s number p t) where
  -- none of the entries that come while the epoch stays answers the client
  strange-here : (grown : Grown s Others u) → NoAnswers p.state.user grown.more
  strange-here grown = subst (λ user. NoAnswers user grown.more) h.user
      (grown.strange number h.connection other h.found)

  here-passes : p.state.epoch ≡ epoch_of u
      → IsHere (epoch_of u) u.live (has_acknowledged u h.connection) p t
  here-passes at =
      let same : epoch_of u ≡ epoch_of s = omega (arith, at, h.known, passes.epochs) in
      let grown = passes.same same in
      subst (λ epoch. IsHere epoch u.live (h.connection.acknowledged == epoch) p t) (sym same)
      (here-grown (epoch_of s) s.live grown.more u.live (has_acknowledged s h.connection) p t
      grown.live (strange-here grown) (h.here (at ∙ same)))

  lagging-passes : p.state.epoch < epoch_of u
      → IsLagging u.live (has_acknowledged u h.connection) p
  lagging-passes below =
      ⊎_elim (λ (same : epoch_of u ≡ epoch_of s).
      let grown = passes.same same in
      subst (λ epoch. IsLagging u.live (h.connection.acknowledged == epoch) p) (sym same)
      (lagging-grown s.live grown.more u.live (has_acknowledged s h.connection) p grown.live
      (strange-here grown) (h.lags (omega (arith, below, same)))))
      (λ (ne : epoch_of u ≡ epoch_of s → ⊥).
      let less : epoch_of s < epoch_of u = omega (arith, ne, passes.epochs) in
      record {
        late = ne_eqb h.connection.acknowledged (epoch_of u) (λ same. omega
            (arith, same, less, people.connections.known number h.connection h.found));
        unheard = subst (λ user. Unheard user u.live) h.user
            (passes.later less number h.connection other h.found);
      })
      (cases_eq (epoch_of u) (epoch_of s))

  live-passes : Live u number p t
  live-passes = record {
    connection = h.connection;
    found = passes.stay number h.connection other h.found;
    user = h.user;
    known = omega (arith, h.known, passes.epochs);
    stands = h.stands;
    endless = h.endless;
    here = here-passes;
    lags = lagging-passes;
  }

pub holds-passes : (s u : State) (Others : ℕ → Type 0) (number : ℕ) (p : Participant) (t : Tally)
    → HasPeople s → Passes s Others u → Others number → Holds s number p t → Holds u number p t
holds-passes s u Others number p t people passes other h =
    record {
      few = h.few;
      fork = h.fork;
      live = λ here. live-passes s u Others number p t people passes other (h.live here);
    }

-- ---- the events of an exchange

move-passes : Leading → (t : Exchange) (move : Move) → ShutBefore t.past
    → HasPeople (state_of t.past) → NeverEnds (move_replies t move)
    → Passes (state_of t.past) (NotThis t.participant.conn) (state_of (after_move t move).past)
move-passes laws t (SendsFirst m rest) before people goes =
    passes-say laws t.past t.participant.conn m before goes.0 people
move-passes laws t (Closes None) before people goes =
    passes-close laws t.past t.participant.conn before goes.0 people
move-passes laws t (Closes (Some m)) before people goes =
    let e = event.Say t.participant.conn m in
    let said = sure_step t.past e in
    let one = passes-say laws t.past t.participant.conn m before goes.0 people in
    passes-both (state_of t.past) (state_of said) (state_of (after_move t (Closes (Some m))).past)
    (NotThis t.participant.conn) one
    (passes-close laws said t.participant.conn (laws.before t.past e before) goes.1.0 one.people)
move-passes laws t move before people goes =
    passes-not (state_of t.past) (NotThis t.participant.conn) people

pub exchange-passes : Leading → (t : Exchange) (instruction : Instruction) → ShutBefore t.past
    → HasPeople (state_of t.past)
    → NeverEnds (exchange_replies t instruction)
    → Passes (state_of t.past) (NotThis t.participant.conn)
    (state_of (exchanged t instruction).past)
exchange-passes laws t instruction before people goes =
    subst (λ u. Passes (state_of t.past) (NotThis t.participant.conn) (state_of u.past))
    (sym (laws.moves t instruction).made)
    (move-passes laws t (instruction_move t instruction) before people goes)

-- ---- taking

-- the answer to the first send of a fork
own-first : Leading → (fork : List Msg) (m send : Msg) (rest : List Msg) → fork ≡ send ∷ rest
    → AnswersTo m send
    → (answered fork m ≡ Dropped) ⊎ (answered fork m ≡ Echo)
own-first laws fork m send rest is answers =
    ⊎_elim (λ (yes : is_filtered m ≡ true). inl (ap (λ f. answered f m) is
    ∙ ap (λ b. if b then Dropped else if same_message m send then Echo else Lost) yes))
    (λ (no : is_filtered m ≡ false).
    ⊎_elim (λ (yes : is_filtered m ≡ true). let e : true ≡ false = sym yes ∙ no in cc)
    (λ (same : m ≡ send).
    let equal : same_message m send ≡ true = subst (λ n. same_message m n ≡ true) same (laws.same m)
    in
    inr (ap (λ f. answered f m) is
    ∙ ap (λ b. if b then Dropped else if same_message m send then Echo else Lost) no
    ∙ ap (λ b. if b then Echo else Lost) equal))
    answers)
    (cases_Bool (is_filtered m))

-- the send that an own answer answers is the first of the fork
next-first : (epoch : ℕ) (live : List Entry) (ready : Bool) (p : Participant) (t : Tally)
    (entry : Entry) → p.state.taken ≡ take (length p.state.taken) live
    → IsHere epoch live ready p t
    → slice_get live (length p.state.taken) ≡ Some entry → is_own_answer p.state entry ≡ true
    → FirstSend (drop t.answers t.sends) entry.msg
next-first epoch live ready p t entry prefix h there own =
    let c = p.state in
    let at = last_before c in
    let after = drop (suc (length c.taken)) live in
    let whole : live ≡ c.taken ++ entry ∷ after =
    split-at live (length c.taken) entry there ∙ ap (λ xs. xs ++ entry ∷ after) (sym prefix) in
    let before = answers_from c.user at 0 c.taken in
    let more = answers_from c.user at (length c.taken + 1) after in
    let all : answers_from c.user at 0 live ≡ before ++ entry.msg ∷ more =
    ap (answers_from c.user at 0) whole ∙ answers-at c.user at c.taken entry after own in
    let waits = due epoch ready p.uplink in
    let first : FirstSend (drop (length before) (h.sent ++ waits)) entry.msg =
    first-of before entry.msg more h.sent waits (subst (λ ms. Answer ms h.sent) all h.answered)
    in
    subst (λ n. FirstSend (drop n t.sends) entry.msg) (sym h.taken)
    (subst (λ sends. FirstSend (drop (length before) sends) entry.msg) (sym h.sends) first)

-- the tally after an own answer, or another entry
abbrev tally_if : Bool → Tally → Tally
tally_if b t = if b then record t { answers = t.answers + 1 } else t

-- the client that has taken an own answer, or another entry
abbrev participant_if : Bool → Participant → Entry → Participant
participant_if b p entry = record p {
  state = record p.state {
    taken = p.state.taken ++ entry ∷ [];
    fork = fork_after (if b then answered p.state.fork entry.msg else Stranger) p.state.fork;
  };
  uplink = p.uplink ++ [];
}

here-took : (epoch : ℕ) (live : List Entry) (ready : Bool) (p : Participant) (t : Tally)
    (entry : Entry) (b : Bool) → last_before (with_entry p.state entry) ≡ last_before p.state
    → is_own_answer p.state entry ≡ b
    → IsHere epoch live ready p t
    → IsHere epoch live ready (participant_if b p entry) (tally_if b t)
here-took epoch live ready p t entry b stays own h =
    let c = p.state in
    let at = last_before c in
    let push = answers-push c.user at c.taken entry b own in
    record {
      base = omega (arith, stays, h.base);
      sent = h.sent;
      sends = sends b ∙ h.sends ∙ sym (ap (λ ms. h.sent ++ due epoch ready ms)
          (append-nil p.uplink));
      answered = subst (λ n. Answer (answers_from c.user n 0 live) h.sent) (sym stays) h.answered;
      taken = counted b (answers_from c.user at 0 c.taken) h.taken ∙ sym (ap length push)
          ∙ sym (ap (λ n. length (answers_from c.user n 0 (c.taken ++ entry ∷ []))) stays);
      more = λ on. ap (hears_more epoch ready) (append-nil p.uplink) ∙ h.more on;
    }
  where
    sends : (b : Bool) → (tally_if b t).sends ≡ t.sends
    sends true = refl
    sends false = refl

    counted : (b : Bool) (ms : List Msg) → t.answers ≡ length ms
        → (tally_if b t).answers ≡ length (ms ++ (if b then entry.msg ∷ [] else []))
    counted true ms is = omega (arith, is, length-append ms (entry.msg ∷ []))
    counted false ms is = is ∙ sym (ap length (append-nil ms))

live-took : (s : State) (number : ℕ) (p : Participant) (t : Tally) (entry : Entry) (b : Bool)
    → last_before (with_entry p.state entry) ≡ last_before p.state → p.state.epoch ≡ epoch_of s
    → is_own_answer p.state entry ≡ b → Live s number p t
    → Live s number (participant_if b p entry) (tally_if b t)
live-took s number p t entry b stays at own h = record {
  connection = h.connection;
  found = h.found;
  user = h.user;
  known = h.known;
  stands = subst (AllByRecursion (MayStand p.state.epoch)) (sym (append-nil p.uplink)) h.stands;
  endless = λ on. subst HasNoEnd (sym (append-nil p.uplink)) (h.endless on);
  here = λ same. here-took (epoch_of s) s.live (has_acknowledged s h.connection) p t entry b stays
      own (h.here at);
  lags = λ less. absurd (omega (arith, less, at));
}

fork-first : (fork : List Msg) (m send : Msg) (rest : List Msg) → fork ≡ send ∷ rest
    → (answered fork m ≡ Dropped) ⊎ (answered fork m ≡ Echo)
    → fork_after (answered fork m) fork ≡ rest
fork-first fork m send rest is own =
    ⊎_elim (λ (dropped : answered fork m ≡ Dropped). ap (λ o. fork_after o fork) dropped
    ∙ ap (drop 1) is)
    (λ (echo : answered fork m ≡ Echo). ap (λ o. fork_after o fork) echo ∙ ap (drop 1) is) own

holds-own : Leading → (s : State) (number : ℕ) (p : Participant) (t : Tally) (entry : Entry)
    (b : Bool) → last_before (with_entry p.state entry) ≡ last_before p.state
    → p.state.taken ≡ take (length p.state.taken) s.live
    → is_closed p.link ≡ false → p.state.epoch ≡ epoch_of s
    → slice_get s.live (length p.state.taken) ≡ Some entry
    → is_own_answer p.state entry ≡ b → Holds s number p t
    → Holds s number (participant_if b p entry) (tally_if b t)
holds-own laws s number p t entry true stays prefix up at there own h =
    let live = h.live up in
    let first = next-first (epoch_of s) s.live (has_acknowledged s live.connection) p t entry prefix
    (live.here at) there own in
    let fork : p.state.fork ≡ first.send ∷ first.rest = h.fork ∙ first.is in
    let rest = drop-first t.answers t.sends first.send first.rest first.is in
    record {
      few = omega (arith, rest.0);
      fork = fork-first p.state.fork entry.msg first.send first.rest fork
          (own-first laws p.state.fork entry.msg first.send first.rest fork first.answers)
          ∙ sym rest.1 ∙ ap (λ n. drop n t.sends) (sym (add-one t.answers));
      live = λ still. live-took s number p t entry true stays at own live;
    }
holds-own laws s number p t entry false stays prefix up at there own h =
    record {
      few = h.few;
      fork = h.fork;
      live = λ still. live-took s number p t entry false stays at own (h.live up);
    }

-- the client that takes an entry, and acknowledges this
abbrev took_with : Participant → client.State → Option ℕ → Participant
took_with p c ack = record p { state = c; uplink = p.uplink ++ acks ack }

is-of : (s : State) (number : ℕ) (p : Participant) → IsParticipant s number p
    → IsUnderway p.state
is-of s number p hp = record { began = hp.began; entered = hp.entered }

-- what a client of the live epoch has taken is a prefix of the live history
prefix-here : (s : State) (number : ℕ) (p : Participant) → IsParticipant s number p
    → p.state.epoch ≡ epoch_of s → p.state.taken ≡ take (length p.state.taken) s.live
prefix-here s number p hp at =
    hp.prefix ∙ ap (take (length p.state.taken)) (ap (history_of s) at ∙ live-is s)

-- the entry that comes next
next-of : Leading → (number : ℕ) (t : Exchange) (entry : Entry)
    → IsParticipant (state_of t.past) number t.participant → next_entry t ≡ Some entry
    → NextHere (state_of t.past) t.participant.state entry
    ⊎ NextLater (state_of t.past) t.participant.state entry
next-of laws number t entry hp there =
    next-either laws.taking (state_of t.past) t.participant.state entry (laws.marked t.past)
    (is-of (state_of t.past) number t.participant hp) hp.known there

-- an entry of the client's epoch
holds-took-here : Leading → (s : State) (number : ℕ) (p : Participant) (t : Tally) (entry : Entry)
    → IsParticipant s number p → is_closed p.link ≡ false → NextHere s p.state entry
    → Holds s number p t
    → Holds s number (took_with p (client.took p.state entry) (client.taken_of p.state entry).ack)
    (tally_step p.state t (Took entry))
holds-took-here laws s number p t entry hp up next h =
    let c = p.state in
    let is = next.takes in
    let Goal : Option ℕ → client.State → Type 0 =
    λ ack d. Holds s number (took_with p d ack)
    (if is_some ack then no_sends else tally_if (is_own_answer c entry) t) in
    subst (λ ack. Goal ack (client.took c entry)) (sym is.ack)
    (subst (Goal None) (sym is.took)
    (holds-own laws s number p t entry (is_own_answer c entry) is.stays
    (prefix-here s number p hp next.at) up next.at next.there refl h))

-- the mark of the live epoch, which is new to the client
here-opened : (s : State) (connection : Connection) (p : Participant) (entry : Entry)
    → IsUnderway p.state → p.state.epoch < epoch_of s → slice_get s.live 0 ≡ Some entry
    → AllByRecursion (MayStand p.state.epoch) p.uplink
    → (p.link ≡ Connected → HasNoEnd p.uplink)
    → IsLagging s.live (has_acknowledged s connection) p
    → IsHere (epoch_of s) s.live (has_acknowledged s connection)
    (took_with p (with_mark p.state (epoch_of s) entry) (Some (epoch_of s))) no_sends
here-opened s connection p entry of less there stands endless h =
    let c = p.state in
    let e = epoch_of s in
    let ready = has_acknowledged s connection in
    let d = with_mark c e entry in
    let base : last_before d ≡ carried_in s.live =
    ap (λ b. if b then c.joined_at else carried_in (entry ∷ []))
    (ne_eqb e c.joined_epoch (λ same. omega (arith, same, less, of.began)))
    ∙ carried-first s.live entry there in
    record {
      base = omega (arith, base, h.unheard.base);
      sent = [];
      sends = sym (ap (λ b. due e b (p.uplink ++ acks (Some e))) h.late
          ∙ due-ack e c.epoch p.uplink less stands);
      answered = subst (λ ms. Answer ms []) (sym (ap (λ n. answers_from c.user n 0 s.live) base
          ∙ h.unheard.none)) tt;
      taken = sym (ap length (answers-before c.user (last_before d) 0 (entry ∷ []) (omega arith)));
      more = λ on. hears-ack e ready p.uplink (endless on);
    }
  where
    carried-first : (live : List Entry) (x : Entry) → slice_get live 0 ≡ Some x
        → carried_in (x ∷ []) ≡ carried_in live
    carried-first [] x is = cc
    carried-first (y ∷ live) x is = let same : y ≡ x = cc in
        sym (ap (λ z. carried_by z.msg) same)

holds-took-later : (s : State) (number : ℕ) (p : Participant) (t : Tally) (entry : Entry)
    → IsParticipant s number p → is_closed p.link ≡ false → NextLater s p.state entry
    → Holds s number p t
    → Holds s number (took_with p (client.took p.state entry) (client.taken_of p.state entry).ack)
    (tally_step p.state t (Took entry))
holds-took-later s number p t entry hp up next h =
    let c = p.state in
    let e = epoch_of s in
    let of = is-of s number p hp in
    let less : c.epoch < e = next.less in
    let is = next.takes in
    let Goal : Option ℕ → client.State → Type 0 =
    λ ack d. Holds s number (took_with p d ack)
    (if is_some ack then no_sends else tally_if (is_own_answer c entry) t) in
    let live = h.live up in
    let new : Goal (Some e) (with_mark c e entry) =
    record {
      few = omega arith;
      fork = refl;
      live = λ still. record {
        connection = live.connection;
        found = live.found;
        user = live.user;
        known = omega arith;
        stands = all-push (MayStand e) p.uplink (msg.Control (Ack e))
            (all-later c.epoch e p.uplink (omega (arith, less)) live.stands) (omega arith);
        endless = λ on. all-push (λ m. is_disconnect m ≡ false) p.uplink (msg.Control (Ack e))
            (live.endless on) refl;
        here = λ same. here-opened s live.connection p entry of less next.there live.stands
            live.endless (live.lags less);
        lags = λ below. absurd (omega (arith, below));
      };
    } in
    subst (λ ack. Goal ack (client.took c entry)) (sym is.ack)
    (subst (Goal (Some e)) (sym is.took) new)

holds-next : Leading → (number : ℕ) (t : Exchange) (tally : Tally) (entry : Entry)
    → IsParticipant (state_of t.past) number t.participant → is_closed t.participant.link ≡ false
    → next_entry t ≡ Some entry → Holds (state_of t.past) number t.participant tally
    → Holds (state_of t.past) number (took_next t (Some entry)).participant
    (tally_step t.participant.state tally (Took entry))
holds-next laws number t tally entry hp up there h =
    let s = state_of t.past in
    let p = t.participant in
    ⊎_elim (λ (next : NextHere s p.state entry).
    holds-took-here laws s number p tally entry hp up next h)
    (λ (next : NextLater s p.state entry).
    holds-took-later s number p tally entry hp up next h)
    (next-of laws number t entry hp there)

-- ---- what joins the uplink

-- what a connected client queues may stand there, and of it those that are said are to be answered
record MayQueue (p : Participant) (queued : Queued) : Type 0 where
  stands : AllByRecursion (MayStand p.state.epoch) (queued_messages p queued)
  endless : link_after queued ≡ Connected → HasNoEnd (queued_messages p queued)
  dues : (epoch : ℕ) (ready : Bool) → hears_more epoch ready p.uplink ≡ true
      → due epoch ready (p.uplink ++ queued_messages p queued)
      ≡ due epoch ready p.uplink ++ forked_messages queued
  hears : (epoch : ℕ) (ready : Bool) → link_after queued ≡ Connected
      → hears_more epoch ready p.uplink ≡ true
      → hears_more epoch ready (p.uplink ++ queued_messages p queued) ≡ true

may-queue : (p : Participant) (instruction : Instruction) (queued : Queued)
    → IsQueuedBy instruction queued → IsSayable instruction → MayQueue p queued
may-queue p instruction (Saying m) by may =
    let send = high-send p.state.epoch m (subst IsSayable by may) in
    record {
      stands = (send.0, tt);
      endless = λ still. (send.2, tt);
      dues = λ epoch ready hears. due-push epoch ready p.uplink m hears send.1 send.2;
      hears = λ epoch ready still hears. hears-push epoch ready p.uplink m hears send.2;
    }
may-queue p instruction (Resetting keeps) by may =
    let more = client_reset keeps p.state in
    let all = reset-messages keeps (length p.state.taken) (snapshot (client.confirmed p.state)) in
    record {
      stands = all-reset (MayStand p.state.epoch) more (λ m of. of.stands p.state.epoch) all;
      endless = λ still. all-reset (λ m. is_disconnect m ≡ false) more (λ m of. of.endless) all;
      dues = λ epoch ready hears. due-reset epoch ready p.uplink more all
          ∙ sym (append-nil (due epoch ready p.uplink));
      hears = λ epoch ready still hears. hears-reset epoch ready p.uplink more all hears;
    }
may-queue p instruction Parting by may =
    let never : Leaving ≡ Connected → ⊥ = λ still. cc in
    record {
      stands = (tt, tt);
      endless = λ still. absurd (never still);
      dues = λ epoch ready hears. due-end epoch ready p.uplink (msg.Control (Disconnect 0)) refl
          ∙ sym (append-nil (due epoch ready p.uplink));
      hears = λ epoch ready still hears. absurd (never still);
    }

-- the tally with what is said
queued-tally : (c : client.State) (t : Tally) (queued : Queued)
    → tally_from c t (steps_of_move (Queues queued))
    ≡ record t { sends = t.sends ++ forked_messages queued }
queued-tally c t (Saying m) = refl
queued-tally c t queued = ap (λ sends. record t { sends = sends }) (sym (append-nil t.sends))

module _ (s : State) (number : ℕ) (p : Participant) (t : Tally) (queued : Queued)
    (on : p.link ≡ Connected) (may : MayQueue p queued) where
  abbrev more : List Msg
  more = queued_messages p queued

  abbrev sends : List Msg
  sends = forked_messages queued

  abbrev sent_tally : Tally
  sent_tally = record t { sends = t.sends ++ sends }

  here-queued : (epoch : ℕ) (live : List Entry) (ready : Bool) → IsHere epoch live ready p t
      → IsHere epoch live ready (with_queued p queued) sent_tally
  here-queued epoch live ready h = record {
    base = h.base;
    sent = h.sent;
    sends = ap (λ ms. ms ++ sends) h.sends
        ∙ append_assoc h.sent (due epoch ready p.uplink) sends
        ∙ ap (λ ms. h.sent ++ ms) (sym (may.dues epoch ready (h.more on)));
    answered = h.answered;
    taken = h.taken;
    more = λ still. may.hears epoch ready still (h.more on);
  }

  holds-queued : Holds s number p t → Holds s number (with_queued p queued) sent_tally
  holds-queued h = record {
    few = omega (arith, h.few, length-append t.sends sends);
    fork = ap (λ ms. ms ++ sends) h.fork ∙ sym (drop-append-le t.answers t.sends sends h.few);
    live = λ up.
        let l = h.live (ap is_closed on) in
        record {
          connection = l.connection;
          found = l.found;
          user = l.user;
          known = l.known;
          stands = all-both (MayStand p.state.epoch) p.uplink more l.stands may.stands;
          endless = λ still. all-both (λ m. is_disconnect m ≡ false) p.uplink more (l.endless on)
              (may.endless still);
          here = λ at. here-queued (epoch_of s) s.live (has_acknowledged s l.connection)
              (l.here at);
          lags = λ less. let b = l.lags less in record { late = b.late; unheard = b.unheard };
        };
  }

-- a client that is closed
holds-closed : (s u : State) (number : ℕ) (p : Participant) (t : Tally) (uplink : List Msg)
    → Holds s number p t
    → Holds u number (record p { uplink = uplink; link = Closed }) t
holds-closed s u number p t uplink h =
    record { few = h.few; fork = h.fork; live = λ up. let e : true ≡ false = up in cc }

-- ---- what the session hears

-- the client whose next message the session takes
abbrev heard_of : Participant → List Msg → Participant
heard_of p rest = record p { uplink = rest }

-- the epoch stays
here-heard : (s u : State) (c d : Connection) (p : Participant) (t : Tally) (m : Msg)
    (rest : List Msg) → epoch_of u ≡ epoch_of s → c.user ≡ p.state.user → p.uplink ≡ m ∷ rest
    → is_disconnect m ≡ false → HeardHere s c m u d
    → IsHere (epoch_of s) s.live (has_acknowledged s c) p t
    → IsHere (epoch_of u) u.live (has_acknowledged u d) (heard_of p rest) t
here-heard s u c d p t m rest same user up goes x h =
    let e = epoch_of s in
    let at = last_before p.state in
    let ready = has_acknowledged s c in
    let all : answers_from p.state.user at 0 u.live
    ≡ answers_from p.state.user at 0 s.live
    ++ answers_from p.state.user at (0 + length s.live) x.more =
    ap (answers_from p.state.user at 0) x.live
    ∙ answers-append p.state.user at 0 s.live x.more in
    let new : Answer (answers_from p.state.user at (0 + length s.live) x.more)
    (sends_of ready m) =
    subst (λ id. Answer (answers_from id at (0 + length s.live) x.more) (sends_of ready m)) user
    (x.answers at (0 + length s.live) (omega (arith, h.base))) in
    let it : IsHere e u.live (ready || is_ack e m) (heard_of p rest) t = record {
      base = longer s.live x.more u.live at x.live h.base;
      sent = h.sent ++ sends_of ready m;
      sends = h.sends ∙ ap (λ ms. h.sent ++ due e ready ms) up
          ∙ ap (λ ms. h.sent ++ ms) (due-first e ready m rest goes)
          ∙ sym (append_assoc h.sent (sends_of ready m) (due e (ready || is_ack e m) rest));
      answered = subst (λ ms. Answer ms (h.sent ++ sends_of ready m)) (sym all)
          (answer-both (answers_from p.state.user at 0 s.live) h.sent
          (answers_from p.state.user at (0 + length s.live) x.more) (sends_of ready m) h.answered
          new);
      taken = h.taken;
      more = λ on. sym (ap (hears_more e ready) up ∙ hears-first e ready m rest goes) ∙ h.more on;
    } in
    subst (λ n. IsHere n u.live (has_acknowledged u d) (heard_of p rest) t) (sym same)
    (subst (λ b. IsHere e u.live b (heard_of p rest) t) (sym x.ready) it)

lagging-heard : (s u : State) (c d : Connection) (p : Participant) (m : Msg) (rest : List Msg)
    → p.state.epoch < epoch_of s → c.user ≡ p.state.user → MayStand p.state.epoch m
    → HeardHere s c m u d → IsLagging s.live (has_acknowledged s c) p
    → IsLagging u.live (has_acknowledged u d) (heard_of p rest)
lagging-heard s u c d p m rest less user stands x h = record {
  late = x.ready ∙ ap (λ b. b || is_ack (epoch_of s) m) h.late
      ∙ no-ack p.state.epoch (epoch_of s) m less stands;
  unheard = subst (Unheard p.state.user) (sym x.live)
      (unheard-more p.state.user s.live x.more h.unheard
      (λ at n below. answer-none (answers_from p.state.user at n x.more)
      (subst (λ b. Answer (answers_from p.state.user at n x.more)
      (if b && is_send m then m ∷ [] else [])) h.late
      (subst (λ id. Answer (answers_from id at n x.more) (sends_of (has_acknowledged s c) m)) user
      (x.answers at n below)))));
}

module _ (s u : State) (number : ℕ) (p : Participant) (t : Tally) (m : Msg) (rest : List Msg)
    (people : HasPeople s) (up : p.uplink ≡ m ∷ rest) (goes : is_disconnect m ≡ false)
    (h : Live s number p t) (x : Hears s number h.connection m u) where
  stands-first : AllByRecursion (MayStand p.state.epoch) (m ∷ rest)
  stands-first = subst (AllByRecursion (MayStand p.state.epoch)) up h.stands

  lagging-after : p.state.epoch < epoch_of u
      → IsLagging u.live (has_acknowledged u x.connection) (heard_of p rest)
  lagging-after below =
      ⊎_elim (λ (same : epoch_of u ≡ epoch_of s).
      let less : p.state.epoch < epoch_of s = omega (arith, below, same) in
      lagging-heard s u h.connection x.connection p m rest less h.user stands-first.0
      (x.same same) (h.lags less))
      (λ (ne : epoch_of u ≡ epoch_of s → ⊥).
      let less : epoch_of s < epoch_of u = omega (arith, ne, x.epochs) in
      let new = x.later less in
      record {
        late = ne_eqb x.connection.acknowledged (epoch_of u) (λ same. omega (
          arith,
          same,
          less,
          ap (λ d. d.acknowledged) new.0,
          people.connections.known number h.connection h.found,
        ));
        unheard = new.1 p.state.user;
      })
      (cases_eq (epoch_of u) (epoch_of s))

  live-heard : Live u number (heard_of p rest) t
  live-heard = record {
    connection = x.connection;
    found = x.found;
    user = x.user ∙ h.user;
    known = omega (arith, h.known, x.epochs);
    stands = stands-first.1;
    endless = λ on. let all : HasNoEnd (m ∷ rest) = subst HasNoEnd up (h.endless on) in all.1;
    here = λ at.
        let same : epoch_of u ≡ epoch_of s = omega (arith, at, h.known, x.epochs) in
        here-heard s u h.connection x.connection p t m rest same h.user up goes (x.same same)
        (h.here (at ∙ same));
    lags = lagging-after;
  }

holds-heard : Leading → (number : ℕ) (t : Exchange) (m : Msg) (rest : List Msg) (tally : Tally)
    → ShutBefore t.past → NotEnded t.past (event.Say t.participant.conn m)
    → HasPeople (state_of t.past) → IsParticipant (state_of t.past) number t.participant
    → t.participant.uplink ≡ m ∷ rest → is_disconnect m ≡ false
    → Holds (state_of t.past) number t.participant tally
    → Holds (state_of (heard t m rest).past) number (heard t m rest).participant tally
holds-heard laws number t m rest tally before ends people hp up goes h = record {
  few = h.few;
  fork = h.fork;
  live = λ here.
      let l = h.live here in
      live-heard (state_of t.past) (state_of (heard t m rest).past) number t.participant tally m
      rest people up goes l (hears-it l);
}
  where
    hears-it : (l : Live (state_of t.past) number t.participant tally)
        → Hears (state_of t.past) number l.connection m (state_of (heard t m rest).past)
    hears-it l =
        let s = state_of t.past in
        let stands = subst (AllByRecursion (MayStand t.participant.state.epoch)) up l.stands in
        let high = stands-high t.participant.state.epoch m stands.0 in
        let there : open_connection s t.participant.conn ≡ Some l.connection =
        ap (open_connection s) hp.conn ∙ l.found in
        subst (λ n. Hears s n l.connection m (state_of (heard t m rest).past)) hp.conn
        (hears-say laws t.past t.participant.conn m l.connection before ends there high)

-- ---- exchanges

holds-moved : Leading → (number : ℕ) (t : Exchange) (instruction : Instruction) (move : Move)
    (tally : Tally) → ShutBefore t.past
    → HasPeople (state_of t.past) → IsParticipant (state_of t.past) number t.participant
    → IsMoveBy t instruction move → IsSayable instruction → NeverEnds (move_replies t move)
    → Holds (state_of t.past) number t.participant tally
    → Holds (state_of (after_move t move).past) number (after_move t move).participant
    (tally_from t.participant.state tally (steps_of_move move))
holds-moved laws number t instruction Rests tally before people hp is may goes h = h
holds-moved laws number t instruction (Queues queued) tally before people hp is may goes h =
    let s = state_of t.past in
    let p = t.participant in
    subst (Holds s number (with_queued p queued)) (sym (queued-tally p.state tally queued))
    (holds-queued s number p tally queued is.1 (may-queue p instruction queued is.0 may) h)
holds-moved laws number t instruction (SendsFirst m rest) tally before people hp is may goes h =
    holds-heard laws number t m rest tally before goes.0 people hp is.1 is.2 h
holds-moved laws number t instruction (TakesNext entry) tally before people hp is may goes h =
    holds-next laws number t tally entry hp is.0 is.1 h
holds-moved laws number t instruction (Closes last) tally before people hp is may goes h =
    holds-closed (state_of t.past) (state_of (after_move t (Closes last)).past) number
    t.participant tally [] h

-- what holds of a client holds of it after its exchange
pub holds-exchanged : Leading → (number : ℕ) (t : Exchange) (instruction : Instruction)
    (tally : Tally) → ShutBefore t.past
    → HasPeople (state_of t.past) → IsParticipant (state_of t.past) number t.participant
    → IsSayable instruction
    → NeverEnds (exchange_replies t instruction)
    → Holds (state_of t.past) number t.participant tally
    → Holds (state_of (exchanged t instruction).past) number (exchanged t instruction).participant
    (tally_from t.participant.state tally (steps_of_exchange t instruction))
holds-exchanged laws number t instruction tally before people hp may goes h =
    let is = laws.moves t instruction in
    subst (λ u. Holds (state_of u.past) number u.participant
    (tally_from t.participant.state tally (steps_of_exchange t instruction))) (sym is.made)
    (holds-moved laws number t instruction (instruction_move t instruction) tally before people hp
    is.may may goes h)

-- ---- the next entry

-- the mark that heads a history is the server's, and answers nobody
server-at : (c : client.State) (live : List Entry) (x : Entry) → 1 ≤ c.user → IsServerFirst live
    → slice_get live 0 ≡ Some x → own_of c x ≡ Stranger
server-at c [] x above h is = cc
server-at c (y ∷ live) x above h is =
    let same : y ≡ x = cc in
    let server : x.user ≡ 0 = ap (λ z. z.user) (sym same) ∙ h in
    ap (λ b. if b && may_answer x.msg && nat_lt (last_before c) (length c.taken)
    then answered c.fork x.msg else Stranger)
    (ne_eqb x.user c.user (λ e. omega (arith, e, server, above)))

kept-here : Leading → (epoch : ℕ) (live : List Entry) (ready : Bool) (p : Participant) (t : Tally)
    (entry : Entry) → p.state.taken ≡ take (length p.state.taken) live
    → IsHere epoch live ready p t → p.state.fork ≡ drop t.answers t.sends
    → slice_get live (length p.state.taken) ≡ Some entry → own_of p.state entry ≡ Lost → ⊥
kept-here laws epoch live ready p t entry prefix h fork there =
    by_own (is_own_answer p.state entry) refl
  where
    by_own : (b : Bool) → is_own_answer p.state entry ≡ b
        → (if b then answered p.state.fork entry.msg else Stranger) ≡ Lost → ⊥
    by_own true own lost =
        let first = next-first epoch live ready p t entry prefix h there own in
        ⊎_elim (λ (dropped : answered p.state.fork entry.msg ≡ Dropped). let e : Dropped
        ≡ Lost = sym dropped ∙ lost in cc)
        (λ (echo : answered p.state.fork entry.msg ≡ Echo). let e : Echo ≡ Lost = sym echo
        ∙ lost in cc)
        (own-first laws p.state.fork entry.msg first.send first.rest (fork ∙ first.is)
        first.answers)
    by_own false own lost = cc

-- it doesn't lose the fork
pub next-kept : Leading → (number : ℕ) (t : Exchange) (tally : Tally) (entry : Entry)
    → HasPeople (state_of t.past) → IsParticipant (state_of t.past) number t.participant
    → Holds (state_of t.past) number t.participant tally
    → is_closed t.participant.link ≡ false → next_entry t ≡ Some entry
    → own_of t.participant.state entry ≡ Lost → ⊥
next-kept laws number t tally entry people hp h up there lost =
    let s = state_of t.past in
    let p = t.participant in
    let l = h.live up in
    ⊎_elim (λ (next : NextHere s p.state entry).
    kept-here laws (epoch_of s) s.live (has_acknowledged s l.connection) p tally entry
    (prefix-here s number p hp next.at) (l.here next.at) h.fork next.there lost)
    (λ (next : NextLater s p.state entry).
    let user : 1 ≤ p.state.user =
    omega (arith, l.user, people.connections.users number l.connection l.found) in
    let strange = server-at p.state s.live entry user people.server next.there in
    let e : Stranger ≡ Lost = sym strange ∙ lost in cc)
    (next-of laws number t entry hp there)
