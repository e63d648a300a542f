-- Turns and worlds: what is true of a world stays so.
use Rattle.std.proofs.Common.{◌≡◌, ◌⊎◌, ℕ, suc, ◌+◌, ◌-◌, ◌<◌, ◌≤◌, Bool, true, false}
use Rattle.std.proofs.Common.{MatchBool}
use Rattle.std.proofs.Common.{List, [], ◌∷◌, ◌++◌, length, take, fold, None, Some}
use Rattle.std.proofs.Common.{refl, sym, ap, subst, ◌∙◌, ⊎_elim, inl, inr, arith, length-append}
use Rattle.std.specs.Prelude.{IfSome, nat_lt, nat_le}
use Rattle.std.specs.List.{slice_get, filter_map}
use Rattle.dp_plain.specs.Commands.{draw_all}
use Rattle.dp_replay.specs.Replay.{replay}
use Rattle.std.proofs.Math.ListN.{length-set}
use Rattle.std.proofs.lemmas.Bool.{cond_both, cases_eq, ltb-true}
use Rattle.std.proofs.lemmas.Bool.{and_parts}
use Rattle.std.proofs.lemmas.List.{take-append-le}
use Rattle.std.proofs.lemmas.Option.{slice_get_within}
use Rattle.dp_messages.specs.declared.message.Msg.{Msg}
use Rattle.dp_messages.specs.declared.message.Entry.{Entry}
use Rattle.dp_messages.specs.Properties.{command_of}
use Rattle.dp_client.specs.Client as client
use Rattle.dp_epochs.specs.declared.event.Event.{Event}
use Rattle.dp_epochs.specs.declared.event.Event.TheVariants as event
use Rattle.dp_epochs.specs.declared.event.Reply.{Reply}
use Rattle.dp_epochs.specs.declared.event.Reply.TheVariants as reply
use Rattle.dp_epochs.specs.Rows.{event_limit, row_bytes, byte_limit, row_of, has_room}
use Rattle.dp_epochs.specs.State.{State, epoch_of, history_of}
use Rattle.dp_epochs.specs.Past.{Past, state_of, kept, refused, sure_step, sure_answer}
use Rattle.dp_epochs.specs.Laws.{ShutBefore}
use Rattle.dp_schedule.specs.declared.action.Instruction.{Instruction}
use Rattle.dp_schedule.specs.declared.action.Action.{Action}
use Rattle.dp_schedule.specs.declared.action.Action.TheVariants.{Join, Act, Show}
use Rattle.dp_sim.specs.declared.participant.LinkState.{LinkState}
use Rattle.dp_sim.specs.declared.participant.LinkState.TheVariants.{Closed}
use Rattle.dp_sim.specs.Exchanges.{Participant, Exchange, disconnected, heard, next_entry}
use Rattle.dp_sim.specs.Exchanges.{took_next, exchanged}
use Rattle.dp_sim.specs.World.{World, participant_of, new_participant, with_joined, joined}
use Rattle.dp_sim.specs.World.{with_exchange, acted, after, first_world, world_after}
use Rattle.dp_sim.specs.Invariant.{is_closed, IsParticipant, IsWorld}
use Rattle.dp_sim.specs.Headline.{ShowsPrefix}
use Rattle.dp_sim.specs.Moves.{Move, Rests, Queues, SendsFirst, TakesNext, Closes, IsMoveBy}
use Rattle.dp_sim.specs.Moves.{queued_messages, forked_messages, link_after, with_queued}
use Rattle.dp_sim.specs.Moves.{after_move, instruction_move}
use Rattle.dp_lists.specs.Numbered.{numbered}
use Rattle.dp_lists.proofs.Options.{option_both, at_some, if_some}
use Rattle.dp_lists.proofs.Numbered.{number-found, numbered-other, numbered-same, numbered-either}
use Rattle.dp_lists.proofs.Numbered.{take_one}
use Rattle.dp_sim.proofs.Moves.{queued-runs, exchange-moved}
use Rattle.dp_sim.proofs.Marks.{live-is, NextHere, NextLater, next-either}
use Rattle.dp_sim.proofs.LawLemmas.{Grows, Keeps, OthersStay, IsOpen, keeps-all, keeps-fewer}
use Rattle.dp_sim.proofs.LawLemmas.{keeps-both}
use Rattle.dp_sim.proofs.LawLemmas.{Joins, Leading, keeps-say, keeps-close, joins-open}

-- ---- the past

-- what is true of the past of every world
pub record IsPast (past : Past) : Type 0 where
  pub first_fault : past.first_fault ≡ None
  pub quiet : past.quiet ≡ []
  pub before : ShutBefore past
  pub events : length past.journal ≤ event_limit

past-step : Leading → (past : Past) (e : Event) → IsPast past → IsPast (sure_step past e)
past-step laws past e h =
    cond_both (has_room past.journal e) (kept past e) (refused past e)
    (λ p. ShutBefore p → IsPast p)
    (λ room before.
    let below = and_parts (nat_lt (length past.journal) event_limit)
    (nat_le (row_bytes past.journal + length (row_of e)) byte_limit) room in
    record {
      first_fault = h.first_fault;
      quiet = h.quiet;
      before = before;
      events = omega (
        arith,
        length-append past.journal (e ∷ []),
        ltb-true (length past.journal) event_limit below.0,
      );
    })
    (λ no before.
    record { first_fault = h.first_fault; quiet = h.quiet; before = before; events = h.events })
    (laws.before past e h.before)

-- ---- a client

running-still : (b : Bool) (P Q : Type 0) → (P → Q) → MatchBool b (Unit {0}) P
    → MatchBool b (Unit {0}) Q
running-still true P Q f h = tt
running-still false P Q f h = f h

-- the histories have grown
participant-stays : (s t : State) (number : ℕ) (participant : Participant) → Grows s t
    → MatchBool (is_closed participant.link) (Unit {0}) (IsOpen t number)
    → IsParticipant s number participant → IsParticipant t number participant
participant-stays s t number participant grows running h =
    let c = participant.state in
    let before = history_of s c.epoch in
    let more = grows.histories c.epoch in
    record {
      conn = h.conn;
      running = running;
      began = h.began;
      known = omega (arith, h.known, grows.epochs);
      few = omega (arith, h.few, ap length more.1, length-append before more.0);
      prefix = h.prefix ∙ sym (ap (take (length c.taken)) more.1
          ∙ take-append-le (length c.taken) before more.0 h.few);
      entered = h.entered;
    }

-- the client is what it was but for its uplink, its fork and its link
participant-made : (s : State) (number : ℕ) (participant : Participant) (fork uplink : List Msg)
    (now : LinkState)
    → MatchBool (is_closed now) (Unit {0}) (IsOpen s number) → IsParticipant s number participant
    → IsParticipant s number
    (record participant {
      state = record participant.state { fork = fork };
      uplink = uplink;
      link =
          now;
    })
participant-made s number participant fork uplink now running h = record {
  conn = h.conn;
  running = running;
  began = h.began;
  known = h.known;
  few = h.few;
  prefix = h.prefix;
  entered = h.entered;
}

-- ---- taking

module _ (s : State) (number : ℕ) (p : Participant) (entry : Entry) (uplink : List Msg)
    (h : IsParticipant s number p) where
  abbrev c : client.State
  c = p.state

  -- what is true of the client in another state
  abbrev Becomes : client.State → Type 0
  Becomes d = IsParticipant s number (record p { state = d; uplink = uplink })

  -- the entry after those that are taken of the live epoch
  took-here : NextHere s c entry → Becomes (client.took c entry)
  took-here next =
      let all = history_of s c.epoch in
      let at : slice_get all (length c.taken) ≡ Some entry =
      ap (λ xs. slice_get xs (length c.taken)) (ap (history_of s) next.at ∙ live-is s)
      ∙ next.there in
      let within : length c.taken < length all =
      slice_get_within all (length c.taken) entry at in
      let longer : length (c.taken ++ entry ∷ []) ≡ suc (length c.taken) =
      omega (arith, length-append c.taken (entry ∷ [])) in
      subst Becomes (sym next.takes.took) (record {
        conn = h.conn;
        running = h.running;
        began = h.began;
        known = h.known;
        few = omega (arith, longer, within);
        prefix = ap (λ xs. xs ++ entry ∷ []) h.prefix
            ∙ sym (take_one all (length c.taken) entry at)
            ∙ ap (λ n. take n all) (sym longer);
        entered = λ later. omega (arith, longer);
      })

  -- the mark of the live epoch, for a client of an earlier one
  took-later : NextLater s c entry → Becomes (client.took c entry)
  took-later next =
      let all = history_of s (epoch_of s) in
      let at : slice_get all 0 ≡ Some entry = ap (λ xs. slice_get xs 0) (live-is s) ∙ next.there in
      subst Becomes (sym next.takes.took) (record {
        conn = h.conn;
        running = h.running;
        began = omega (arith, h.began, next.less);
        known = omega arith;
        few = slice_get_within all 0 entry at;
        prefix = sym (take_one all 0 entry at);
        entered = λ later. omega arith;
      })

-- ---- exchanges

-- what an exchange of the client of a number keeps
record KeepsExchange (number : ℕ) (old : Past) (t : Exchange) : Type 0 where
  pub past : IsPast t.past
  pub keeps : Keeps (state_of old) (OthersStay number) (state_of t.past)
  pub participant : IsParticipant (state_of t.past) number t.participant

-- the client alone has changed
exchanged-participant : (number : ℕ) (t : Exchange) (participant : Participant) → IsPast t.past
    → IsParticipant (state_of t.past) number participant
    → KeepsExchange number t.past (record t { participant = participant })
exchanged-participant number t participant h hp =
    record { past = h; keeps = keeps-all (state_of t.past) (OthersStay number); participant = hp }

exchanged-both : (number : ℕ) (old : Past) (t u : Exchange) → KeepsExchange number old t
    → KeepsExchange number t.past u → KeepsExchange number old u
exchanged-both number old t u h k = record {
  past = k.past;
  keeps = keeps-both (state_of old) (state_of t.past) (state_of u.past) (OthersStay number) h.keeps
      k.keeps;
  participant = k.participant;
}

disconnected-exchanged : Leading → (number : ℕ) (t : Exchange) → IsPast t.past
    → IsParticipant (state_of t.past) number t.participant
    → KeepsExchange number t.past (disconnected t)
disconnected-exchanged laws number t h hp =
    let keeps = keeps-close laws t.past t.participant.conn h.before in
    let gone = participant-made (state_of t.past) number t.participant t.participant.state.fork []
    Closed tt hp in
    record {
      past = past-step laws t.past (event.Close t.participant.conn) h;
      keeps = subst (λ conn. Keeps (state_of t.past) (OthersStay conn)
          (state_of (disconnected t).past)) hp.conn keeps;
      participant = participant-stays (state_of t.past) (state_of (disconnected t).past) number
          (disconnected t).participant keeps.grows tt gone;
    }

heard-exchanged : Leading → (number : ℕ) (t : Exchange) (m : Msg) (rest : List Msg) → IsPast t.past
    → IsParticipant (state_of t.past) number t.participant
    → KeepsExchange number t.past (heard t m rest)
heard-exchanged laws number t m rest h hp =
    let keeps = keeps-say laws t.past t.participant.conn m h.before in
    let s = state_of t.past in
    let u = state_of (heard t m rest).past in
    let waits = participant-made s number t.participant t.participant.state.fork rest
    t.participant.link hp.running hp in
    record {
      past = past-step laws t.past (event.Say t.participant.conn m) h;
      keeps = keeps-fewer s u (OthersStay number) keeps;
      participant = participant-stays s u number (heard t m rest).participant keeps.grows
          (running-still (is_closed t.participant.link) (IsOpen s number) (IsOpen u number)
          (keeps.stay number tt) hp.running)
          waits;
    }

next-exchanged : Leading → (number : ℕ) (t : Exchange) (entry : Entry) → IsPast t.past
    → IsParticipant (state_of t.past) number t.participant → next_entry t ≡ Some entry
    → KeepsExchange number t.past (took_next t (Some entry))
next-exchanged laws number t entry h hp there =
    let s = state_of t.past in
    let p = t.participant in
    let q = (took_next t (Some entry)).participant in
    exchanged-participant number t q h
    (⊎_elim (took-here s number p entry q.uplink hp) (took-later s number p entry q.uplink hp)
    (next-either laws.taking s p.state entry (laws.marked t.past)
    (record { began = hp.began; entered = hp.entered }) hp.known there))

move-exchanged : Leading → (number : ℕ) (t : Exchange) (instruction : Instruction) (move : Move)
    → IsPast t.past → IsParticipant (state_of t.past) number t.participant
    → IsMoveBy t instruction move → KeepsExchange number t.past (after_move t move)
move-exchanged laws number t instruction Rests h hp may =
    exchanged-participant number t t.participant h hp
move-exchanged laws number t instruction (Queues queued) h hp may =
    let p = t.participant in
    exchanged-participant number t (with_queued p queued) h
    (participant-made (state_of t.past) number p (p.state.fork ++ forked_messages queued)
    (p.uplink ++ queued_messages p queued) (link_after queued)
    (subst (λ shut. MatchBool shut (Unit {0}) (IsOpen (state_of t.past) number))
    (ap is_closed may.1 ∙ sym (queued-runs queued)) hp.running) hp)
move-exchanged laws number t instruction (SendsFirst m rest) h hp may =
    heard-exchanged laws number t m rest h hp
move-exchanged laws number t instruction (TakesNext entry) h hp may =
    next-exchanged laws number t entry h hp may.1
move-exchanged laws number t instruction (Closes None) h hp may =
    disconnected-exchanged laws number t h hp
move-exchanged laws number t instruction (Closes (Some m)) h hp may =
    let u = heard t m [] in
    let told = heard-exchanged laws number t m [] h hp in
    exchanged-both number t.past u (disconnected u) told
    (disconnected-exchanged laws number u told.past told.participant)

exchange-exchanged : Leading → (number : ℕ) (t : Exchange) (instruction : Instruction)
    → IsPast t.past → IsParticipant (state_of t.past) number t.participant
    → KeepsExchange number t.past (exchanged t instruction)
exchange-exchanged laws number t instruction h hp =
    let is = exchange-moved t instruction in
    subst (KeepsExchange number t.past) (sym is.made)
    (move-exchanged laws number t instruction (instruction_move t instruction) h hp is.may)

-- ---- worlds

past-of : (w : World) → IsWorld w → IsPast w.past
past-of w h = record {
  first_fault = h.first_fault;
  quiet = h.quiet;
  before = h.before;
  events = h.events;
}

world-made : (w : World) → IsPast w.past → length (state_of w.past).connections
    ≡ length w.participants
    → ((number : ℕ) → IfSome (participant_of w number) (IsParticipant (state_of w.past) number))
    → IsWorld w
world-made w h connections participants = record {
  first_fault = h.first_fault;
  quiet = h.quiet;
  before = h.before;
  events = h.events;
  connections = connections;
  participants = participants;
}

-- the client of a number after an exchange of one: that one, or another, which was so before
pub exchanged-either : (w : World) (actor : ℕ) (participant : Participant) (t : Exchange)
    (number : ℕ) (other : Participant) → participant_of w actor ≡ Some participant
    → participant_of (with_exchange w actor t) number ≡ Some other
    → ((number ≡ actor) × (other ≡ t.participant))
    ⊎ ((number ≡ actor → ⊥) × (participant_of w number ≡ Some other))
exchanged-either w actor participant t number other found is =
    ⊎_elim (λ (same : number ≡ actor).
    let there : Some t.participant ≡ Some other =
    sym (numbered-same w.participants actor participant t.participant found)
    ∙ sym (ap (participant_of (with_exchange w actor t)) same) ∙ is in
    let it : other ≡ t.participant = cc in
    inl (same, it))
    (λ (ne : number ≡ actor → ⊥).
    let above = number-found w.participants actor participant found in
    inr (ne, sym (numbered-other w.participants actor number t.participant above.0 ne) ∙ is))
    (cases_eq number actor)

exchange-world : (w : World) (number : ℕ) (participant : Participant) (t : Exchange) → IsWorld w
    → participant_of w number ≡ Some participant
    → KeepsExchange number w.past t → IsWorld (with_exchange w number t)
exchange-world w number participant t h found exchange =
    let s = state_of w.past in
    let u = state_of t.past in
    world-made (with_exchange w number t) exchange.past
    (exchange.keeps.count ∙ h.connections ∙ sym (length-set w.participants (number - 1)
    t.participant))
    (λ n. if_some (participant_of (with_exchange w number t) n) (IsParticipant u n)
    (λ other is. ⊎_elim (λ (own : (n ≡ number) × (other ≡ t.participant)).
    subst (λ k. IsParticipant u k other) (sym own.0)
    (subst (IsParticipant u number) (sym own.1) exchange.participant))
    (λ (far : (n ≡ number → ⊥) × (participant_of w n ≡ Some other)).
    let hp = at_some (participant_of w n) (IsParticipant s n) other (h.participants n) far.1 in
    participant-stays s u n other exchange.keeps.grows
    (running-still (is_closed other.link) (IsOpen s n) (IsOpen u n) (exchange.keeps.stay n far.0)
    hp.running) hp)
    (exchanged-either w number participant t n other found is)))

acted-world : Leading → (w : World) (number : ℕ) (instruction : Instruction) → IsWorld w
    → IsWorld (acted w number instruction)
acted-world laws w number instruction h =
    option_both (λ participant. with_exchange w number (exchanged
    (record { past = w.past; participant = participant }) instruction))
    (participant_of w number) w IsWorld
    (λ participant found.
    let hp = at_some (participant_of w number) (IsParticipant (state_of w.past) number) participant
    (h.participants number) found in
    exchange-world w number participant (exchanged (record
    { past = w.past; participant = participant }) instruction) h found
    (exchange-exchanged laws number (record { past = w.past; participant = participant })
    instruction (past-of w h) hp)) h

-- ---- joining

participants-stay : (w : World) (t : State) → IsWorld w → Grows (state_of w.past) t
    → ((n : ℕ) → IsOpen (state_of w.past) n → IsOpen t n) → (n : ℕ) (participant : Participant)
    → numbered w.participants n ≡ Some participant
    → IsParticipant t n participant
participants-stay w t h grows stay n participant is =
    let hp = at_some (numbered w.participants n) (IsParticipant (state_of w.past) n) participant
    (h.participants n) is in
    participant-stays (state_of w.past) t n participant grows
    (running-still (is_closed participant.link) (IsOpen (state_of w.past) n) (IsOpen t n) (stay n)
    hp.running) hp

-- as many clients as before
none-joined : (w : World) (past : Past) → IsWorld w → IsPast past
    → Grows (state_of w.past) (state_of past)
    → ((n : ℕ) → IsOpen (state_of w.past) n → IsOpen (state_of past) n)
    → length (state_of past).connections ≡ length (state_of w.past).connections
    → IsWorld (record { past = past; participants = w.participants })
none-joined w past h hp grows stay count =
    world-made (record { past = past; participants = w.participants }) hp (count ∙ h.connections)
    (λ n. if_some (numbered w.participants n) (IsParticipant (state_of past) n)
    (λ participant is. participants-stay w (state_of past) h grows stay n participant is))

-- a client that was just welcomed
participant-new : (s : State) (conn user epoch at : ℕ) → IsOpen s conn → epoch ≤ epoch_of s
    → IsParticipant s conn (new_participant conn user epoch at)
participant-new s conn user epoch at up known = record {
  conn = refl;
  running = up;
  began = omega arith;
  known = known;
  few = omega arith;
  prefix = refl;
  entered = λ later. absurd (omega (arith, later));
}

-- one more
one-joined : (w : World) (past : Past) (conn user epoch at : ℕ) → IsWorld w → IsPast past
    → Grows (state_of w.past) (state_of past)
    → ((n : ℕ) → IsOpen (state_of w.past) n → IsOpen (state_of past) n)
    → length (state_of past).connections ≡ length (state_of w.past).connections + 1
    → conn ≡ length (state_of w.past).connections + 1 → epoch ≡ length (state_of w.past).ended
    → IsOpen (state_of past) conn
    → IsWorld (record {
      past = past;
      participants = w.participants
          ++ new_participant conn user epoch at ∷ [];
    })
one-joined w past conn user epoch at h hp grows stay count is_conn is_epoch up =
    world-made (record {
      past = past;
      participants = w.participants
          ++ new_participant conn user epoch at ∷ [];
    }) hp
    (omega (
      arith,
      count,
      h.connections,
      length-append w.participants
          (new_participant conn user epoch at ∷ []),
    ))
    (λ n. if_some (numbered (w.participants ++ new_participant conn user epoch at ∷ []) n)
    (IsParticipant (state_of past) n)
    (λ participant is. ⊎_elim (λ (old : numbered w.participants n ≡ Some participant).
    participants-stay w (state_of past) h grows stay n participant old)
    (λ (new : (n ≡ length w.participants + 1) × (participant ≡ new_participant conn user epoch at)).
    last n participant new.0 new.1)
    (numbered-either w.participants (new_participant conn user epoch at) n participant is)))
  where
    last : (n : ℕ) (participant : Participant) → n ≡ length w.participants + 1
        → participant ≡ new_participant conn user epoch at
        → IsParticipant (state_of past) n participant
    last n participant at_end is =
        let same : conn ≡ n = omega (arith, is_conn, at_end, h.connections) in
        subst (λ k. IsParticipant (state_of past) k participant) same
        (subst (IsParticipant (state_of past) conn) (sym is)
        (participant-new (state_of past) conn user epoch at up
        (omega (arith, is_epoch, grows.epochs))))

answered-world : (w : World) (past : Past) (r : Reply) → IsWorld w → IsPast past
    → Joins (state_of w.past) r (state_of past)
    → IsWorld (record { past = past; participants = with_joined w.participants r })
answered-world w past (reply.Opened conn user epoch at) h hp j =
    one-joined w past conn user epoch at h hp j.grows j.stay j.answer.0 j.answer.1 j.answer.2
    j.answer.3
answered-world w past r h hp j = none-joined w past h hp j.grows j.stay j.answer

joined-world : Leading → (w : World) (registered : Bool) (name : List ℕ) → IsWorld w
    → IsWorld (joined w registered name)
joined-world laws w registered name h =
    let j = joins-open laws w.past name registered h.before in
    answered-world w (sure_step w.past (event.Open name registered))
    (sure_answer w.past (event.Open name registered)) h
    (past-step laws w.past (event.Open name registered) (past-of w h)) j

-- what is true of a world is so after an action
pub action-world : Leading → (w : World) (action : Action) → IsWorld w → IsWorld (after w action)
action-world laws w (Join name registered) h = joined-world laws w registered name h
action-world laws w (Act number instruction) h = acted-world laws w number instruction h
action-world laws w (Show number kind) h = h

-- ---- the headline

actions-world : ((w : World) (action : Action) → IsWorld w → IsWorld (after w action))
    → (w : World) (actions : List Action) → IsWorld w → IsWorld (fold after w actions)
actions-world stays w [] h = h
actions-world stays w (action ∷ actions) h = actions-world stays (after w action) actions
    (stays w action h)

shows-prefix : (s : State) (number : ℕ) (participant : Participant)
    → IsParticipant s number participant → ShowsPrefix s participant.state
shows-prefix s number participant h =
    let c = participant.state in
    record {
      count = length c.taken;
      taken = h.prefix;
      confirmed = ap replay h.prefix;
      view = ap (λ board. draw_all board (filter_map command_of c.fork)) (ap replay h.prefix);
    }

pub all-show : ((w : World) (action : Action) → IsWorld w → IsWorld (after w action))
    → IsWorld first_world
    → (actions : List Action) (number : ℕ)
    → IfSome (participant_of (world_after actions) number)
    (λ participant. ShowsPrefix (state_of (world_after actions).past) participant.state)
all-show stays first actions =
    let h = actions-world stays first_world actions first in
    let w = world_after actions in
    λ number. if_some (participant_of w number) (λ participant. ShowsPrefix (state_of w.past)
    participant.state)
    (λ participant is. shows-prefix (state_of w.past) number participant
    (at_some (participant_of w number) (IsParticipant (state_of w.past) number) participant
    (h.participants number) is))
