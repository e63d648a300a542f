-- A reset that is taken up opens its epoch with its commands.
use Rattle.std.proofs.Common.{◌≡◌, ◌⊎◌, ℕ, zero, suc, true, false, if◌then◌else◌, List, [], ◌∷◌}
use Rattle.std.proofs.Common.{◌++◌, length, drop, map, fold, Option, None, Some, refl, sym, ap}
use Rattle.std.proofs.Common.{subst, ◌∙◌, ⊎_elim, inl, inr, append-nil, append_assoc}
use Rattle.std.specs.Option.{option_map_or}
use Rattle.std.proofs.lemmas.Bool.{cases_eq, eq-eqb, ne_eqb}
use Rattle.dp_msg_draw.specs.declared.draw.Draw.{Draw}
use Rattle.dp_msg_meta.specs.declared.message.Control.TheVariants.{ResetEnd}
use Rattle.dp_messages.specs.declared.message.Msg.{Msg}
use Rattle.dp_messages.specs.declared.message.Msg.TheVariants as msg
use Rattle.dp_messages.specs.Properties.{is_disconnect}
use Rattle.dp_client.specs.Client as client
use Rattle.dp_epochs.specs.declared.event.Event.{Event}
use Rattle.dp_epochs.specs.declared.event.Event.TheVariants as event
use Rattle.dp_epochs.specs.declared.event.Reply.{Reply}
use Rattle.dp_epochs.specs.declared.event.Reply.TheVariants as reply
use Rattle.dp_epochs.specs.State.{place_in}
use Rattle.dp_epochs.specs.Past.{Past, state_of, sure_step, sure_answer}
use Rattle.dp_epochs.specs.Laws.{ShutBefore}
use Rattle.dp_schedule.specs.declared.action.Instruction.{Instruction}
use Rattle.dp_schedule.specs.declared.action.Action.{Action}
use Rattle.dp_schedule.specs.declared.action.Action.TheVariants.{Join, Act, Show}
use Rattle.dp_sim.specs.declared.participant.LinkState.{LinkState}
use Rattle.dp_sim.specs.declared.participant.LinkState.TheVariants.{Connected, Leaving, Closed}
use Rattle.dp_sim.specs.Exchanges.{Participant, Exchange, is_gone, heard, acks, took_next, done}
use Rattle.dp_sim.specs.Exchanges.{exchanged}
use Rattle.dp_sim.specs.Moves.{Move, Rests, Queues, SendsFirst, TakesNext, Closes, queued_messages}
use Rattle.dp_sim.specs.Moves.{message_sent, after_move, done_move, instruction_move, IsMoveBy}
use Rattle.dp_sim.specs.Moves.{InstructionsAreMoves}
use Rattle.dp_sim.proofs.Moves.{queued-runs}
use Rattle.dp_sim.specs.World.{World, participant_of, after, with_exchange}
use Rattle.dp_sim.specs.Invariant.{IsWorld, IsParticipant, is_closed}
use Rattle.dp_sim.proofs.LawLemmas.{Leading}
use Rattle.dp_lists.proofs.Options.{at_some}
use Rattle.dp_lists.proofs.Numbered.{numbered-same}
use Rattle.dp_sim_laws.specs.OwnSteps.{exchange_of}
use Rattle.dp_sim_laws.specs.Tally.{said_reply}
use Rattle.dp_sim_laws.specs.Resets.{client_answer, own_answer, own_answers}
use Rattle.dp_sim_laws.proofs.Walks.{MayAct, action-keeps, all-may, other-stays, own-becomes}
use Rattle.dp_sim_laws.proofs.Streams.{Owns, IsNotBy, step-owned, OpenedWith, step-opened}
use Rattle.dp_sim_laws.proofs.Streams.{Begins, begin-noted, part-noted, end-placed}

-- ---- one exchange of the client

-- the answers to a client whose connection is closed by it: none, or one to a Disconnect
abbrev IsEnd : List Msg → List Reply → Type 0
IsEnd uplink answers =
    (answers ≡ [])
    ⊎ ((m : Msg) × (rest : List Msg) × (r : Reply) × (uplink ≡ m ∷ rest)
    × (is_disconnect m ≡ true) × (answers ≡ r ∷ []))

module _ (t : Exchange) (Goal : Exchange → List Reply → Type 0)
    (waits : (u : Exchange) (more : List Msg) → u.past ≡ t.past
    → u.participant.uplink ≡ t.participant.uplink ++ more
    → is_closed u.participant.link ≡ false → Goal u [])
    (hears : (m : Msg) (rest : List Msg) → t.participant.uplink ≡ m ∷ rest
    → is_disconnect m ≡ false
    → Goal (heard t m rest) (sure_answer t.past (event.Say t.participant.conn m) ∷ []))
    (ends : (u : Exchange) (answers : List Reply) → is_closed u.participant.link ≡ true
    → IsEnd t.participant.uplink answers → Goal u answers)
    (up : is_closed t.participant.link ≡ false) where
  move-goal : (instruction : Instruction) (move : Move) → IsMoveBy t instruction move
      → Goal (after_move t move) (said_reply t (message_sent move))
  move-goal instruction Rests is = waits t [] refl (sym (append-nil t.participant.uplink)) up
  move-goal instruction (Queues queued) is =
      waits (after_move t (Queues queued)) (queued_messages t.participant queued) refl refl
      (queued-runs queued)
  move-goal instruction (SendsFirst m rest) is = hears m rest is.1 is.2
  move-goal instruction (TakesNext entry) is =
      waits (took_next t (Some entry)) (acks (client.taken_of t.participant.state entry).ack) refl
      refl up
  move-goal instruction (Closes None) is = ends (after_move t (Closes None)) [] refl (inl refl)
  move-goal instruction (Closes (Some m)) is =
      let r = sure_answer t.past (event.Say t.participant.conn m) in
      ends (after_move t (Closes (Some m))) (r ∷ []) refl
      (inr (m, is.1.0, r, is.1.1, is.1.2, refl))

  -- what it makes of the uplink, and what is answered
  own-move : InstructionsAreMoves → (instruction : Instruction)
      → Goal (exchanged t instruction) (client_answer t instruction)
  own-move moves instruction =
      let is = moves t instruction in
      subst (λ u. Goal u (client_answer t instruction)) (sym is.made)
      (move-goal instruction (instruction_move t instruction) is.may)

-- ---- one action

-- the action is the client's own, or another
own-or-other : (number : ℕ) (action : Action)
    → ((instruction : Instruction) × (action ≡ Act number instruction))
    ⊎ ((instruction : Instruction) → action ≡ Act number instruction → ⊥)
own-or-other number (Join name registered) = inr (λ instruction is. cc)
own-or-other number (Act actor instruction) =
    ⊎_elim (λ (same : actor ≡ number). inl (instruction, ap (λ n. Act n instruction) same))
    (λ (ne : actor ≡ number → ⊥). inr (λ other is. let same : actor ≡ number = cc in ne same))
    (cases_eq actor number)
own-or-other number (Show actor kind) = inr (λ instruction is. cc)

other-silent : (number : ℕ) (w : World) (action : Action)
    → ((instruction : Instruction) → action ≡ Act number instruction → ⊥)
    → own_answer number w action ≡ []
other-silent number w (Join name registered) other = refl
other-silent number w (Act actor instruction) other =
    ap (λ b. if b then option_map_or (λ p. client_answer (exchange_of w p) instruction)
    (participant_of w actor) [] else [])
    (ne_eqb actor number (λ same. other instruction (ap (λ n. Act n instruction) same)))
other-silent number w (Show actor kind) other = refl

own-answered : (number : ℕ) (w : World) (p : Participant) (instruction : Instruction)
    → participant_of w number ≡ Some p
    → own_answer number w (Act number instruction) ≡ client_answer (exchange_of w p) instruction
own-answered number w p instruction found =
    ap (λ b. if b then option_map_or (λ q. client_answer (exchange_of w q) instruction)
    (participant_of w number) [] else []) (eq-eqb number number refl)
    ∙ ap (λ o. option_map_or (λ q. client_answer (exchange_of w q) instruction) o []) found

-- the client of the number stands so in the world after its exchange
pub with-own : (w : World) (number : ℕ) (p : Participant) (t : Exchange)
    → participant_of w number ≡ Some p
    → participant_of (with_exchange w number t) number ≡ Some t.participant
with-own w number p t found = numbered-same w.participants number p t.participant found

module _ (moves : InstructionsAreMoves) (P : Past → Type 0) (number : ℕ)
    (before : (past : Past) (e : Event) → ShutBefore past → ShutBefore (sure_step past e))
    (step : (past : Past) (e : Event) → ShutBefore past → IsNotBy number e → P past
    → P (sure_step past e))
    (w : World) (world : IsWorld w) (p : Participant) (found : participant_of w number ≡ Some p)
    (up : is_closed p.link ≡ false) (holds : P w.past)
    (Goal : World → List Reply → Type 0)
    (waits : (v : World) (q : Participant) (more : List Msg)
    → participant_of v number ≡ Some q → q.uplink ≡ p.uplink ++ more
    → is_closed q.link ≡ false → P v.past → Goal v [])
    (hears : (v : World) (q : Participant) (m : Msg) (rest : List Msg)
    → participant_of v number ≡ Some q → p.uplink ≡ m ∷ rest → q.uplink ≡ rest
    → is_closed q.link ≡ false → v.past ≡ sure_step w.past (event.Say number m)
    → Goal v (sure_answer w.past (event.Say number m) ∷ []))
    (ends : (v : World) (q : Participant) (answers : List Reply)
    → participant_of v number ≡ Some q → is_closed q.link ≡ true → IsEnd p.uplink answers
    → Goal v answers) where
  may-other : (action : Action)
      → ((instruction : Instruction) → action ≡ Act number instruction → ⊥)
      → MayAct (IsNotBy number) w action
  may-other (Join name registered) other = tt
  may-other (Act actor instruction) other = λ q there.
      let hq = at_some (participant_of w actor) (IsParticipant (state_of w.past) actor) q
      (world.participants actor) there in (
        λ k d within. λ same. other instruction
            (ap (λ n. Act n instruction) (sym hq.conn ∙ same)),
        tt,
      )
  may-other (Show actor kind) other = tt

  own-act : (instruction : Instruction) (action : Action) → action ≡ Act number instruction
      → Goal (after w action) (own_answer number w action)
  own-act instruction action is =
      let hp = at_some (participant_of w number) (IsParticipant (state_of w.past) number) p
      (world.participants number) found in
      subst (λ a. Goal (after w a) (own_answer number w a)) (sym is)
      (subst (λ v. Goal v (own_answer number w (Act number instruction)))
      (sym (own-becomes w number p instruction found))
      (subst (Goal (with_exchange w number (exchanged (exchange_of w p) instruction)))
      (sym (own-answered number w p instruction found))
      (own-move (exchange_of w p) (λ u answers. Goal (with_exchange w number u) answers)
      (λ u more past uplink still.
      waits (with_exchange w number u) u.participant more (with-own w number p u found) uplink still
      (subst P (sym past) holds))
      (λ m rest uplink goes.
      let u = heard (exchange_of w p) m rest in
      subst (λ n. Goal (with_exchange w number u) (sure_answer w.past (event.Say n m) ∷ []))
      (sym hp.conn)
      (hears (with_exchange w number u) u.participant m rest (with-own w number p u found) uplink
      refl up (ap (λ n. sure_step w.past (event.Say n m)) hp.conn)))
      (λ u answers shut end.
      ends (with_exchange w number u) u.participant answers (with-own w number p u found) shut end)
      up moves instruction)))

  act-move : (action : Action) → Goal (after w action) (own_answer number w action)
  act-move action =
      ⊎_elim
      (λ (own : (instruction : Instruction) × (action ≡ Act number instruction)).
      own-act own.0 action own.1)
      (λ (other : (instruction : Instruction) → action ≡ Act number instruction → ⊥).
      subst (Goal (after w action)) (sym (other-silent number w action other))
      (waits (after w action) p [] (other-stays w action number p found other)
      (sym (append-nil p.uplink)) up
      (action-keeps moves P (IsNotBy number) before step w action world.before
      (may-other action other) holds)))
      (own-or-other number action)

-- ---- a closed client is answered nothing

closed-gone : (link : LinkState) (instruction : Instruction) → is_closed link ≡ true
    → is_gone link instruction ≡ true
closed-gone Connected instruction shut = cc
closed-gone Leaving instruction shut = cc
closed-gone Closed instruction shut = refl

module _ (number : ℕ) (p : Participant) (shut : is_closed p.link ≡ true) where
  closed-own : (w : World) (instruction : Instruction) → participant_of w number ≡ Some p
      → (participant_of (after w (Act number instruction)) number ≡ Some p)
      × (own_answer number w (Act number instruction) ≡ [])
  closed-own w instruction found =
      let t = exchange_of w p in
      let gone = closed-gone p.link instruction shut in
      let same : exchanged t instruction ≡ t =
      ap (λ b. if b then t else done t instruction) gone in (
        ap (λ v. participant_of v number) (own-becomes w number p instruction found)
            ∙ ap (λ u. participant_of (with_exchange w number u) number) same
            ∙ with-own w number p t found,
        own-answered number w p instruction found
            ∙ ap (λ b. said_reply t (message_sent
            (if b then Rests else done_move t instruction))) gone,
      )

  closed-act : (w : World) (action : Action) → participant_of w number ≡ Some p
      → (participant_of (after w action) number ≡ Some p) × (own_answer number w action ≡ [])
  closed-act w action found =
      ⊎_elim
      (λ (own : (instruction : Instruction) × (action ≡ Act number instruction)).
      subst (λ a. (participant_of (after w a) number ≡ Some p) × (own_answer number w a ≡ []))
      (sym own.1) (closed-own w own.0 found))
      (λ (other : (instruction : Instruction) → action ≡ Act number instruction → ⊥).
      (other-stays w action number p found other, other-silent number w action other))
      (own-or-other number action)

  closed-silent : (w : World) (actions : List Action) → participant_of w number ≡ Some p
      → own_answers number w actions ≡ []
  closed-silent w [] found = refl
  closed-silent w (action ∷ actions) found =
      let one = closed-act w action found in
      ap (λ answers. answers ++ own_answers number (after w action) actions) one.1
      ∙ closed-silent (after w action) actions one.0

-- ---- the answers to a reset

drop-none : (n : ℕ) → drop {A = Reply} n [] ≡ []
drop-none zero = refl
drop-none (suc n) = refl

-- the answers that are still to come to parts and to the end, and those after them
abbrev pub rest_answers : List Draw → ℕ → List Reply → List Reply
rest_answers todo epoch rest = map (λ command. reply.Noted) todo ++ reply.Placed epoch 0 ∷ rest

-- the messages that are still to be sent
abbrev pub rest_messages : List Draw → List Msg → List Msg
rest_messages todo behind = map msg.Part todo ++ msg.Control ResetEnd ∷ behind

some-answer : (todo : List Draw) (epoch : ℕ) (rest : List Reply)
    → [] ≡ rest_answers todo epoch rest → ⊥
some-answer [] epoch rest is = cc
some-answer (command ∷ todo) epoch rest is = cc

-- none of them is a Disconnect
not-leaving : (todo : List Draw) (behind : List Msg) (m : Msg) (rest : List Msg)
    → rest_messages todo behind ≡ m ∷ rest → is_disconnect m ≡ true → ⊥
not-leaving [] behind m rest is leaves =
    let same : msg.Control ResetEnd ≡ m = cc in
    let no : false ≡ true = ap is_disconnect same ∙ leaves in cc
not-leaving (command ∷ todo) behind m rest is leaves =
    let same : msg.Part command ≡ m = cc in
    let no : false ≡ true = ap is_disconnect same ∙ leaves in cc

module _ (laws : Leading) (moves : InstructionsAreMoves)
    (stays : (w : World) (action : Action) → IsWorld w → IsWorld (after w action))
    (number epoch : ℕ) (place : Option ℕ) where
  -- what stays true of the opened epoch along actions
  opened-along : (commands : List Draw) (w : World) (actions : List Action) → IsWorld w
      → OpenedWith epoch place commands (state_of w.past)
      → OpenedWith epoch place commands (state_of (fold after w actions).past)
  opened-along commands w [] world h = h
  opened-along commands w (action ∷ actions) world h =
      opened-along commands (after w action) actions (stays w action world)
      (action-keeps moves (λ past. OpenedWith epoch place commands (state_of past)) (λ e. Unit {0})
      laws.before (step-opened laws epoch place commands) w action world.before
      (all-may w action) h)

  module _ (rest : List Reply) where
    -- If the begin was noted and these parts after it, the parts that are left are noted along the
    -- actions. The end opens the epoch.
    abbrev Sends : List Action → Type 0
    Sends actions =
        (w : World) (so_far todo : List Draw) (p : Participant) (behind : List Msg) → IsWorld w
        → participant_of w number ≡ Some p → is_closed p.link ≡ false
        → p.uplink ≡ rest_messages todo behind → Owns number place so_far (state_of w.past).stream
        → own_answers number w actions ≡ rest_answers todo epoch rest
        → OpenedWith epoch place (so_far ++ todo) (state_of (fold after w actions).past)

    sending : (actions : List Action) → Sends actions
    sending [] w so_far todo p behind world found up uplink owns are =
        absurd (some-answer todo epoch rest are)
    sending (action ∷ actions) w so_far todo p behind world found up uplink owns are =
        act-move moves (λ past. Owns number place so_far (state_of past).stream) number laws.before
        (step-owned laws number place so_far) w world p found up owns
        (λ v answers. IsWorld v
        → answers ++ own_answers number v actions ≡ rest_answers todo epoch rest
        → OpenedWith epoch place (so_far ++ todo) (state_of (fold after v actions).past))
        (λ v q more there now still owned. λ world' are'.
        sending actions v so_far todo q (behind ++ more) world' there still
        (now ∙ ap (λ ms. ms ++ more) uplink
        ∙ append_assoc (map msg.Part todo) (msg.Control ResetEnd ∷ behind) more) owned are')
        (λ v q m after_it there first now still past. λ world' are'.
        hear (sending actions) v q m after_it todo refl there (sym uplink ∙ first) now still past
        world' are')
        (λ v q answers there shut end. λ world' are'.
        absurd (closing v q answers there shut end are'))
        action (stays w action world) are
      where
        closing : (v : World) (q : Participant) (answers : List Reply)
            → participant_of v number ≡ Some q → is_closed q.link ≡ true → IsEnd p.uplink answers
            → answers ++ own_answers number v actions ≡ rest_answers todo epoch rest → ⊥
        closing v q answers there shut end are =
            ⊎_elim
            (λ (none : answers ≡ []).
            some-answer todo epoch rest
            (sym (closed-silent number q shut v actions there)
            ∙ sym (ap (λ rs. rs ++ own_answers number v actions) none) ∙ are))
            (λ (left : (m : Msg) × (rest : List Msg) × (r : Reply) × (p.uplink ≡ m ∷ rest)
            × (is_disconnect m ≡ true) × (answers ≡ r ∷ [])).
            not-leaving todo behind left.0 left.1 (sym uplink ∙ left.3) left.4)
            end

        hear : Sends actions → (v : World) (q : Participant) (m : Msg) (after_it : List Msg)
            (left : List Draw)
            → todo ≡ left → participant_of v number ≡ Some q
            → rest_messages todo behind ≡ m ∷ after_it → q.uplink ≡ after_it
            → is_closed q.link ≡ false → v.past ≡ sure_step w.past (event.Say number m)
            → IsWorld v
            → sure_answer w.past (event.Say number m) ∷ [] ++ own_answers number v actions
            ≡ rest_answers todo epoch rest
            → OpenedWith epoch place (so_far ++ todo) (state_of (fold after v actions).past)
        hear go v q m after_it [] none there first now still past world' are' =
            let whole : msg.Control ResetEnd ∷ behind ≡ m ∷ after_it =
            sym (ap (λ list. rest_messages list behind) none) ∙ first in
            let same : m ≡ msg.Control ResetEnd = cc in
            let all : sure_answer w.past (event.Say number m) ∷ own_answers number v actions
            ≡ reply.Placed epoch 0 ∷ rest =
            are' ∙ ap (λ list. rest_answers list epoch rest) none in
            let one : sure_answer w.past (event.Say number m) ≡ reply.Placed epoch 0 = cc in
            let now_opened = end-placed laws number epoch place so_far w.past world.before
            (subst (λ n. sure_answer w.past (event.Say number n) ≡ reply.Placed epoch 0) same one)
            owns in
            let opened : OpenedWith epoch place so_far (state_of v.past) =
            subst (λ past. OpenedWith epoch place so_far (state_of past))
            (sym (past ∙ ap (λ n. sure_step w.past (event.Say number n)) same)) now_opened in
            subst (λ list. OpenedWith epoch place list (state_of (fold after v actions).past))
            (sym (ap (λ list. so_far ++ list) none ∙ append-nil so_far))
            (opened-along so_far v actions world' opened)
        hear go v q m after_it (command ∷ left) some there first now still past world' are' =
            let whole : msg.Part command ∷ rest_messages left behind ≡ m ∷ after_it =
            sym (ap (λ list. rest_messages list behind) some) ∙ first in
            let same : m ≡ msg.Part command = cc in
            let after_is : after_it ≡ rest_messages left behind = cc in
            let all : sure_answer w.past (event.Say number m) ∷ own_answers number v actions
            ≡ reply.Noted ∷ rest_answers left epoch rest =
            are' ∙ ap (λ list. rest_answers list epoch rest) some in
            let one : sure_answer w.past (event.Say number m) ≡ reply.Noted = cc in
            let others : own_answers number v actions ≡ rest_answers left epoch rest = cc in
            let noted = part-noted laws number place so_far command w.past world.before
            (subst (λ n. sure_answer w.past (event.Say number n) ≡ reply.Noted) same one) owns in
            let owned : Owns number place (so_far ++ command ∷ []) (state_of v.past).stream =
            subst (λ past. Owns number place (so_far ++ command ∷ []) (state_of past).stream)
            (sym (past ∙ ap (λ n. sure_step w.past (event.Say number n)) same)) noted in
            subst (λ list. OpenedWith epoch place list (state_of (fold after v actions).past))
            (append_assoc so_far (command ∷ []) left ∙ sym (ap (λ list. so_far ++ list) some))
            (go v (so_far ++ command ∷ []) left q behind world' there still (now ∙ after_is) owned
            others)

    -- what comes of a reset that stands on the uplink after other messages, with its begin
    abbrev SendsAfter : Msg → List Action → Type 0
    SendsAfter begin actions =
        (w : World) (commands : List Draw) (p : Participant) (ahead behind : List Msg) → IsWorld w
        → participant_of w number ≡ Some p → is_closed p.link ≡ false
        → p.uplink ≡ ahead ++ begin ∷ rest_messages commands behind
        → drop (length ahead) (own_answers number w actions)
        ≡ reply.Noted ∷ rest_answers commands epoch rest
        → OpenedWith epoch place commands (state_of (fold after w actions).past)

    pub queued : (begin : Msg) → Begins begin → place_in begin ≡ place → (actions : List Action)
        → SendsAfter begin actions
    queued begin how names [] w commands p ahead behind world found up uplink are =
        let no : [] ≡ reply.Noted ∷ rest_answers commands epoch rest =
        sym (drop-none (length ahead)) ∙ are in cc
    queued begin how names (action ∷ actions) w commands p ahead behind world found up uplink are =
        act-move moves (λ past. Unit {0}) number laws.before (λ past e shut far h. tt) w world p
        found up tt
        (λ v answers. IsWorld v
        → drop (length ahead) (answers ++ own_answers number v actions)
        ≡ reply.Noted ∷ rest_answers commands epoch rest
        → OpenedWith epoch place commands (state_of (fold after v actions).past))
        (λ v q more there now still unit. λ world' are'.
        queued begin how names actions v commands q ahead (behind ++ more) world' there still
        (now ∙ ap (λ ms. ms ++ more) uplink
        ∙ append_assoc ahead (begin ∷ rest_messages commands behind) more
        ∙ ap (λ ms. ahead ++ begin ∷ ms)
        (append_assoc (map msg.Part commands) (msg.Control ResetEnd ∷ behind) more)) are')
        (λ v q m after_it there first now still past. λ world' are'.
        hear (queued begin how names actions) (sending actions) v q m after_it ahead refl there
        (sym uplink ∙ first) now still past world' are')
        (λ v q answers there shut end. λ world' are'.
        absurd (closing v q answers there shut end ahead refl are'))
        action (stays w action world) are
      where
        closing : (v : World) (q : Participant) (answers : List Reply)
            → participant_of v number ≡ Some q → is_closed q.link ≡ true → IsEnd p.uplink answers
            → (front : List Msg) → ahead ≡ front
            → drop (length ahead) (answers ++ own_answers number v actions)
            ≡ reply.Noted ∷ rest_answers commands epoch rest → ⊥
        closing v q answers there shut end front is are =
            let silent = closed-silent number q shut v actions there in
            ⊎_elim
            (λ (none : answers ≡ []).
            let no : [] ≡ reply.Noted ∷ rest_answers commands epoch rest =
            sym (ap (λ rs. drop (length ahead) (rs ++ own_answers number v actions)) none
            ∙ ap (drop (length ahead)) silent ∙ drop-none (length ahead)) ∙ are in cc)
            (λ (left : (m : Msg) × (rest : List Msg) × (r : Reply) × (p.uplink ≡ m ∷ rest)
            × (is_disconnect m ≡ true) × (answers ≡ r ∷ [])).
            leaving front is left.0 left.1 left.2 (sym uplink ∙ left.3) left.4
            (sym (ap (λ rs. drop (length ahead) (rs ++ own_answers number v actions)) left.5
            ∙ ap (λ rs. drop (length ahead) (left.2 ∷ rs)) silent) ∙ are))
            end
          where
            leaving : (front : List Msg) → ahead ≡ front → (m : Msg) (after_it : List Msg)
                (r : Reply)
                → ahead ++ begin ∷ rest_messages commands behind ≡ m ∷ after_it
                → is_disconnect m ≡ true
                → drop (length ahead) (r ∷ []) ≡ reply.Noted ∷ rest_answers commands epoch rest → ⊥
            leaving [] is m after_it r first leaves are =
                let whole : begin ∷ rest_messages commands behind ≡ m ∷ after_it =
                sym (ap (λ ms. ms ++ begin ∷ rest_messages commands behind) is)
                ∙ first in
                let same : begin ≡ m = cc in
                let no : false ≡ true = sym how.endless ∙ ap is_disconnect same ∙ leaves in cc
            leaving (x ∷ front) is m after_it r first leaves are =
                let no : [] ≡ reply.Noted ∷ rest_answers commands epoch rest =
                sym (ap (λ ms. drop (length ms) (r ∷ [])) is ∙ drop-none (length front)) ∙ are in cc

        hear : SendsAfter begin actions → Sends actions → (v : World) (q : Participant) (m : Msg)
            (after_it front : List Msg)
            → ahead ≡ front → participant_of v number ≡ Some q
            → ahead ++ begin ∷ rest_messages commands behind ≡ m ∷ after_it
            → q.uplink ≡ after_it → is_closed q.link ≡ false
            → v.past ≡ sure_step w.past (event.Say number m) → IsWorld v
            → drop (length ahead)
            (sure_answer w.past (event.Say number m) ∷ [] ++ own_answers number v actions)
            ≡ reply.Noted ∷ rest_answers commands epoch rest
            → OpenedWith epoch place commands (state_of (fold after v actions).past)
        hear go send v q m after_it [] none there first now still past world' are' =
            let whole : begin ∷ rest_messages commands behind ≡ m ∷ after_it =
            sym (ap (λ ms. ms ++ begin ∷ rest_messages commands behind) none)
            ∙ first in
            let same : m ≡ begin = cc in
            let after_is : after_it ≡ rest_messages commands behind = cc in
            let all : sure_answer w.past (event.Say number m) ∷ own_answers number v actions
            ≡ reply.Noted ∷ rest_answers commands epoch rest =
            sym (ap (λ ms. drop (length ms)
            (sure_answer w.past (event.Say number m) ∷ own_answers number v actions)) none)
            ∙ are' in
            let one : sure_answer w.past (event.Say number m) ≡ reply.Noted = cc in
            let others : own_answers number v actions ≡ rest_answers commands epoch rest = cc in
            let noted = begin-noted laws number begin how w.past world.before
            (subst (λ n. sure_answer w.past (event.Say number n) ≡ reply.Noted) same one) in
            let owned : Owns number place [] (state_of v.past).stream =
            subst (λ past. Owns number place [] (state_of past).stream)
            (sym (past ∙ ap (λ n. sure_step w.past (event.Say number n)) same))
            (subst (λ o. Owns number o []
            (state_of (sure_step w.past (event.Say number begin))).stream) names noted) in
            send v [] commands q behind world' there still (now ∙ after_is) owned others
        hear go send v q m after_it (x ∷ front) some there first now still past world' are' =
            let tail = begin ∷ rest_messages commands behind in
            let whole : x ∷ (front ++ tail) ≡ m ∷ after_it =
            sym (ap (λ ms. ms ++ tail) some) ∙ first in
            let after_is : after_it ≡ front ++ tail = cc in
            go v commands q front behind world' there still (now ∙ after_is)
            (sym (ap (λ ms. drop (length ms)
            (sure_answer w.past (event.Say number m) ∷ own_answers number v actions)) some) ∙ are')
