-- Each client is where its own steps lead.
use Rattle.std.proofs.Common.{◌≡◌, ℕ, ◌+◌, ◌==◌, Bool, true, false, if◌then◌else◌}
use Rattle.std.proofs.Common.{List, [], ◌∷◌, ◌++◌, length, fold, map, Option, None, Some}
use Rattle.std.proofs.Common.{refl, sym, ap, subst, ◌∙◌, ⊎_elim, append-nil, append_assoc}
use Rattle.std.specs.Prelude.{IfSome}
use Rattle.std.specs.Option.{option_map_or}
use Rattle.std.proofs.lemmas.Bool.{cond_both, cases_eq, eq-eqb, ne_eqb}
use Rattle.std.proofs.lemmas.List.Sums.{fold-append}
use Rattle.dp_messages.specs.declared.message.Entry.{Entry}
use Rattle.dp_messages.specs.Properties.{marked}
use Rattle.dp_client.specs.Client as client
use Rattle.dp_client.specs.Client.{Step, Said, Took, is_first_mark, after_step, after_steps}
use Rattle.dp_epochs.specs.declared.event.Event.TheVariants as event
use Rattle.dp_epochs.specs.declared.event.Reply.{Reply}
use Rattle.dp_epochs.specs.declared.event.Reply.TheVariants as reply
use Rattle.dp_epochs.specs.Past.{Past, sure_step, sure_answer}
use Rattle.dp_schedule.specs.declared.action.Instruction.{Instruction}
use Rattle.dp_schedule.specs.declared.action.Action.{Action}
use Rattle.dp_schedule.specs.declared.action.Action.TheVariants.{Join, Act, Show}
use Rattle.dp_sim.specs.Exchanges.{Participant, Exchange, exchanged}
use Rattle.dp_sim.specs.Moves.{Queued, Saying, Move, Queues, forked_messages, with_queued}
use Rattle.dp_sim.specs.Moves.{after_move, instruction_move, InstructionsAreMoves}
use Rattle.dp_sim.specs.World.{World, participant_of, new_participant, with_joined, joined}
use Rattle.dp_sim.specs.World.{with_exchange, acted, after, first_world, world_after}
use Rattle.dp_sim.specs.Report.{along}
use Rattle.dp_sim_laws.specs.OwnSteps.{exchange_of, steps_of_move, steps_of_exchange, own_step}
use Rattle.dp_sim_laws.specs.OwnSteps.{own_steps, welcome_of, GoesBy}
use Rattle.dp_lists.specs.Numbered.{numbered}
use Rattle.dp_lists.proofs.Options.{if_some}
use Rattle.dp_lists.proofs.Numbered.{number-found, numbered-other, numbered-same, numbered-either}
use Rattle.dp_lists.proofs.Numbered.{numbered-past, numbered-none}

-- ---- a client's steps

welcome-took : (o : Option ℕ) (c : client.State) (entry : Entry)
    → welcome_of (client.took_at o c entry) ≡ welcome_of c
welcome-took None c entry = refl
welcome-took (Some epoch) c entry =
    cond_both (is_first_mark c epoch) (record c { taken = entry ∷ [] })
    (record c { epoch = epoch; taken = entry ∷ []; fork = [] }) (λ d. welcome_of d ≡ welcome_of c)
    (λ yes. refl) (λ no. refl)

-- steps leave what the Welcome said
pub welcome-steps : (c : client.State) (steps : List Step)
    → welcome_of (after_steps c steps) ≡ welcome_of c
welcome-steps c [] = refl
welcome-steps c (Said m ∷ steps) = welcome-steps (client.said c m) steps
welcome-steps c (Took entry ∷ steps) =
    welcome-steps (client.took c entry) steps ∙ welcome-took (marked entry.msg) c entry

-- a client that was where steps lead, after more steps
pub goes-more : (c d : client.State) (steps more : List Step) → GoesBy c steps
    → d ≡ after_steps c more
    → GoesBy d (steps ++ more)
goes-more c d steps more goes is =
    let same : welcome_of d ≡ welcome_of c = ap welcome_of is ∙ welcome-steps c more in
    is ∙ ap (λ b. after_steps b more) (goes ∙ ap (λ w. after_steps w steps) (sym same))
    ∙ sym (fold-append after_step (welcome_of d) steps more)

-- ---- an exchange

queued-steps : (p : Participant) (queued : Queued) → (with_queued p queued).state
    ≡ after_steps p.state (map Said (forked_messages queued))
queued-steps p (Saying m) = refl
queued-steps p queued = ap (λ fork. record p.state { fork = fork }) (append-nil p.state.fork)

move-steps : (t : Exchange) (move : Move) → (after_move t move).participant.state
    ≡ after_steps t.participant.state (steps_of_move move)
move-steps t (Queues queued) = queued-steps t.participant queued
move-steps t move = refl

-- an exchange leads where its steps do
pub exchange-steps : InstructionsAreMoves → (t : Exchange) (instruction : Instruction)
    → (exchanged t instruction).participant.state ≡ after_steps t.participant.state
    (steps_of_exchange t instruction)
exchange-steps moves t instruction =
    ap (λ u. u.participant.state) (moves t instruction).made
    ∙ move-steps t (instruction_move t instruction)

-- ---- worlds

-- the client of the number, if there is one, is where the steps lead; and if there is none, there
-- are none
pub record Goes (w : World) (number : ℕ) (steps : List Step) : Type 0 where
  pub none : participant_of w number ≡ None → steps ≡ []
  pub some : (participant : Participant) → participant_of w number ≡ Some participant
      → GoesBy participant.state steps

goes-participants : (w v : World) (number : ℕ) (steps : List Step)
    → participant_of v number ≡ participant_of w number → Goes w number steps
    → Goes v number steps
goes-participants w v number steps same h = record {
  none = λ is. h.none (sym same ∙ is);
  some = λ participant is. h.some participant (sym same ∙ is);
}

goes-joined : (w : World) (past : Past) (r : Reply) (number : ℕ) (steps : List Step)
    → Goes w number steps
    → Goes (record { past = past; participants = with_joined w.participants r }) number steps
goes-joined w past (reply.Opened conn user epoch at) number steps h = record {
  none = λ is. h.none (numbered-none w.participants (new_participant conn user epoch at ∷ []) number
      is);
  some = λ participant is. ⊎_elim (λ (old : numbered w.participants number ≡ Some participant).
      h.some participant old)
      (λ (new : (number ≡ length w.participants + 1) × (participant
      ≡ new_participant conn user epoch at)).
      let no : steps ≡ [] = h.none (numbered-past w.participants number new.0) in
      subst (λ p. GoesBy p.state steps) (sym new.1)
      (subst (GoesBy (new_participant conn user epoch at).state) (sym no) refl))
      (numbered-either w.participants (new_participant conn user epoch at) number participant is);
}
goes-joined w past r number steps h = record { none = h.none; some = h.some }

-- no steps, whether it is the client's exchange or not
pub none-if : (b : Bool) (steps : List Step) → steps ≡ [] → (if b then steps else []) ≡ steps
none-if true steps is = refl
none-if false steps is = sym is

-- the exchange of a client of another number
goes-other : (w : World) (number actor : ℕ) (participant : Participant) (t : Exchange)
    (steps : List Step) → participant_of w actor ≡ Some participant
    → (number ≡ actor → ⊥) → Goes w number steps → Goes (with_exchange w actor t) number steps
goes-other w number actor participant t steps found ne h =
    let above = number-found w.participants actor participant found in
    goes-participants w (with_exchange w actor t) number steps
    (numbered-other w.participants actor number t.participant above.0 ne) h

-- and of the client itself
goes-exchanged : (w : World) (number : ℕ) (participant : Participant) (t : Exchange)
    (steps more : List Step) → participant_of w number ≡ Some participant
    → t.participant.state ≡ after_steps participant.state more → Goes w number steps
    → Goes (with_exchange w number t) number (steps ++ more)
goes-exchanged w number participant t steps more found is h =
    let there = numbered-same w.participants number participant t.participant found in
    record {
      none = λ no. let e : None ≡ Some t.participant = sym no ∙ there in cc;
      some = λ other yes.
          let e : Some t.participant ≡ Some other = sym there ∙ yes in
          let same : t.participant ≡ other = cc in
          subst (λ p. GoesBy p.state (steps ++ more)) same
          (goes-more participant.state t.participant.state steps more (h.some participant found)
          is);
    }

goes-acted : InstructionsAreMoves → (w : World) (number actor : ℕ) (instruction : Instruction)
    (steps : List Step) → Goes w number steps
    → Goes (acted w actor instruction) number (steps ++ own_step number w (Act actor instruction))
goes-acted moves w number actor instruction steps h = by_participant (participant_of w actor) refl
  where
    by_participant : (o : Option Participant) → participant_of w actor ≡ o
        → Goes (option_map_or (λ participant. with_exchange w actor
        (exchanged (exchange_of w participant) instruction)) o w) number
        (steps ++ (if actor == number then option_map_or
        (λ participant. steps_of_exchange (exchange_of w participant) instruction) o [] else []))
    by_participant None found = subst (Goes w number) (sym (ap (λ more. steps ++ more)
        (none-if (actor == number) [] refl) ∙ append-nil steps)) h
    by_participant (Some participant) found =
        let t = exchanged (exchange_of w participant) instruction in
        ⊎_elim (λ (same : number ≡ actor).
        subst (λ b. Goes (with_exchange w actor t) number
        (steps ++ (if b then steps_of_exchange (exchange_of w participant) instruction else [])))
        (sym (eq-eqb actor number (sym same)))
        (subst (λ n. Goes (with_exchange w n t) number (steps
        ++ steps_of_exchange (exchange_of w participant) instruction)) same
        (goes-exchanged w number participant t steps (steps_of_exchange (exchange_of w participant)
        instruction) (ap (participant_of w) same ∙ found)
        (exchange-steps moves (exchange_of w participant) instruction) h)))
        (λ (ne : number ≡ actor → ⊥).
        subst (λ b. Goes (with_exchange w actor t) number
        (steps ++ (if b then steps_of_exchange (exchange_of w participant) instruction else [])))
        (sym (ne_eqb actor number (λ e. ne (sym e))))
        (subst (Goes (with_exchange w actor t) number) (sym (append-nil steps))
        (goes-other w number actor participant t steps found ne h)))
        (cases_eq number actor)

-- so after an action
pub goes-after : InstructionsAreMoves → (w : World) (number : ℕ) (action : Action)
    (steps : List Step) → Goes w number steps
    → Goes (after w action) number (steps ++ own_step number w action)
goes-after moves w number (Join name registered) steps h =
    subst (Goes (joined w registered name) number) (sym (append-nil steps))
    (goes-joined w (sure_step w.past (event.Open name registered))
    (sure_answer w.past (event.Open name registered)) number steps h)
goes-after moves w number (Act actor instruction) steps h =
    goes-acted moves w number actor instruction steps h
goes-after moves w number (Show actor kind) steps h =
    subst (Goes w number) (sym (append-nil steps)) h

pub goes-first : (number : ℕ) → Goes first_world number []
goes-first number = record {
  none = λ is. refl;
  some = λ participant is. let found = number-found [] number participant is in let no : None
      ≡ Some participant = found.1 in cc;
}

goes-along : InstructionsAreMoves → (w : World) (number : ℕ) (actions : List Action)
    (steps : List Step) → Goes w number steps
    → Goes (fold after w actions) number (steps ++ along (own_step number) w actions)
goes-along moves w number [] steps h = subst (Goes w number) (sym (append-nil steps)) h
goes-along moves w number (action ∷ actions) steps h =
    subst (Goes (fold after w (action ∷ actions)) number)
    (append_assoc steps (own_step number w action) (along (own_step number) (after w action)
    actions))
    (goes-along moves (after w action) number actions (steps ++ own_step number w action)
    (goes-after moves w number action steps h))

-- each client of a world after a schedule is where its own steps lead
pub goes-by : InstructionsAreMoves → (actions : List Action) (number : ℕ)
    → IfSome (participant_of (world_after actions) number)
    (λ participant. GoesBy participant.state (own_steps number actions))
goes-by moves actions number =
    let h = goes-along moves first_world number actions [] (goes-first number) in
    if_some (participant_of (world_after actions) number)
    (λ participant. GoesBy participant.state (own_steps number actions)) h.some
