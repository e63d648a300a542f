-- Worlds: what holds of a client and its sends holds after each action.
use Rattle.std.proofs.Common.{◌≡◌, ℕ, ◌+◌, ◌≤◌, ◌==◌, Bool, true, false, if◌then◌else◌}
use Rattle.std.proofs.Common.{List, [], ◌∷◌, ◌++◌, length, drop, fold, Option, None, Some}
use Rattle.std.proofs.Common.{refl, sym, ap, subst, ◌∙◌, ⊎_elim, arith, append-nil, append_assoc}
use Rattle.std.specs.Prelude.{◌↔◌, IsTrue, IfSome}
use Rattle.std.specs.List.{AllByRecursion}
use Rattle.std.specs.Option.{option_map_or}
use Rattle.std.proofs.lemmas.Bool.{cases_eq, eq-eqb, ne_eqb}
use Rattle.std.proofs.lemmas.List.Elements.{recursion_from_All}
use Rattle.dp_messages.specs.declared.message.Msg.{Msg}
use Rattle.dp_messages.specs.declared.message.Entry.{Entry}
use Rattle.dp_messages.specs.Equality.{same_message}
use Rattle.dp_client.specs.Client as client
use Rattle.dp_client.specs.Client.{Step, after_step, after_steps, last_before, own_of}
use Rattle.dp_client.specs.Taking.{EntriesAreTaken}
use Rattle.dp_fork.specs.declared.own.Own.TheVariants.{Lost}
use Rattle.dp_epochs.specs.declared.event.Event.{Event}
use Rattle.dp_epochs.specs.declared.event.Event.TheVariants as event
use Rattle.dp_epochs.specs.declared.event.Reply.{Reply}
use Rattle.dp_epochs.specs.declared.event.Reply.TheVariants as reply
use Rattle.dp_epochs.specs.State.{open_connection, after_event}
use Rattle.dp_epochs.specs.Past.{Past, state_of, kept, sure_step, sure_answer}
use Rattle.dp_epochs.specs.Effects.{EventsHaveEffects, DecisionsHaveEffects, EffectsAreMade}
use Rattle.dp_epochs.specs.Laws.{AreHistories, ShutBefore}
use Rattle.dp_schedule.specs.declared.action.Instruction.{Instruction}
use Rattle.dp_schedule.specs.declared.action.Instruction.TheVariants.{Take}
use Rattle.dp_schedule.specs.declared.action.Action.{Action}
use Rattle.dp_schedule.specs.declared.action.Action.TheVariants.{Join, Act, Show}
use Rattle.dp_sim.specs.Exchanges.{Participant, Exchange, is_gone, exchanged, next_entry}
use Rattle.dp_sim.specs.World.{World, participant_of, new_participant, with_joined, joined}
use Rattle.dp_sim.specs.World.{with_exchange, acted, after, first_world, world_after}
use Rattle.dp_sim.specs.Report.{along}
use Rattle.dp_sim.specs.Invariant.{IsWorld, IsParticipant, IsSayable, SaysNoControl}
use Rattle.dp_sim.specs.Moves.{InstructionsAreMoves}
use Rattle.dp_sim.proofs.Moves.{not-gone}
use Rattle.dp_sim_laws.specs.OwnSteps.{exchange_of, next_of, steps_of_exchange, own_step, own_steps}
use Rattle.dp_sim_laws.specs.OwnSteps.{welcome_of, GoesBy}
use Rattle.dp_sim_laws.specs.Tally.{Tally, no_sends, tally_step, tally_from, tally_of}
use Rattle.dp_sim_laws.specs.Tally.{exchange_replies, replies, IsUnended}
use Rattle.dp_lists.specs.Numbered.{numbered}
use Rattle.dp_lists.proofs.Options.{at_some, if_some}
use Rattle.dp_lists.proofs.Numbered.{number-found, numbered-other, numbered-same, numbered-either}
use Rattle.dp_lists.proofs.Numbered.{numbered-past}
use Rattle.dp_sim_laws.proofs.Steps.{none-if, Goes, goes-after, goes-first, welcome-steps}
use Rattle.dp_sim_laws.proofs.Steps.{exchange-steps}
use Rattle.dp_sim_laws.proofs.Answering.{answers_from, Answer}
use Rattle.dp_sim_laws.proofs.Events.{HasPeople, first-people, Everyone, NotThis, Passes, Opens}
use Rattle.dp_sim_laws.proofs.Events.{Welcomes, Leading, opens-open}
use Rattle.dp_sim_laws.proofs.Clients.{NeverEnds, Holds, holds-passes, exchange-passes}
use Rattle.dp_sim_laws.proofs.Clients.{holds-exchanged, next-kept}

-- ---- tallies

tally-append : (c : client.State) (t : Tally) (steps more : List Step)
    → tally_from c t (steps ++ more) ≡ tally_from (after_steps c steps) (tally_from c t steps) more
tally-append c t [] more = refl
tally-append c t (step ∷ steps) more = tally-append (after_step c step) (tally_step c t step) steps
    more

-- the tally of a client after more steps
tally-more : (c d : client.State) (steps more : List Step) → GoesBy c steps → d ≡ after_steps c more
    → tally_of d (steps ++ more) ≡ tally_from c (tally_of c steps) more
tally-more c d steps more goes is =
    let same : welcome_of d ≡ welcome_of c = ap welcome_of is ∙ welcome-steps c more in
    ap (λ w. tally_from w no_sends (steps ++ more)) same
    ∙ tally-append (welcome_of c) no_sends steps more
    ∙ ap (λ b. tally_from b (tally_of c steps) more) (sym goes)

-- ---- worlds

-- what is true of a world and the client of a number, which did these steps
pub record Good (w : World) (number : ℕ) (steps : List Step) : Type 0 where
  pub world : IsWorld w
  pub people : HasPeople (state_of w.past)
  pub goes : Goes w number steps
  pub holds : (p : Participant) → participant_of w number ≡ Some p
      → Holds (state_of w.past) number p (tally_of p.state steps)

-- an action leaves this of it
record Leaves (v : World) (number : ℕ) (steps : List Step) : Type 0 where
  pub people : HasPeople (state_of v.past)
  pub holds : (p : Participant) → participant_of v number ≡ Some p
      → Holds (state_of v.past) number p (tally_of p.state steps)

-- ---- joining

-- a client that was just welcomed
holds-new : (past : Past) (number conn user epoch at : ℕ)
    → Welcomes conn user epoch at (state_of past) → conn ≡ number
    → Holds (state_of past) number (new_participant conn user epoch at) no_sends
holds-new past number conn user epoch at w is =
    let s = state_of past in
    let p = new_participant conn user epoch at in
    let base : last_before p.state ≡ at =
    ap (λ b. if b then at else 0) (eq-eqb epoch epoch refl) in
    record {
      few = omega arith;
      fork = refl;
      live = λ here. record {
        connection = w.connection;
        found = subst (λ n. open_connection s n ≡ Some w.connection) is w.found;
        user = w.whose;
        known = omega (arith, w.opened);
        stands = tt;
        endless = λ on. tt;
        here = λ same. record {
          base = omega (arith, base, w.base);
          sent = [];
          sends = refl;
          answered = subst (λ ms. Answer ms []) (sym (ap (λ n. answers_from user n 0 s.live) base
              ∙ w.none)) tt;
          taken = refl;
          more = λ on. w.ready;
        };
        lags = λ less. absurd (omega (arith, less, w.opened));
      };
    }

holds-joined : (w : World) (past : Past) (r : Reply) (number : ℕ) (steps : List Step)
    → Good w number steps
    → Opens (state_of w.past) r (state_of past) → IsWorld
    (record { past = past; participants = with_joined w.participants r })
    → (p : Participant) → numbered (with_joined w.participants r) number ≡ Some p
    → Holds (state_of past) number p (tally_of p.state steps)
holds-joined w past (reply.Opened conn user epoch at) number steps h opens world p is =
    ⊎_elim (λ (old : numbered w.participants number ≡ Some p).
    holds-passes (state_of w.past) (state_of past) Everyone number p (tally_of p.state steps)
    h.people opens.passes tt (h.holds p old))
    (λ (new : (number ≡ length w.participants + 1) × (p ≡ new_participant conn user epoch at)).
    let none : steps ≡ [] = h.goes.none (numbered-past w.participants number new.0) in
    let hp = at_some (numbered (w.participants ++ new_participant conn user epoch at ∷ []) number)
    (IsParticipant (state_of past) number) p
    (world.participants number) is in
    let same : conn ≡ number = ap (λ q. q.conn) (sym new.1) ∙ hp.conn in
    subst (λ s. Holds (state_of past) number p (tally_of p.state s)) (sym none)
    (subst (λ q. Holds (state_of past) number q no_sends) (sym new.1)
    (holds-new past number conn user epoch at opens.tells same)))
    (numbered-either w.participants (new_participant conn user epoch at) number p is)
holds-joined w past r number steps h opens world p is =
    holds-passes (state_of w.past) (state_of past) Everyone number p (tally_of p.state steps)
    h.people opens.passes tt (h.holds p is)

leaves-joined : Leading → (w : World) (number : ℕ) (registered : Bool) (name : List ℕ)
    (steps : List Step) → Good w number steps
    → IsWorld (joined w registered name) → NeverEnds (replies w (Join name registered))
    → Leaves (joined w registered name) number steps
leaves-joined laws w number registered name steps h world goes =
    let e = event.Open name registered in
    let opens = opens-open laws w.past name registered h.world.before goes.0 h.people in
    record {
      people = opens.passes.people;
      holds = holds-joined w (sure_step w.past e) (sure_answer w.past e) number steps h opens world;
    }

-- ---- acting

-- the exchange of a client of another number
holds-other : (w : World) (number actor : ℕ) (participant : Participant) (t : Exchange)
    (steps : List Step) → Good w number steps
    → participant_of w actor ≡ Some participant → Passes (state_of w.past)
    (NotThis participant.conn) (state_of t.past) → (number ≡ actor → ⊥)
    → (p : Participant) → participant_of (with_exchange w actor t) number ≡ Some p
    → Holds (state_of t.past) number p (tally_of p.state steps)
holds-other w number actor participant t steps h found passes ne p is =
    let above = number-found w.participants actor participant found in
    let before : participant_of w number ≡ Some p = sym (numbered-other w.participants actor number
    t.participant above.0 ne) ∙ is in
    let hp = at_some (participant_of w actor) (IsParticipant (state_of w.past) actor) participant
    (h.world.participants actor) found in
    holds-passes (state_of w.past) (state_of t.past) (NotThis participant.conn) number p
    (tally_of p.state steps) h.people passes
    (λ same. ne (same ∙ hp.conn)) (h.holds p before)

-- and of the client itself
holds-own : Leading → (w : World) (number : ℕ) (participant : Participant)
    (instruction : Instruction) (steps : List Step) → Good w number steps
    → participant_of w number ≡ Some participant → IsSayable instruction
    → NeverEnds (exchange_replies (exchange_of w participant) instruction)
    → (p : Participant) → participant_of (with_exchange w number
    (exchanged (exchange_of w participant) instruction)) number ≡ Some p
    → Holds (state_of (exchanged (exchange_of w participant) instruction).past) number p
    (tally_of p.state (steps ++ steps_of_exchange (exchange_of w participant) instruction))
holds-own laws w number participant instruction steps h found may goes p is =
    let t = exchanged (exchange_of w participant) instruction in
    let more = steps_of_exchange (exchange_of w participant) instruction in
    let hp = at_some (participant_of w number) (IsParticipant (state_of w.past) number) participant
    (h.world.participants number) found in
    let e : Some t.participant ≡ Some p = sym (numbered-same w.participants number participant
    t.participant found) ∙ is in
    let same : t.participant ≡ p = cc in
    let tally = tally-more participant.state t.participant.state steps more
    (h.goes.some participant found)
    (exchange-steps laws.moves (exchange_of w participant) instruction) in
    subst (λ q. Holds (state_of t.past) number q (tally_of q.state (steps ++ more))) same
    (subst (Holds (state_of t.past) number t.participant) (sym tally)
    (holds-exchanged laws number (exchange_of w participant) instruction
    (tally_of participant.state steps) h.world.before h.people hp may goes
    (h.holds participant found)))

leaves-acted : Leading → (w : World) (number actor : ℕ) (instruction : Instruction)
    (steps : List Step) → Good w number steps
    → IsSayable instruction → NeverEnds (replies w (Act actor instruction))
    → Leaves (acted w actor instruction) number (steps ++ own_step number w (Act actor instruction))
leaves-acted laws w number actor instruction steps h may goes =
    by_participant (participant_of w actor)
    refl goes
  where
    by_participant : (o : Option Participant) → participant_of w actor ≡ o
        → NeverEnds
        (option_map_or (λ participant. exchange_replies (exchange_of w participant) instruction)
        o [])
        → Leaves (option_map_or (λ participant. with_exchange w actor
        (exchanged (exchange_of w participant) instruction)) o w) number
        (steps ++ (if actor == number then option_map_or
        (λ participant. steps_of_exchange (exchange_of w participant) instruction) o [] else []))
    by_participant None found goes =
        subst (Leaves w number) (sym (ap (λ more. steps ++ more) (none-if (actor == number) [] refl)
        ∙ append-nil steps))
        (record { people = h.people; holds = h.holds })
    by_participant (Some participant) found goes =
        let t = exchanged (exchange_of w participant) instruction in
        let passes = exchange-passes laws (exchange_of w participant) instruction h.world.before
        h.people goes in
        ⊎_elim (λ (same : number ≡ actor).
        let there : participant_of w number ≡ Some participant = ap (participant_of w) same
        ∙ found in
        subst (λ b. Leaves (with_exchange w actor t) number
        (steps ++ (if b then steps_of_exchange (exchange_of w participant) instruction else [])))
        (sym (eq-eqb actor number (sym same)))
        (subst (λ n. Leaves (with_exchange w n t) number
        (steps ++ steps_of_exchange (exchange_of w participant) instruction)) same
        (record {
          people = passes.people;
          holds = holds-own laws w number participant instruction
              steps h there may goes;
        })))
        (λ (ne : number ≡ actor → ⊥).
        subst (λ b. Leaves (with_exchange w actor t) number
        (steps ++ (if b then steps_of_exchange (exchange_of w participant) instruction else [])))
        (sym (ne_eqb actor number (λ e. ne (sym e))))
        (subst (Leaves (with_exchange w actor t) number) (sym (append-nil steps))
        (record {
          people = passes.people;
          holds = holds-other w number actor participant t steps h
              found passes ne;
        })))
        (cases_eq number actor)

-- ---- schedules

leaves-after : Leading → (w : World) (number : ℕ) (action : Action) (steps : List Step)
    → Good w number steps
    → IsWorld (after w action) → SaysNoControl action → NeverEnds (replies w action)
    → Leaves (after w action) number (steps ++ own_step number w action)
leaves-after laws w number (Join name registered) steps h world may goes =
    subst (Leaves (joined w registered name) number) (sym (append-nil steps))
    (leaves-joined laws w number registered name steps h world goes)
leaves-after laws w number (Act actor instruction) steps h world may goes = leaves-acted laws w
    number actor instruction steps h may goes
leaves-after laws w number (Show actor kind) steps h world may goes =
    subst (Leaves w number) (sym (append-nil steps)) (record { people = h.people; holds = h.holds })

-- the laws of worlds that are used
pub record Staying : Type 0 where
  pub leading : Leading
  pub first : IsWorld first_world
  pub stays : (w : World) (action : Action) → IsWorld w → IsWorld (after w action)

pub staying : InstructionsAreMoves → DecisionsHaveEffects → EffectsAreMade
    → ((past : Past) (e : Event) → ShutBefore past
    → state_of (kept past e) ≡ after_event (state_of past) e)
    → ((past : Past) (e : Event) → ShutBefore past → ShutBefore (sure_step past e))
    → EventsHaveEffects → ((past : Past) → AreHistories (state_of past))
    → ((m n : Msg) → IsTrue (same_message m n) ↔ (m ≡ n)) → EntriesAreTaken
    → IsWorld first_world
    → ((w : World) (action : Action) → IsWorld w → IsWorld (after w action)) → Staying
staying moves decisions effect_made on_kept before effects marked equality taking first stays =
    record {
      leading = record {
        moves = moves;
        decisions = decisions;
        effect_made = effect_made;
        on_kept = on_kept;
        before = before;
        effects = effects;
        marked = marked;
        same = λ m. (equality m m).1 refl;
        taking = taking;
      };
      first = first;
      stays = stays;
    }

good-after : Staying → (w : World) (number : ℕ) (action : Action) (steps : List Step)
    → Good w number steps
    → SaysNoControl action → NeverEnds (replies w action)
    → Good (after w action) number (steps ++ own_step number w action)
good-after laws w number action steps h may goes =
    let world = laws.stays w action h.world in
    let leaves = leaves-after laws.leading w number action steps h world may goes in
    record {
      world = world;
      people = leaves.people;
      goes = goes-after laws.leading.moves w number action steps h.goes;
      holds = leaves.holds;
    }

ends-split : (xs ys : List Reply) → NeverEnds (xs ++ ys) → NeverEnds xs × NeverEnds ys
ends-split [] ys h = (tt, h)
ends-split (x ∷ xs) ys h = let s = ends-split xs ys h.1 in ((h.0, s.0), s.1)

good-along : Staying → (w : World) (number : ℕ) (actions : List Action) (steps : List Step)
    → Good w number steps
    → AllByRecursion SaysNoControl actions → NeverEnds (along replies w actions)
    → Good (fold after w actions) number (steps ++ along (own_step number) w actions)
good-along laws w number [] steps h may goes = subst (Good w number) (sym (append-nil steps)) h
good-along laws w number (action ∷ actions) steps h may goes =
    let two = ends-split (replies w action) (along replies (after w action) actions) goes in
    subst (Good (fold after w (action ∷ actions)) number)
    (append_assoc steps (own_step number w action) (along (own_step number) (after w action)
    actions))
    (good-along laws (after w action) number actions (steps ++ own_step number w action)
    (good-after laws w number action steps h may.0 two.0) may.1 two.1)

none-first : {X : Type 0} (number : ℕ) (x : X) → numbered [] number ≡ Some x → ⊥
none-first number x is = let found = number-found [] number x is in let no : None
    ≡ Some x = found.1 in cc

good-first : Staying → (number : ℕ) → Good first_world number []
good-first laws number = record {
  world = laws.first;
  people = first-people;
  goes = goes-first number;
  holds = λ p is. absurd (none-first number p is);
}

good : Staying → (actions : List Action) (number : ℕ) → IsUnended actions
    → Good (world_after actions) number (own_steps number actions)
good laws actions number h =
    good-along laws first_world number actions [] (good-first laws number)
    (recursion_from_All SaysNoControl actions h.said)
    (recursion_from_All (λ answer. answer ≡ reply.Ended → ⊥) (along replies first_world actions)
    h.replies)

-- ---- the laws

pub few-answers : Staying → (actions : List Action) (number : ℕ) → IsUnended actions
    → IfSome (participant_of (world_after actions) number) (λ participant.
    (tally_of participant.state (own_steps number actions)).answers
    ≤ length (tally_of participant.state (own_steps number actions)).sends)
few-answers laws actions number h =
    let g = good laws actions number h in
    if_some (participant_of (world_after actions) number) (λ participant.
    (tally_of participant.state (own_steps number actions)).answers
    ≤ length (tally_of participant.state (own_steps number actions)).sends)
    (λ p is. (g.holds p is).few)

pub fork-plain : Staying → (actions : List Action) (number : ℕ) → IsUnended actions
    → IfSome (participant_of (world_after actions) number) (λ participant. participant.state.fork
    ≡ drop (tally_of participant.state (own_steps number actions)).answers
    (tally_of participant.state (own_steps number actions)).sends)
fork-plain laws actions number h =
    let g = good laws actions number h in
    if_some (participant_of (world_after actions) number) (λ participant. participant.state.fork
    ≡ drop (tally_of participant.state (own_steps number actions)).answers
    (tally_of participant.state (own_steps number actions)).sends)
    (λ p is. (g.holds p is).fork)

next-some : (w : World) (p : Participant) (entry : Entry) → next_of w p ≡ Some entry
    → (is_gone p.link Take ≡ false) × (next_entry (exchange_of w p) ≡ Some entry)
next-some w p entry = by_gone (is_gone p.link Take)
  where
    by_gone : (b : Bool) → (if b then None else next_entry (exchange_of w p)) ≡ Some entry
        → (b ≡ false) × (next_entry (exchange_of w p) ≡ Some entry)
    by_gone true is = cc
    by_gone false is = (refl, is)

pub fork-kept : Staying → (actions : List Action) (number : ℕ) → IsUnended actions
    → IfSome (participant_of (world_after actions) number) (λ participant.
    IfSome (next_of (world_after actions) participant) (λ entry. own_of participant.state entry
    ≡ Lost → ⊥))
fork-kept laws actions number h =
    let g = good laws actions number h in
    let w = world_after actions in
    if_some (participant_of w number) (λ participant. IfSome (next_of w participant)
    (λ entry. own_of participant.state entry ≡ Lost → ⊥))
    (λ p is. if_some (next_of w p) (λ entry. own_of p.state entry ≡ Lost → ⊥)
    (λ entry next.
    let hp = at_some (participant_of w number) (IsParticipant (state_of w.past) number) p
    (g.world.participants number) is in
    let some = next-some w p entry next in
    next-kept laws.leading number (exchange_of w p) (tally_of p.state (own_steps number actions))
    entry
    g.people hp (g.holds p is) (not-gone p.link Take some.0) some.1))
