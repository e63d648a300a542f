-- What holds of the session's past through an action, if each event that may come keeps it; and
-- what an action leaves of one client.
use Rattle.std.proofs.Common.{◌≡◌, ℕ, List, ◌∷◌, None, Some, sym, ap, subst, ◌∙◌}
use Rattle.std.specs.Prelude.{All}
use Rattle.std.specs.Option.{option_map_or}
use Rattle.std.proofs.lemmas.List.Elements.{All-head}
use Rattle.dp_messages.specs.declared.message.Msg.{Msg}
use Rattle.dp_epochs.specs.declared.event.Event.{Event}
use Rattle.dp_epochs.specs.declared.event.Event.TheVariants as event
use Rattle.dp_epochs.specs.declared.event.Reply.{Reply}
use Rattle.dp_epochs.specs.declared.event.Reply.TheVariants as reply
use Rattle.dp_epochs.specs.Past.{Past, sure_step, sure_answer}
use Rattle.dp_epochs.specs.Laws.{ShutBefore}
use Rattle.dp_schedule.specs.declared.action.Instruction.{Instruction}
use Rattle.dp_schedule.specs.declared.action.Action.{Action}
use Rattle.dp_schedule.specs.declared.action.Action.TheVariants.{Join, Act, Show}
use Rattle.dp_sim.specs.Exchanges.{Participant, Exchange, exchanged}
use Rattle.dp_sim.specs.Moves.{Move, SendsFirst, Closes, IsMoveBy, after_move, instruction_move}
use Rattle.dp_sim.specs.Moves.{InstructionsAreMoves}
use Rattle.dp_sim.specs.World.{World, participant_of, with_joined, after, with_exchange}
use Rattle.dp_lists.specs.Numbered.{numbered}
use Rattle.dp_lists.proofs.Options.{option_either}
use Rattle.dp_lists.proofs.Numbered.{number-found, numbered-other, numbered-old}
use Rattle.dp_sim_laws.specs.OwnSteps.{exchange_of}

-- ---- the session

-- each message of the uplink may come, and the Close
abbrev pub MaySend : (Event → Type 0) → Participant → Type 0
MaySend May p = All (λ m. May (event.Say p.conn m)) p.uplink × May (event.Close p.conn)

-- the events of the action may come
abbrev pub MayAct : (Event → Type 0) → World → Action → Type 0
MayAct May w (Join name registered) = May (event.Open name registered)
MayAct May w (Act client instruction) =
    (p : Participant) → participant_of w client ≡ Some p → MaySend May p
MayAct May w (Show client kind) = Unit {0}

-- any event may come
pub all-may : (w : World) (action : Action) → MayAct (λ e. Unit {0}) w action
all-may w (Join name registered) = tt
all-may w (Act client instruction) = λ p found. (λ k m less. tt, tt)
all-may w (Show client kind) = tt

module _ (moves : InstructionsAreMoves) (P : Past → Type 0) (May : Event → Type 0)
    (before : (past : Past) (e : Event) → ShutBefore past → ShutBefore (sure_step past e))
    (step : (past : Past) (e : Event) → ShutBefore past → May e → P past → P (sure_step past e))
  where
    first-may : (p : Participant) (m : Msg) (rest : List Msg) → MaySend May p → p.uplink ≡ m ∷ rest
        → May (event.Say p.conn m)
    first-may p m rest may is =
        All-head (λ n. May (event.Say p.conn n)) m rest
        (subst (All (λ n. May (event.Say p.conn n))) is may.0)

    move-keeps : (t : Exchange) (instruction : Instruction) (move : Move) → ShutBefore t.past
        → IsMoveBy t instruction move → MaySend May t.participant → P t.past
        → P (after_move t move).past
    move-keeps t instruction (SendsFirst m rest) shut is may h =
        step t.past (event.Say t.participant.conn m) shut (first-may t.participant m rest may is.1)
        h
    move-keeps t instruction (Closes None) shut is may h =
        step t.past (event.Close t.participant.conn) shut may.1 h
    move-keeps t instruction (Closes (Some m)) shut is may h =
        let e = event.Say t.participant.conn m in
        step (sure_step t.past e) (event.Close t.participant.conn) (before t.past e shut) may.1
        (step t.past e shut (first-may t.participant m is.1.0 may is.1.1) h)
    move-keeps t instruction move shut is may h = h

    exchange-keeps : (t : Exchange) (instruction : Instruction) → ShutBefore t.past
        → MaySend May t.participant → P t.past → P (exchanged t instruction).past
    exchange-keeps t instruction shut may h =
        let is = moves t instruction in
        subst (λ u. P u.past) (sym is.made)
        (move-keeps t instruction (instruction_move t instruction) shut is.may may h)

    pub action-keeps : (w : World) (action : Action) → ShutBefore w.past → MayAct May w action
        → P w.past → P (after w action).past
    action-keeps w (Join name registered) shut may h =
        step w.past (event.Open name registered) shut may h
    action-keeps w (Act client instruction) shut may h =
        option_either (λ p. with_exchange w client (exchanged (exchange_of w p) instruction))
        (participant_of w client) w (λ v. P v.past)
        (λ p found. exchange-keeps (exchange_of w p) instruction shut (may p found) h)
        (λ none. h)
    action-keeps w (Show client kind) shut may h = h

-- ---- one client

joined-stays : (participants : List Participant) (number : ℕ) (p : Participant) (r : Reply)
    → numbered participants number ≡ Some p → numbered (with_joined participants r) number ≡ Some p
joined-stays participants number p (reply.Opened conn user epoch at) found =
    numbered-old participants _ number p found
joined-stays participants number p r found = found

-- the action is none of the client's, which stays
pub other-stays : (w : World) (action : Action) (number : ℕ) (p : Participant)
    → participant_of w number ≡ Some p
    → ((instruction : Instruction) → action ≡ Act number instruction → ⊥)
    → participant_of (after w action) number ≡ Some p
other-stays w (Join name registered) number p found other =
    joined-stays w.participants number p (sure_answer w.past (event.Open name registered)) found
other-stays w (Act client instruction) number p found other =
    option_either (λ q. with_exchange w client (exchanged (exchange_of w q) instruction))
    (participant_of w client) w (λ v. participant_of v number ≡ Some p)
    (λ q there.
    let above = number-found w.participants client q there in
    numbered-other w.participants client number
    (exchanged (exchange_of w q) instruction).participant above.0
    (λ same. other instruction (ap (λ n. Act n instruction) (sym same))) ∙ found)
    (λ none. found)
other-stays w (Show client kind) number p found other = found

-- its own instruction makes of it what its exchange does
pub own-becomes : (w : World) (number : ℕ) (p : Participant) (instruction : Instruction)
    → participant_of w number ≡ Some p
    → after w (Act number instruction)
    ≡ with_exchange w number (exchanged (exchange_of w p) instruction)
own-becomes w number p instruction found =
    ap (λ o. option_map_or (λ q. with_exchange w number
    (exchanged (exchange_of w q) instruction)) o w) found
