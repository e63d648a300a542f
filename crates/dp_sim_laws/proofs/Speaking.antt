-- In a world whose clients say what has a spelling, all that comes to the session has one.
use Rattle.std.proofs.Common.{◌≡◌, ℕ, ◌+◌, ◌*◌, ◌^◌, Bool, true, false, ◌<◌, ◌≤◌, ◌==◌}
use Rattle.std.proofs.Common.{if◌then◌else◌, List, [], ◌∷◌, length, map, fold, Option, None, Some}
use Rattle.std.proofs.Common.{sym, subst, ⊎_elim, arith}
use Rattle.std.specs.Prelude.{All, IfSome}
use Rattle.std.specs.List.{slice_get}
use Rattle.std.proofs.lemmas.Bool.{cond_both}
use Rattle.std.proofs.lemmas.List.Elements.{All-nil, All-cons, All-head, All-tail, All-append}
use Rattle.std.proofs.lemmas.List.Elements.{All-push, All-map, All-take, All-weaker}
use Rattle.dp_msg_draw.specs.declared.draw.Draw.{Draw}
use Rattle.dp_msg_meta.specs.declared.message.Control.TheVariants.{Disconnect, Ack, ResetEnd}
use Rattle.dp_msg_meta.specs.declared.message.Meta.TheVariants as meta
use Rattle.dp_messages.specs.declared.message.Msg.{Msg}
use Rattle.dp_messages.specs.declared.message.Msg.TheVariants as msg
use Rattle.dp_messages.specs.declared.message.Entry.{Entry}
use Rattle.dp_messages.specs.Messages.{HasSpelling}
use Rattle.dp_messages.specs.Properties.{marked}
use Rattle.dp_acl.specs.Opening.{opening_limit}
use Rattle.dp_replay.specs.Replay.{replay}
use Rattle.dp_client.specs.Client as client
use Rattle.dp_epochs.specs.declared.event.Event.{Event}
use Rattle.dp_epochs.specs.declared.event.Event.TheVariants as event
use Rattle.dp_epochs.specs.declared.event.Reply.{Reply}
use Rattle.dp_epochs.specs.declared.event.Reply.TheVariants as reply
use Rattle.dp_epochs.specs.Rows.{event_limit, has_room}
use Rattle.dp_epochs.specs.State.{epoch_of, history_of}
use Rattle.dp_epochs.specs.Past.{Past, state_of, kept, refused, sure_step, sure_answer}
use Rattle.dp_epochs.specs.Laws.{ShutBefore}
use Rattle.dp_schedule.specs.declared.action.Instruction.{Instruction}
use Rattle.dp_schedule.specs.declared.action.Action.{Action}
use Rattle.dp_schedule.specs.declared.action.Action.TheVariants.{Join, Act, Show}
use Rattle.dp_snap.specs.Snapshot.{snapshot}
use Rattle.dp_snap.specs.Spelled.{IsSpelled}
use Rattle.dp_snap.specs.Resets.{reset_begin, reset_messages}
use Rattle.dp_sim.specs.Exchanges.{Participant, Exchange, next_entry, acks, took_next, exchanged}
use Rattle.dp_sim.specs.Moves.{Queued, Saying, Resetting, Parting, Move, Rests, Queues, SendsFirst}
use Rattle.dp_sim.specs.Moves.{TakesNext, Closes, queued_messages, after_move, instruction_move}
use Rattle.dp_sim.specs.Moves.{IsQueuedBy, IsMoveBy, InstructionsAreMoves}
use Rattle.dp_sim.specs.World.{World, participant_of, new_participant, with_joined, after}
use Rattle.dp_sim.specs.World.{first_world, world_after, with_exchange}
use Rattle.dp_sim.specs.Invariant.{IsWorld, IsParticipant}
use Rattle.dp_sim.proofs.LawWorlds.{exchanged-either}
use Rattle.dp_sim.proofs.Marks.{live-is}
use Rattle.dp_lists.specs.Numbered.{numbered}
use Rattle.dp_lists.proofs.Options.{at_some, option_either}
use Rattle.dp_lists.proofs.Numbered.{number-found, numbered-either}
use Rattle.dp_sim_laws.specs.OwnSteps.{exchange_of}
use Rattle.dp_sim_laws.specs.Spelled.{AreSpelledEntries, IsSpelledEvent, IsSpelledSay, SaysSpelled}
use Rattle.dp_sim_laws.proofs.Openings.{get-all}
use Rattle.dp_sim_laws.proofs.Walks.{MayAct, action-keeps}

-- each message has a spelling
abbrev AreSent : List Msg → Type 0
AreSent messages = All HasSpelling messages

-- what came to the session has a spelling, and so has what stands on the uplinks
pub record Speaks (w : World) : Type 0 where
  pub journal : All IsSpelledEvent w.past.journal
  pub uplinks : (number : ℕ) (p : Participant) → participant_of w number ≡ Some p
      → AreSent p.uplink

-- the laws that are used
pub record Speaking : Type 0 where
  pub moves : InstructionsAreMoves
  pub first : IsWorld first_world
  pub stays : (w : World) (action : Action) → IsWorld w → IsWorld (after w action)
  pub before : (past : Past) (e : Event) → ShutBefore past → ShutBefore (sure_step past e)
  pub histories : (past : Past) (epoch : ℕ) → All IsSpelledEvent past.journal
      → length past.journal ≤ event_limit → AreSpelledEntries (history_of (state_of past) epoch)
  pub short : (past : Past) (epoch : ℕ)
      → length (history_of (state_of past) epoch) ≤ 2 * length past.journal + opening_limit
  pub snapshots : (entries : List Entry) → All (λ e. HasSpelling e.msg) entries
      → All IsSpelled (snapshot (replay entries))

-- ---- the session

journal-step : (past : Past) (e : Event) → ShutBefore past → IsSpelledEvent e
    → All IsSpelledEvent past.journal → All IsSpelledEvent (sure_step past e).journal
journal-step past e shut spelled each =
    cond_both (has_room past.journal e) (kept past e) (refused past e)
    (λ p. All IsSpelledEvent p.journal)
    (λ yes. All-push IsSpelledEvent past.journal e each spelled) (λ no. each)

-- ---- an uplink

-- the messages of a reset
begin-sent : (keeps : Bool) (taken : ℕ) → taken < 2 ^ 32 → HasSpelling (reset_begin keeps taken)
begin-sent true taken few = few
begin-sent false taken few = tt

reset-sent : (begin : Msg) (commands : List Draw) → HasSpelling begin → All IsSpelled commands
    → AreSent (reset_messages begin commands)
reset-sent begin commands first each =
    let parts = map msg.Part commands in
    let end = msg.Control ResetEnd in
    All-append HasSpelling (begin ∷ parts) (end ∷ [])
    (All-cons HasSpelling begin parts first
    (All-map HasSpelling msg.Part commands
    (All-weaker IsSpelled (λ command. HasSpelling (msg.Part command)) (λ command h. h.1) commands
    each)))
    (All-cons HasSpelling end [] tt (All-nil HasSpelling))

-- the acknowledgement of an epoch, whose mark has a spelling
ack-marked : (m : Msg) → HasSpelling m → IfSome (marked m) (λ epoch. epoch < 2 ^ 32)
ack-marked (msg.Meta (meta.ResetMark epoch carried)) spelled = spelled.0
ack-marked m spelled = tt

ack-at : (o : Option ℕ) (c : client.State) → IfSome o (λ epoch. epoch < 2 ^ 32)
    → AreSent (acks (client.taken_at o c).ack)
ack-at None c small = All-nil HasSpelling
ack-at (Some epoch) c small =
    cond_both (client.is_first_mark c epoch) None (Some epoch) (λ o. AreSent (acks o))
    (λ first. All-nil HasSpelling)
    (λ later. All-cons HasSpelling (msg.Control (Ack epoch)) [] small (All-nil HasSpelling))

module _ (laws : Speaking) (t : Exchange) (number : ℕ) (few : length t.past.journal ≤ event_limit)
    (journal : All IsSpelledEvent t.past.journal)
    (hp : IsParticipant (state_of t.past) number t.participant)
    (sent : AreSent t.participant.uplink) where
  next-sent : (entry : Entry) → next_entry t ≡ Some entry
      → AreSent (took_next t (Some entry)).participant.uplink
  next-sent entry there =
      let s = state_of t.past in
      let at = if t.participant.state.epoch == epoch_of s
      then length t.participant.state.taken else 0 in
      let live = subst AreSpelledEntries (live-is s)
      (laws.histories t.past (epoch_of s) journal few) in
      let spelled = at_some (slice_get s.live at) (λ (e : Entry). HasSpelling e.msg) entry
      (get-all (λ (e : Entry). HasSpelling e.msg) s.live at live) there in
      All-append HasSpelling t.participant.uplink
      (acks (client.taken_of t.participant.state entry).ack) sent
      (ack-at (marked entry.msg) t.participant.state (ack-marked entry.msg spelled))

  -- what the client has taken has a spelling
  pub taken-spelled : AreSpelledEntries t.participant.state.taken
  taken-spelled =
      let history = history_of (state_of t.past) t.participant.state.epoch in
      subst AreSpelledEntries (sym hp.prefix)
      (All-take (λ (e : Entry). HasSpelling e.msg) (length t.participant.state.taken) history
      (laws.histories t.past t.participant.state.epoch journal few))

  queued-sent : (instruction : Instruction) (queued : Queued) → IsQueuedBy instruction queued
      → IsSpelledSay instruction → AreSent (queued_messages t.participant queued)
  queued-sent instruction (Saying m) is spelled =
      All-cons HasSpelling m [] (subst IsSpelledSay is spelled) (All-nil HasSpelling)
  queued-sent instruction (Resetting keeps) is spelled =
      let taken = length t.participant.state.taken in
      let short = laws.short t.past t.participant.state.epoch in
      reset-sent (reset_begin keeps taken) (snapshot (client.confirmed t.participant.state))
      (begin-sent keeps taken (omega (arith, few, short, hp.few)))
      (laws.snapshots t.participant.state.taken taken-spelled)
  queued-sent instruction Parting is spelled =
      All-cons HasSpelling (msg.Control (Disconnect 0)) [] (omega arith) (All-nil HasSpelling)

  move-sent : (instruction : Instruction) (move : Move) → IsMoveBy t instruction move
      → IsSpelledSay instruction → AreSent (after_move t move).participant.uplink
  move-sent instruction Rests is spelled = sent
  move-sent instruction (Queues queued) is spelled =
      All-append HasSpelling t.participant.uplink (queued_messages t.participant queued) sent
      (queued-sent instruction queued is.0 spelled)
  move-sent instruction (SendsFirst m rest) is spelled =
      All-tail HasSpelling m rest (subst AreSent is.1 sent)
  move-sent instruction (TakesNext entry) is spelled = next-sent entry is.1
  move-sent instruction (Closes last) is spelled = All-nil HasSpelling

  exchange-sent : (instruction : Instruction) → IsSpelledSay instruction
      → AreSent (exchanged t instruction).participant.uplink
  exchange-sent instruction spelled =
      let is = laws.moves t instruction in
      subst (λ u. AreSent u.participant.uplink) (sym is.made)
      (move-sent instruction (instruction_move t instruction) is.may spelled)

-- ---- worlds

joined-sent : (w : World) (r : Reply) → Speaks w → (number : ℕ) (p : Participant)
    → numbered (with_joined w.participants r) number ≡ Some p → AreSent p.uplink
joined-sent w (reply.Opened conn user epoch at) h number p is =
    ⊎_elim (λ (old : numbered w.participants number ≡ Some p). h.uplinks number p old)
    (λ (new : (number ≡ length w.participants + 1) × (p ≡ new_participant conn user epoch at)).
    subst (λ q. AreSent q.uplink) (sym new.1) (All-nil HasSpelling))
    (numbered-either w.participants (new_participant conn user epoch at) number p is)
joined-sent w r h number p is = h.uplinks number p is

module _ (laws : Speaking) (w : World) (world : IsWorld w) (h : Speaks w) where
  acted-sent : (client : ℕ) (instruction : Instruction) → IsSpelledSay instruction
      → (number : ℕ) (p : Participant)
      → participant_of (after w (Act client instruction)) number ≡ Some p → AreSent p.uplink
  acted-sent client instruction spelled number p =
      option_either (λ q. with_exchange w client (exchanged (exchange_of w q) instruction))
      (participant_of w client) w
      (λ v. participant_of v number ≡ Some p → AreSent p.uplink)
      (λ q found is.
      let t = exchange_of w q in
      let u = exchanged t instruction in
      let hq = at_some (participant_of w client) (IsParticipant (state_of w.past) client) q
      (world.participants client) found in
      ⊎_elim (λ (own : (number ≡ client) × (p ≡ u.participant)).
      subst (λ x. AreSent x.uplink) (sym own.1)
      (exchange-sent laws t client world.events h.journal hq (h.uplinks client q found) instruction
      spelled))
      (λ (far : (number ≡ client → ⊥) × (participant_of w number ≡ Some p)).
      h.uplinks number p far.1)
      (exchanged-either w client q u number p found is))
      (λ none is. h.uplinks number p is)

  may-act : (action : Action) → MayAct IsSpelledEvent w action
  may-act (Join name registered) = tt
  may-act (Act client instruction) = λ p found. (
    All-weaker HasSpelling (λ m. IsSpelledEvent (event.Say p.conn m)) (λ m is. is) p.uplink
        (h.uplinks client p found),
    tt,
  )
  may-act (Show client kind) = tt

  uplinks-after : (action : Action) → SaysSpelled action → (number : ℕ) (p : Participant)
      → participant_of (after w action) number ≡ Some p → AreSent p.uplink
  uplinks-after (Join name registered) spelled number p is =
      joined-sent w (sure_answer w.past (event.Open name registered)) h number p is
  uplinks-after (Act client instruction) spelled number p is =
      acted-sent client instruction spelled number p is
  uplinks-after (Show client kind) spelled number p is = h.uplinks number p is

  pub speaks-after : (action : Action) → SaysSpelled action → Speaks (after w action)
  speaks-after action spelled = record {
    journal = action-keeps laws.moves (λ past. All IsSpelledEvent past.journal) IsSpelledEvent
        laws.before journal-step w action world.before (may-act action) h.journal;
    uplinks = uplinks-after action spelled;
  }

pub speaks-first : Speaks first_world
speaks-first = record {
  journal = All-nil IsSpelledEvent;
  uplinks = λ number p is. let found = number-found [] number p is in let no : None
      ≡ Some p = found.1 in cc;
}

-- the world and what it says, after actions from one on
pub record Spoken (w : World) : Type 0 where
  pub world : IsWorld w
  pub speaks : Speaks w

pub spoken-along : Speaking → (w : World) (actions : List Action) → All SaysSpelled actions
    → Spoken w → Spoken (fold after w actions)
spoken-along laws w [] each h = h
spoken-along laws w (action ∷ actions) each h =
    spoken-along laws (after w action) actions (All-tail SaysSpelled action actions each) (record {
      world = laws.stays w action h.world;
      speaks = speaks-after laws w h.world h.speaks action
          (All-head SaysSpelled action actions each);
    })

-- after each schedule of such messages
pub spoken : Speaking → (actions : List Action) → All SaysSpelled actions
    → Spoken (world_after actions)
spoken laws actions each =
    spoken-along laws first_world actions each
    (record { world = laws.first; speaks = speaks-first })
