-- What a client shows after a reset that keeps and was taken up: what the history before shows.
use Rattle.std.proofs.Common.{◌≡◌, ℕ, ◌+◌, ◌-◌, true, List, ◌∷◌, ◌++◌, length, fold, take, Some}
use Rattle.std.proofs.Common.{[], sym, ap, subst, ◌∙◌, arith, append_assoc}
use Rattle.std.specs.Prelude.{All, IfSome}
use Rattle.std.proofs.lemmas.Bool.{cond_both}
use Rattle.std.proofs.lemmas.List.{append-nil, take-append-le}
use Rattle.std.proofs.lemmas.List.Sums.{fold-append}
use Rattle.dp_msg_draw.specs.declared.draw.Draw.{Draw}
use Rattle.dp_messages.specs.declared.message.Entry.{Entry}
use Rattle.dp_messages.specs.Properties.{carried_in}
use Rattle.dp_acl.specs.Opening.{opening, kept_entries}
use Rattle.dp_plain.specs.Board.{empty_board}
use Rattle.dp_plain.specs.Commands.{draw_all}
use Rattle.dp_replay.specs.Replay.{replay}
use Rattle.dp_client.specs.Client as client
use Rattle.dp_epochs.specs.declared.connection.Ending.TheVariants as ending
use Rattle.dp_epochs.specs.declared.event.Event.{Event}
use Rattle.dp_epochs.specs.declared.event.Event.TheVariants as event
use Rattle.dp_epochs.specs.State.{State, history_of, open_connection, with_connection}
use Rattle.dp_epochs.specs.Rows.{has_room}
use Rattle.dp_epochs.specs.Past.{Past, state_of, kept, refused, sure_step}
use Rattle.dp_epochs.specs.Laws.{Continues, ShutBefore, shut_by}
use Rattle.dp_schedule.specs.declared.action.Instruction.TheVariants.{Reset}
use Rattle.dp_schedule.specs.declared.action.Action.{Action}
use Rattle.dp_schedule.specs.declared.action.Action.TheVariants.{Act}
use Rattle.dp_snap.specs.Snapshot.{snapshot}
use Rattle.dp_sim.specs.Exchanges.{Participant}
use Rattle.dp_sim.specs.World.{World, participant_of, after, first_world, world_after}
use Rattle.dp_sim.specs.Invariant.{IsWorld, IsParticipant}
use Rattle.dp_sim.proofs.LawLemmas.{Leading}
use Rattle.dp_lists.proofs.Options.{option_both, at_some, if_some}
use Rattle.dp_keep_laws.proofs.Kept.{OpeningsShowTheSame}
use Rattle.dp_sim_laws.specs.Spelled.{SaysSpelled}
use Rattle.dp_sim_laws.specs.Resets.{IsTakenUp, ShowsOn}
use Rattle.dp_sim_laws.proofs.Walks.{action-keeps, all-may}
use Rattle.dp_sim_laws.proofs.Shown.{Resetting, world-along, opened, drawn, started}
use Rattle.dp_sim_laws.proofs.Shown.{same-first, same-carried, before-is}

-- ---- the history of an epoch, as it goes on

continues-both : (xs ys zs : List Entry) → Continues xs ys → Continues ys zs → Continues xs zs
continues-both xs ys zs first next = (
  first.0 ++ next.0,
  next.1 ∙ ap (λ es. es ++ next.0) first.1 ∙ append_assoc xs first.0 next.0,
)

-- it begins with these entries
abbrev Begins : List Entry → ℕ → State → Type 0
Begins first epoch s = Continues first (history_of s epoch)

shut-begins : (first : List Entry) (epoch : ℕ) (s : State) (e : Event) → Begins first epoch s
    → Begins first epoch (shut_by s e)
shut-begins first epoch s (event.Close other) h =
    option_both (λ c. with_connection s other (record c { ending = ending.Shut }))
    (open_connection s other) s (Begins first epoch) (λ c found. h) h
shut-begins first epoch s (event.Open name registered) h = h
shut-begins first epoch s (event.Say other m) h = h

step-begins : Leading → (first : List Entry) (epoch : ℕ) (past : Past) (e : Event)
    → ShutBefore past → Unit {0} → Begins first epoch (state_of past)
    → Begins first epoch (state_of (sure_step past e))
step-begins laws first epoch past e shut may h =
    cond_both (has_room past.journal e) (kept past e) (refused past e)
    (λ p. Begins first epoch (state_of p))
    (λ fits. continues-both first (history_of (state_of past) epoch)
    (history_of (state_of (kept past e)) epoch) h
    (laws.histories past.journal past.shut e epoch shut))
    (λ full. subst (Begins first epoch) (sym (laws.on_refused past e))
    (shut-begins first epoch (state_of past) e h))

along-begins : Resetting → (first : List Entry) (epoch : ℕ) (w : World) (actions : List Action)
    → IsWorld w → Begins first epoch (state_of w.past)
    → Begins first epoch (state_of (fold after w actions).past)
along-begins laws first epoch w [] world h = h
along-begins laws first epoch w (action ∷ actions) world h =
    along-begins laws first epoch (after w action) actions
    (laws.speaking.stays w action world)
    (action-keeps laws.speaking.moves (λ past. Begins first epoch (state_of past))
    (λ e. Unit {0}) laws.speaking.before (step-begins laws.leading first epoch) w action
    world.before (all-may w action) h)

-- ---- what is shown

shows-on : OpeningsShowTheSame → (commands : List Draw) (c : client.State) (m epoch place : ℕ)
    (before : List Entry) (present : List ℕ) (others : List Entry)
    → draw_all empty_board commands ≡ replay (take place before)
    → c.taken
    ≡ take m (opening epoch before present commands (kept_entries (Some place) before) ++ others)
    → ShowsOn place before c
shows-on same commands c m epoch place before present others draws prefix =
    λ first more is long may.
    let kept = kept_entries (Some place) before in
    let all = opening epoch before present commands kept in
    let those : first ++ more ≡ take m (all ++ others) = sym is ∙ prefix in
    let count = same-carried m first more others epoch before present commands kept those
    (long ∙ ap (λ xs. carried_in xs + 1) is) in
    let whole : first ≡ all = same-first m first more all others those count in
    ap replay (is ∙ ap (λ xs. xs ++ more) whole)
    ∙ same epoch before more present commands place may draws

module _ (laws : Resetting) (before later : List Action) (number epoch : ℕ) (sender : Participant)
    (each : All SaysSpelled before) (h : IsTakenUp before later number true sender epoch)
    (in_epoch : sender.state.epoch + 1 ≡ epoch) where
  abbrev reset : Action
  reset = Act number (Reset true)

  abbrev last : World
  last = fold after (after (world_after before) reset) later

  -- what the sender had taken stands at the beginning of its epoch's history
  taken-first : sender.state.taken
      ≡ take (length sender.state.taken) (history_of (state_of last.past) sender.state.epoch)
  taken-first =
      let w = world_after before in
      let old = history_of (state_of w.past) sender.state.epoch in
      let world = started laws before later number epoch true sender each h in
      let hp = at_some (participant_of w number) (IsParticipant (state_of w.past) number) sender
      (world.participants number) h.found in
      let goes = along-begins laws old sender.state.epoch w (reset ∷ later) world
      ([], sym (append-nil old)) in
      hp.prefix
      ∙ sym (ap (take (length sender.state.taken)) goes.1
      ∙ take-append-le (length sender.state.taken) old goes.0 hp.few)

  pub kept-shown : OpeningsShowTheSame → (other : ℕ)
      → let world = world_after (before ++ reset ∷ later) in
      IfSome (participant_of world other) (λ participant. participant.state.epoch ≡ epoch
      → ShowsOn (length sender.state.taken)
      (history_of (state_of world.past) sender.state.epoch) participant.state)
  kept-shown same other =
      let place : ℕ = length sender.state.taken in
      let is : world_after (before ++ reset ∷ later) ≡ last =
      fold-append after first_world before (reset ∷ later) in
      let world = world-along laws.speaking.stays (after (world_after before) reset) later
      (laws.speaking.stays (world_after before) reset
      (started laws before later number epoch true sender each h)) in
      let o = opened laws before later number epoch true sender each h in
      let commands = snapshot (client.confirmed sender.state) in
      let front : epoch - 1 ≡ sender.state.epoch = omega (arith, in_epoch) in
      let ended : history_of (state_of last.past) sender.state.epoch ≡ o.before =
      ap (history_of (state_of last.past)) (sym front)
      ∙ before-is epoch o.before (state_of last.past) o.last in
      let draws : draw_all empty_board commands ≡ replay (take place o.before) =
      drawn laws before later number epoch true sender each h
      ∙ ap replay (taken-first ∙ ap (take place) ended) in
      subst (λ (v : World). IfSome (participant_of v other) (λ participant.
      participant.state.epoch ≡ epoch
      → ShowsOn place (history_of (state_of v.past) sender.state.epoch) participant.state))
      (sym is)
      (if_some (participant_of last other) (λ participant. participant.state.epoch ≡ epoch
      → ShowsOn place (history_of (state_of last.past) sender.state.epoch) participant.state)
      (λ p there. λ at.
      let hp = at_some (participant_of last other) (IsParticipant (state_of last.past) other) p
      (world.participants other) there in
      subst (λ history. ShowsOn place history p.state) (sym ended)
      (shows-on same commands p.state (length p.state.taken) epoch place o.before o.present o.more
      draws
      (hp.prefix ∙ ap (λ k. take (length p.state.taken) (history_of (state_of last.past) k)) at
      ∙ ap (take (length p.state.taken)) o.history))))
