-- What a client shows after a reset that was taken up.
use Rattle.std.proofs.Common.{◌≡◌, ℕ, zero, suc, ◌+◌, ◌-◌, Bool, if◌then◌else◌, List, [], ◌∷◌, ◌++◌}
use Rattle.std.proofs.Common.{length, map, fold, take, Some, refl, sym, ap, subst, ◌∙◌, arith}
use Rattle.std.proofs.Common.{append_assoc, length-append}
use Rattle.std.proofs.lemmas.List.{take_all}
use Rattle.std.specs.Prelude.{All, IfSome, slice_index_or}
use Rattle.std.proofs.lemmas.List.Sums.{fold-append}
use Rattle.dp_msg_draw.specs.declared.draw.Draw.{Draw}
use Rattle.dp_messages.specs.declared.message.Msg.{Msg}
use Rattle.dp_messages.specs.declared.message.Entry.{Entry}
use Rattle.dp_messages.specs.Messages.{HasSpelling}
use Rattle.dp_messages.specs.Properties.{carried_by, carried_in}
use Rattle.dp_acl.specs.Opening.{opening, carried_entries, kept_entries}
use Rattle.dp_plain.specs.Board.{Board, empty_board}
use Rattle.dp_plain.specs.Commands.{draw, draw_all}
use Rattle.dp_replay.specs.Replay.{replay, replay_from, depth_in_force}
use Rattle.dp_client.specs.Client as client
use Rattle.dp_epochs.specs.declared.event.Reply.{Reply}
use Rattle.dp_epochs.specs.declared.event.Reply.TheVariants as reply
use Rattle.dp_epochs.specs.State.{State, history_of, place_in}
use Rattle.dp_epochs.specs.Past.{state_of}
use Rattle.dp_schedule.specs.declared.action.Instruction.TheVariants.{Reset}
use Rattle.dp_schedule.specs.declared.action.Action.{Action}
use Rattle.dp_schedule.specs.declared.action.Action.TheVariants.{Act}
use Rattle.dp_snap.specs.Resets.{reset_begin}
use Rattle.dp_snap.specs.Snapshot.{snapshot}
use Rattle.dp_sim.specs.Exchanges.{Participant, is_gone, done, exchanged}
use Rattle.dp_sim.specs.World.{World, participant_of, after, first_world, world_after}
use Rattle.dp_sim.specs.World.{with_exchange}
use Rattle.dp_sim.specs.Invariant.{IsWorld, IsParticipant, is_closed}
use Rattle.dp_sim.proofs.LawLemmas.{Leading}
use Rattle.dp_keep_laws.proofs.Openings.{opening_front, opening-depth}
use Rattle.dp_lists.proofs.Options.{at_some, if_some}
use Rattle.dp_sim_laws.specs.OwnSteps.{exchange_of}
use Rattle.dp_sim_laws.specs.Spelled.{SaysSpelled}
use Rattle.dp_sim_laws.specs.Resets.{taken_up, IsTakenUp, GoesOnFrom, kept_over}
use Rattle.dp_sim_laws.proofs.Walks.{own-becomes}
use Rattle.dp_sim_laws.proofs.Speaking.{Speaking, spoken, taken-spelled}
use Rattle.dp_sim_laws.proofs.Streams.{OpenedWith, EndedBefore, begins}
use Rattle.dp_sim_laws.proofs.TakenUp.{rest_answers, with-own, queued}

-- the laws that are used
pub record Resetting : Type 0 where
  pub leading : Leading
  pub speaking : Speaking
  pub go_on : (epoch : ℕ) (history : List Entry) (present : List ℕ) (commands : List Draw)
      (kept more : List Entry)
      → replay (opening epoch history present commands kept ++ more)
      ≡ replay_from draw (draw_all empty_board commands) (depth_in_force history) (kept ++ more)
  pub again : (entries : List Entry) → All (λ e. HasSpelling e.msg) entries
      → draw_all empty_board (snapshot (replay entries)) ≡ replay entries

-- ---- the epoch that the reset opens

pub world-along : ((w : World) (action : Action) → IsWorld w → IsWorld (after w action))
    → (w : World) (actions : List Action) → IsWorld w → IsWorld (fold after w actions)
world-along stays w [] h = h
world-along stays w (action ∷ actions) h =
    world-along stays (after w action) actions (stays w action h)

answers-split : (commands : List Draw) (epoch : ℕ) (rest : List Reply)
    → taken_up commands epoch ++ rest ≡ reply.Noted ∷ rest_answers commands epoch rest
answers-split commands epoch rest =
    ap (λ rs. reply.Noted ∷ rs)
    (append_assoc (map (λ command. reply.Noted) commands) (reply.Placed epoch 0 ∷ []) rest)

module _ (laws : Resetting) (before later : List Action) (number epoch : ℕ) (keeps : Bool)
    (sender : Participant) (each : All SaysSpelled before)
    (h : IsTakenUp before later number keeps sender epoch) where
  abbrev start : World
  start = world_after before

  abbrev commands : List Draw
  commands = snapshot (client.confirmed sender.state)

  abbrev begin : Msg
  begin = reset_begin keeps (length sender.state.taken)

  abbrev sent : Participant
  sent = (done (exchange_of start sender) (Reset keeps)).participant

  pub started : IsWorld start
  started = (spoken laws.speaking before each).world

  reset-done : exchanged (exchange_of start sender) (Reset keeps)
      ≡ done (exchange_of start sender) (Reset keeps)
  reset-done =
      ap (λ link. if is_gone link (Reset keeps) then exchange_of start sender
      else done (exchange_of start sender) (Reset keeps)) h.connected

  sent-found : participant_of (after start (Act number (Reset keeps))) number ≡ Some sent
  sent-found =
      ap (λ w. participant_of w number) (own-becomes start number sender (Reset keeps) h.found)
      ∙ ap (λ t. participant_of (with_exchange start number t) number) reset-done
      ∙ with-own start number sender (done (exchange_of start sender) (Reset keeps)) h.found

  pub opened : OpenedWith epoch (place_in begin) commands
      (state_of (fold after (after start (Act number (Reset keeps))) later).past)
  opened =
      queued laws.leading laws.speaking.moves laws.speaking.stays number epoch (place_in begin)
      h.rest begin (begins keeps (length sender.state.taken)) refl later
      (after start (Act number (Reset keeps))) commands sent sender.uplink []
      (laws.speaking.stays start (Act number (Reset keeps)) started) sent-found
      (ap is_closed h.connected) refl
      (h.answers ∙ answers-split commands epoch h.rest)

  -- the sender's canvas at its reset is what the commands draw
  pub drawn : draw_all empty_board commands ≡ client.confirmed sender.state
  drawn =
      let s = spoken laws.speaking before each in
      let hp = at_some (participant_of start number) (IsParticipant (state_of start.past) number)
      sender (s.world.participants number) h.found in
      laws.again sender.state.taken
      (taken-spelled laws.speaking (exchange_of start sender) number s.world.events
      s.speaks.journal hp (s.speaks.uplinks number sender h.found))

-- ---- what a client of that epoch has taken

-- entries that begin so, as many as those
pub same-first : (m : ℕ) (xs more ys others : List Entry) → xs ++ more ≡ take m (ys ++ others)
    → length xs ≡ length ys → xs ≡ ys
same-first m [] more [] others is long = refl
same-first m [] more (y ∷ ys) others is long = absurd (omega (arith, long))
same-first m (x ∷ xs) more [] others is long = absurd (omega (arith, long))
same-first zero (x ∷ xs) more (y ∷ ys) others is long = cc
same-first (suc m) (x ∷ xs) more (y ∷ ys) others is long =
    let one : x ≡ y = cc in
    let rest : xs ++ more ≡ take m (ys ++ others) = cc in
    ap (λ z. z ∷ xs) one
    ∙ ap (λ zs. y ∷ zs) (same-first m xs more ys others rest (omega (arith, long)))

-- those before the same last ones are the same
same-before : (xs ys last : List Entry) → xs ++ last ≡ ys ++ last → xs ≡ ys
same-before xs ys last is =
    let whole = ys ++ last in
    same-first (length whole) xs last ys last
    (is ∙ sym (take_all (length whole) whole (omega arith)))
    (omega (arith, ap length is, length-append xs last, length-append ys last))

-- what the client took first is the mark
pub same-carried : (m : ℕ) (xs more others : List Entry) (epoch : ℕ) (history : List Entry)
    (present : List ℕ) (list : List Draw) (kept : List Entry)
    → xs ++ more ≡ take m (opening epoch history present list kept ++ others)
    → length xs ≡ carried_in (xs ++ more) + 1
    → length xs ≡ length (opening epoch history present list kept)
same-carried m [] more others epoch history present list kept is long =
    absurd (omega (arith, long))
same-carried zero (x ∷ xs) more others epoch history present list kept is long =
    let no : x ∷ (xs ++ more) ≡ [] = is in cc
same-carried (suc m) (x ∷ xs) more others epoch history present list kept is long =
    let carried : carried_by x.msg ≡ length (carried_entries history present list kept) =
    ap carried_in is in
    omega (arith, long, carried)

goes-on : Resetting → (board : Board) (commands : List Draw) (c : client.State) (m : ℕ)
    (epoch : ℕ) (before : List Entry) (present : List ℕ) (kept others : List Entry)
    → draw_all empty_board commands ≡ board
    → c.taken ≡ take m (opening epoch before present commands kept ++ others)
    → GoesOnFrom board kept c
goes-on laws board commands c m epoch before present kept others drawn prefix =
    λ first more is long.
    let all = opening epoch before present commands kept in
    let front = opening_front epoch (length (carried_entries before present commands kept)) before
    present commands in
    let those : (first ++ kept) ++ more ≡ take m (all ++ others) = sym is ∙ prefix in
    let count = same-carried m (first ++ kept) more others epoch before present commands kept those
    (long ∙ ap (λ xs. carried_in xs + 1) is) in
    let whole : first ++ kept ≡ all = same-first m (first ++ kept) more all others those count in
    let same : first ≡ front = same-before first front kept whole in
    ap replay (is ∙ ap (λ xs. xs ++ more) whole)
    ∙ laws.go_on epoch before present commands kept more
    ∙ ap (λ b. replay_from draw b (depth_in_force before) (kept ++ more)) drawn
    ∙ ap (λ depth. replay_from draw board depth (kept ++ more))
    (sym (ap depth_in_force same
    ∙ opening-depth epoch (length (carried_entries before present commands kept)) before present
    commands))

-- the history of the epoch before is the one that has ended
front-at : (front : List (List Entry)) (before : List Entry) (rest : List (List Entry))
    → slice_index_or (front ++ before ∷ rest) (length front) [] ≡ before
front-at [] before rest = refl
front-at (h ∷ front) before rest = front-at front before rest

pub before-is : (epoch : ℕ) (before : List Entry) (s : State) → EndedBefore epoch before s
    → history_of s (epoch - 1) ≡ before
before-is epoch before s h =
    let at : epoch - 1 ≡ length h.front = omega (arith, h.at) in
    ap (history_of s) at
    ∙ ap (λ hs. slice_index_or (hs ++ s.live ∷ []) (length h.front) []) h.ended
    ∙ ap (λ hs. slice_index_or hs (length h.front) [])
    (append_assoc h.front (before ∷ h.back) (s.live ∷ []))
    ∙ front-at h.front before (h.back ++ s.live ∷ [])

pub shown : (laws : Resetting) (before later : List Action) (number epoch : ℕ) (keeps : Bool)
    (sender : Participant) → All SaysSpelled before
    → IsTakenUp before later number keeps sender epoch → (other : ℕ)
    → let world = world_after (before ++ Act number (Reset keeps) ∷ later) in
    IfSome (participant_of world other) (λ participant. participant.state.epoch ≡ epoch
    → GoesOnFrom (client.confirmed sender.state)
    (kept_over keeps sender.state (state_of world.past) epoch) participant.state)
shown laws before later number epoch keeps sender each h other =
    let reset = Act number (Reset keeps) in
    let w = fold after (after (world_after before) reset) later in
    let is : world_after (before ++ reset ∷ later) ≡ w =
    fold-append after first_world before (reset ∷ later) in
    let world = world-along laws.speaking.stays (after (world_after before) reset) later
    (laws.speaking.stays (world_after before) reset (spoken laws.speaking before each).world) in
    let o = opened laws before later number epoch keeps sender each h in
    let place = place_in (reset_begin keeps (length sender.state.taken)) in
    let board = client.confirmed sender.state in
    subst (λ (v : World). IfSome (participant_of v other) (λ participant.
    participant.state.epoch ≡ epoch
    → GoesOnFrom board (kept_over keeps sender.state (state_of v.past) epoch) participant.state))
    (sym is)
    (if_some (participant_of w other) (λ participant. participant.state.epoch ≡ epoch
    → GoesOnFrom board (kept_over keeps sender.state (state_of w.past) epoch) participant.state)
    (λ p there. λ at.
    let hp = at_some (participant_of w other) (IsParticipant (state_of w.past) other) p
    (world.participants other) there in
    subst (λ history. GoesOnFrom board (kept_entries place history) p.state)
    (sym (before-is epoch o.before (state_of w.past) o.last))
    (goes-on laws board (snapshot board) p.state
    (length p.state.taken) epoch o.before o.present (kept_entries place o.before) o.more
    (drawn laws before later number epoch keeps sender each h)
    (hp.prefix ∙ ap (λ k. take (length p.state.taken) (history_of (state_of w.past) k)) at
    ∙ ap (take (length p.state.taken)) o.history))))
