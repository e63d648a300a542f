-- The flow of a drill's schedule.
use Rattle.std.proofs.Common.{◌≡◌, ℕ, zero, suc, ◌+◌, ◌-◌, ◌*◌, ◌%◌, ◌/◌, ◌<◌, ◌≤◌, ◌==◌}
use Rattle.std.proofs.Common.{Bool, true, false, not, is_some, MatchBool, if◌then◌else◌, List, []}
use Rattle.std.proofs.Common.{◌∷◌, ◌++◌, length, map, Option, None, Some, refl, sym, ap}
use Rattle.std.proofs.Common.{subst, ◌∙◌, arith, codes, lit<, lit≤, replicate}
use Rattle.std.specs.Prelude.{nat_le, pos}
use Rattle.std.specs.List.{AllByRecursion, flat_map, fold, list_any}
use Rattle.std.specs.Option.{option_map, option_map_or}
use Rattle.std.proofs.lemmas.List.{take_all}
use Rattle.std.proofs.lemmas.Str.{IsUtf8-from_ascii, is_utf8-from_IsUtf8}
use Rattle.std.specs.Str.{IsAscii}
use Rattle.std.proofs.lemmas.List.Sums.{fold-append}
use Rattle.dp_lists.specs.Numbered.{numbered}
use Rattle.dp_lists.proofs.Numbered.{number-found}
use Rattle.dp_lists.proofs.Options.{at_some}
use Rattle.dp_messages.specs.declared.message.Msg.{Msg}
use Rattle.dp_messages.specs.declared.message.Msg.TheVariants as msg
use Rattle.dp_acl.specs.Opening.{opening_limit}
use Rattle.dp_epochs.specs.declared.connection.Connection.{Connection}
use Rattle.dp_epochs.specs.declared.connection.Ending.{Ending}
use Rattle.dp_epochs.specs.declared.connection.Ending.TheVariants as ending
use Rattle.dp_epochs.specs.declared.event.Answer.TheVariants.{Entries, Gone}
use Rattle.dp_epochs.specs.Connections.{is_ended}
use Rattle.dp_epochs.specs.Past.{Past, state_of}
use Rattle.dp_epochs.specs.Pull.{page, pulled_by, pulled_from, pulled_where}
use Rattle.dp_epochs.specs.declared.event.Event.TheVariants as event
use Rattle.dp_epochs.specs.declared.event.Reply.{Reply}
use Rattle.dp_epochs.specs.declared.event.Reply.TheVariants as reply
use Rattle.dp_epochs.specs.State.{Acted, State, acted, after_event, connection_of, epoch_of}
use Rattle.dp_epochs.specs.State.{first_state, free_id, history_of, is_name, noted, opened_as}
use Rattle.dp_epochs.specs.State.{stays, user_ids, where_open}
use Rattle.dp_schedule.specs.declared.action.Action.{Action}
use Rattle.dp_schedule.specs.declared.action.Action.TheVariants.{Join, Act}
use Rattle.dp_schedule.specs.declared.action.Instruction.TheVariants.{Say, Up, Take}
use Rattle.dp_sim.specs.declared.participant.LinkState.{LinkState}
use Rattle.dp_sim.specs.Exchanges.{Participant}
use Rattle.dp_sim.specs.Invariant.{IsParticipant, IsWorld, is_closed}
use Rattle.dp_sim.specs.World.{World, after, first_world, new_participant, participant_of}
use Rattle.dp_sim.specs.World.{with_joined, world_after}
use Rattle.dp_msg_draw.specs.declared.draw.Draw.TheVariants.{CanvasResize, LayerCreate}
use Rattle.dp_sim.proofs.Marks.{live-is}
use Rattle.dp_drill.specs.declared.rounds.Brush.{Brush}
use Rattle.dp_drill.specs.Flow.{Flow, GetsHistory, drill_flow, first_flow, flow_after}
use Rattle.dp_drill.specs.Flow.{flow_after_all, instructed, last_sends, waiting}
use Rattle.dp_drill.specs.Schedule.{clients, drawn_actions, drill_actions, drill_number}
use Rattle.dp_drill.specs.Schedule.{first_actions, next, round, round_brush, round_of, rounds}
use Rattle.dp_drill.specs.Schedule.{sends_all, sent_actions, takes_all}
use Rattle.dp_drill.proofs.Follows.{Follows, IsPlayed, IsPlaying, Laws, actions-follow, each-at}
use Rattle.dp_drill.proofs.Follows.{each-both, numbered-map}

-- ---- the schedule has nothing else

abbrev pub ArePlayed : List Action → Type 0
ArePlayed actions = AllByRecursion IsPlayed actions

either : (b : Bool) (xs ys : List Action) → ArePlayed xs → ArePlayed ys
    → ArePlayed (if b then xs else ys)
either true xs ys h k = h
either false xs ys h k = k

round-played : (client kind : ℕ) (brush : Brush) → ArePlayed (round_of client kind brush)
round-played client kind brush =
    either (kind == 0) _ _ (lit≤ tt, tt)
    (either (nat_le kind 3) _ _ (lit≤ tt, tt)
    (either (kind == 4) _ _ (lit≤ tt, tt)
    (either (kind == 5) _ _ (lit≤ tt, tt)
    (either (nat_le kind 11) _ _ (tt, tt) (tt, (tt, (tt, (tt, tt))))))))

rounds-played : (x n : ℕ) → ArePlayed (rounds x n)
unfolding round
rounds-played x zero = tt
rounds-played x (suc n) =
    let r = drill_number (next x) in
    let v = drill_number (next (next x)) in
    each-both IsPlayed (round r v) (rounds (next (next x)) n)
    (round-played (1 + r % 3) (r / 3 % 16) (round_brush (r / 3 / 16) v))
    (rounds-played (next (next x)) n)

again-played : (client n : ℕ) → ArePlayed (replicate n (Act client Up))
again-played client zero = tt
again-played client (suc n) = (tt, again-played client n)

sends-played : (f : Flow) → ArePlayed (last_sends f)
sends-played f =
    each-both IsPlayed (replicate (waiting f 1) (Act 1 Up)) _ (again-played 1 (waiting f 1))
    (each-both IsPlayed (replicate (waiting f 2) (Act 2 Up)) _ (again-played 2 (waiting f 2))
    (each-both IsPlayed (replicate (waiting f 3) (Act 3 Up)) _ (again-played 3 (waiting f 3)) tt))

taking-played : (client n : ℕ) → ArePlayed (replicate n (Act client Take))
taking-played client zero = tt
taking-played client (suc n) = (tt, taking-played client n)

takes-played : (counts : ℕ → ℕ)
    → ArePlayed (flat_map (λ client. replicate (counts client) (Act client Take)) clients)
takes-played counts =
    each-both IsPlayed (replicate (counts 1) (Act 1 Take)) _ (taking-played 1 (counts 1))
    (each-both IsPlayed (replicate (counts 2) (Act 2 Take)) _ (taking-played 2 (counts 2))
    (each-both IsPlayed (replicate (counts 3) (Act 3 Take)) _ (taking-played 3 (counts 3)) tt))

-- ---- takes make nothing of a flow

pub take_made : (f : Flow) (client : ℕ) → flow_after f (Act client Take) ≡ f
unfolding flow_after
take_made f client = by_client (numbered f.uplinks client)
  where
    by_client : (o : Option (List Msg)) → option_map_or (instructed f client Take) o f ≡ f
    by_client None = refl
    by_client (Some uplink) = refl

pub takes-made : (f : Flow) (client n : ℕ) → fold flow_after f (replicate n (Act client Take)) ≡ f
takes-made f client zero = refl
takes-made f client (suc n) =
    ap (λ g. fold flow_after g (replicate n (Act client Take))) (take_made f client)
    ∙ takes-made f client n

all-taken : (f : Flow) (counts : ℕ → ℕ)
    → fold flow_after f (flat_map (λ client. replicate (counts client) (Act client Take)) clients)
    ≡ f
all-taken f counts =
    let one = replicate (counts 1) (Act 1 Take) in
    let two = replicate (counts 2) (Act 2 Take) in
    let three = replicate (counts 3) (Act 3 Take) in
    fold-append flow_after f one (two ++ (three ++ []))
    ∙ ap (λ g. fold flow_after g (two ++ (three ++ []))) (takes-made f 1 (counts 1))
    ∙ fold-append flow_after f two (three ++ [])
    ∙ ap (λ g. fold flow_after g (three ++ [])) (takes-made f 2 (counts 2))
    ∙ fold-append flow_after f three []
    ∙ takes-made f 3 (counts 3)

-- ---- what is sent in the end

-- as many messages wait in the flow as in the world
waiting-is : (w : World) (f : Flow) → Follows w f → (client : ℕ)
    → option_map_or (λ (p : Participant). length p.uplink) (participant_of w client) 0
    ≡ waiting f client
waiting-is w f h client =
    by_client (participant_of w client)
    ∙ sym (ap (λ o. option_map_or (λ (uplink : List Msg). length uplink) o 0)
    (ap (λ xs. numbered xs client) h.uplinks
    ∙ numbered-map (λ (p : Participant). p.uplink) w.participants client))
  where
    by_client : (o : Option Participant)
        → option_map_or (λ (p : Participant). length p.uplink) o 0
        ≡ option_map_or (λ (uplink : List Msg). length uplink)
        (option_map (λ (p : Participant). p.uplink) o) 0
    by_client None = refl
    by_client (Some p) = refl

-- a sends of client 1, b of client 2 and c of client 3
abbrev sends : ℕ → ℕ → ℕ → List Action
sends a b c = replicate a (Act 1 Up) ++ (replicate b (Act 2 Up) ++ (replicate c (Act 3 Up) ++ []))

-- how many messages wait in the world
abbrev held : World → ℕ → ℕ
held w client = option_map_or (λ p. length p.uplink) (participant_of w client) 0

sends-are : (w : World) (f : Flow) → Follows w f → sends_all w ≡ last_sends f
sends-are w f h =
    ap (λ n. sends n (held w 2) (held w 3)) (waiting-is w f h 1)
    ∙ ap (λ n. sends (waiting f 1) n (held w 3)) (waiting-is w f h 2)
    ∙ ap (λ n. sends (waiting f 1) (waiting f 2) n) (waiting-is w f h 3)

-- ---- the first actions

abbrev join_a : Action
join_a = Join (codes "a") false

abbrev join_b : Action
join_b = Join (codes "b") false

abbrev join_c : Action
join_c = Join (codes "c") false

abbrev joins : List Action
joins = join_a ∷ join_b ∷ join_c ∷ []

abbrev opening_actions : List Action
opening_actions =
    Act 1 (Say (msg.Draw (CanvasResize (pos 0) (pos 256) (pos 256) (pos 0))))
    ∷ Act 1 (Say (msg.Draw (LayerCreate 257 0 false []))) ∷ Act 1 Up ∷ Act 1 Up ∷ []

-- a name of one character that is ASCII is a name
ascii : (c : ℕ) → c < 128 → IsAscii (c ∷ [])
ascii c low zero = low
ascii c low (suc i) = lit< tt

named : (c : ℕ) → c < 128 → is_name (c ∷ []) ≡ true
named c low = is_utf8-from_IsUtf8 (c ∷ []) (IsUtf8-from_ascii (c ∷ []) (ascii c low))

-- who joins by a name gets the lowest free id
abbrev entered : State → List ℕ → Acted
entered s name = opened_as s false name (free_id s)

opened-is : (s : State) (name : List ℕ) → is_name name ≡ true
    → acted s (event.Open name false) ≡ entered s name
opened-is s name named = ap (λ b. if b then entered s name else stays s reply.NameRefused) named

-- the states after the joins
abbrev a_in : State
a_in = noted first_state (entered first_state (codes "a"))

abbrev b_in : State
b_in = noted a_in (entered a_in (codes "b"))

abbrev c_in : State
c_in = noted b_in (entered b_in (codes "c"))

-- where an Open leads
abbrev opened_after : State → List ℕ → State
opened_after s name = after_event s (event.Open name false)

step-is : (s t : State) (name : List ℕ) → s ≡ t → is_name name ≡ true
    → opened_after s name ≡ noted t (entered t name)
step-is s t name same named =
    ap (λ u. opened_after u name) same ∙ ap (noted t) (opened-is t name named)

a-is : opened_after first_state (codes "a") ≡ a_in
a-is = step-is first_state first_state (codes "a") refl (named 97 (lit< tt))

b-is : opened_after (opened_after first_state (codes "a")) (codes "b") ≡ b_in
b-is = step-is _ a_in (codes "b") a-is (named 98 (lit< tt))

c-is : state_of (world_after joins).past ≡ c_in
c-is = step-is _ b_in (codes "c") b-is (named 99 (lit< tt))

-- what an Open is answered
abbrev answer : State → List ℕ → Reply
answer s name = (acted s (event.Open name false)).reply

answer-is : (s t : State) (name : List ℕ) → s ≡ t → is_name name ≡ true
    → answer s name ≡ (entered t name).reply
answer-is s t name same named =
    ap (λ u. answer u name) same ∙ ap (λ (a : Acted). a.reply) (opened-is t name named)

abbrev three : List Participant
three = new_participant 1 1 0 1 ∷ new_participant 2 2 0 3 ∷ new_participant 3 3 0 4 ∷ []

participants-are : (world_after joins).participants ≡ three
unfolding user_ids
participants-are =
    let s = opened_after first_state (codes "a") in
    let t = opened_after s (codes "b") in
    ap (λ r. with_joined (with_joined (with_joined [] r) (answer s (codes "b")))
    (answer t (codes "c")))
    (answer-is first_state first_state (codes "a") refl (named 97 (lit< tt)))
    ∙ ap (λ r. with_joined (with_joined (new_participant 1 1 0 1 ∷ []) r) (answer t (codes "c")))
    (answer-is s a_in (codes "b") a-is (named 98 (lit< tt)))
    ∙ ap (λ r. with_joined (new_participant 1 1 0 1 ∷ new_participant 2 2 0 3 ∷ []) r)
    (answer-is t b_in (codes "c") b-is (named 99 (lit< tt)))

three-joined : (laws : Laws) → IsWorld first_world
    → Follows (world_after joins) (flow_after_all joins)
unfolding flow_after user_ids
three-joined laws first = record {
  world = laws.stays (fold after first_world (join_a ∷ join_b ∷ [])) join_c
      (laws.stays (after first_world join_a) join_b (laws.stays first_world join_a first));
  past = refl;
  epoch = ap epoch_of c-is;
  uplinks = sym (ap (map (λ (p : Participant). p.uplink)) participants-are);
  playing = subst (AllByRecursion IsPlaying) (sym participants-are) (
    record { link = refl; epoch = refl; plain = tt },
    (
      record { link = refl; epoch = refl; plain = tt },
      (record { link = refl; epoch = refl; plain = tt }, tt),
    ),
  );
  some = subst (λ (ps : List Participant). 0 < length ps) (sym participants-are) (lit< tt);
}

first-played : ArePlayed opening_actions
first-played = (lit≤ tt, (lit≤ tt, (tt, (tt, tt))))

first-follows : (laws : Laws) → IsWorld first_world
    → Follows (world_after first_actions) (flow_after_all first_actions)
first-follows laws first =
    actions-follow laws (world_after joins) (flow_after_all joins) opening_actions first-played
    (three-joined laws first)

-- ---- the first client gets the history

abbrev pub HistoriesAreShort : Type 0
HistoriesAreShort =
    (past : Past) (epoch : ℕ)
    → length (history_of (state_of past) epoch) ≤ 2 * length past.journal + opening_limit

-- a connection that has not ended is pulled from, if none is quiet
by-ending : (s : State) (quiet : List ℕ) (conn epoch at most : ℕ) (c : Connection) (e : Ending)
    → quiet ≡ [] → is_some (if not (is_ended e) then Some c else None) ≡ true
    → pulled_by s quiet conn epoch at most e ≡ pulled_from s epoch at most s.live
by-ending s quiet conn epoch at most c ending.Running none running =
    ap (λ q. if list_any (λ other. other == conn) q then Gone
    else pulled_from s epoch at most s.live) none
by-ending s quiet conn epoch at most c (ending.Left place) none running = cc
by-ending s quiet conn epoch at most c ending.Shut none running = cc

by-connection : (s : State) (quiet : List ℕ) (conn epoch at most : ℕ) (o : Option Connection)
    → quiet ≡ [] → is_some (where_open o) ≡ true
    → pulled_where s quiet conn epoch at most o ≡ pulled_from s epoch at most s.live
by-connection s quiet conn epoch at most None none running = cc
by-connection s quiet conn epoch at most (Some c) none running =
    by-ending s quiet conn epoch at most c c.ending none running

-- the first of some clients
first-one : (w : World) → 0 < length w.participants
    → (p : Participant) × (participant_of w 1 ≡ Some p)
first-one w some = among w.participants some
  where
    among : (ps : List Participant) → 0 < length ps
        → (p : Participant) × (numbered ps 1 ≡ Some p)
    among [] some = absurd (omega (arith, some))
    among (p ∷ ps) some = (p, refl)

first-gets : HistoriesAreShort → (w : World) → IsWorld w → epoch_of (state_of w.past) ≡ 0
    → AllByRecursion IsPlaying w.participants → 0 < length w.participants → GetsHistory w.past
first-gets short w world epoch playing some =
    let s = state_of w.past in
    let one = first-one w some in
    let p = one.0 in
    let joined = at_some (participant_of w 1) (IsParticipant s 1) p (world.participants 1) one.1 in
    let plays : IsPlaying p =
    each-at IsPlaying w.participants 0 p playing (number-found w.participants 1 p one.1).1 in
    let running = subst (λ (link : LinkState). MatchBool (is_closed link) (Unit {0})
    (is_some (where_open (connection_of s 1)) ≡ true)) plays.link joined.running in
    let few : length s.live ≤ 4294967295 =
    omega (arith, short w.past (epoch_of s), ap length (live-is s), world.events) in
    by-connection s w.past.quiet 1 0 0 4294967295 (connection_of s 1) world.quiet running
    ∙ ap (λ k. if 0 == k then Entries 0 0 (page 0 4294967295 s.live)
    else Entries k 0 (page 0 4294967295 s.live)) epoch
    ∙ ap (Entries 0 0) (take_all 4294967295 s.live few)

-- ---- the whole drill

module _ (laws : Laws) (first : IsWorld first_world) (seed count : ℕ) where
  abbrev some : List Action
  some = drawn_actions seed count

  some-follows : Follows (world_after some) (flow_after_all some)
  some-follows =
      subst (λ w. Follows w (flow_after_all some))
      (sym (fold-append after first_world first_actions (rounds seed count)))
      (subst (Follows (fold after (world_after first_actions) (rounds seed count)))
      (sym (fold-append flow_after first_flow first_actions (rounds seed count)))
      (actions-follow laws (world_after first_actions) (flow_after_all first_actions)
      (rounds seed count) (rounds-played seed count) (first-follows laws first)))

  abbrev sent : World
  sent = world_after (sent_actions seed count)

  same-sends : sends_all (world_after some) ≡ last_sends (flow_after_all some)
  same-sends = sends-are (world_after some) (flow_after_all some) some-follows

  sent-follows : Follows (world_after (sent_actions seed count)) (drill_flow seed count)
  sent-follows =
      subst (λ w. Follows w (drill_flow seed count))
      (sym (ap (λ more. world_after (some ++ more)) same-sends
      ∙ fold-append after first_world some (last_sends (flow_after_all some))))
      (actions-follow laws (world_after some) (flow_after_all some)
      (last_sends (flow_after_all some)) (sends-played (flow_after_all some)) some-follows)

  -- how much of the live history each client has still to take
  abbrev left_of : ℕ → ℕ
  left_of client = option_map_or (λ p. length (state_of sent.past).live - length p.state.taken)
      (participant_of sent client) 0

  drill-follows : Follows (world_after (drill_actions seed count))
      (fold flow_after (drill_flow seed count) (takes_all sent))
  drill-follows =
      subst (λ w. Follows w (fold flow_after (drill_flow seed count) (takes_all sent)))
      (sym (fold-append after first_world (sent_actions seed count) (takes_all sent)))
      (actions-follow laws sent (drill_flow seed count) (takes_all sent)
      (takes-played left_of) sent-follows)

  pub same-past : (world_after (drill_actions seed count)).past ≡ (drill_flow seed count).past
  same-past =
      drill-follows.past ∙ ap (λ (f : Flow). f.past) (all-taken (drill_flow seed count) left_of)

  pub gets-history : HistoriesAreShort → GetsHistory (drill_flow seed count).past
  gets-history short =
      subst GetsHistory sent-follows.past (first-gets short sent sent-follows.world
      sent-follows.epoch sent-follows.playing sent-follows.some)
