-- What a session makes of the messages of a reset: the commands that it has of it so far.
use Rattle.std.proofs.Common.{◌≡◌, ℕ, ◌+◌, ◌==◌, Bool, true, false, if◌then◌else◌, List, [], ◌∷◌}
use Rattle.std.proofs.Common.{◌++◌, Option, None, Some, refl, sym, ap, subst, ◌∙◌, arith}
use Rattle.std.proofs.Common.{append-nil, append_assoc, length, length-append}
use Rattle.std.proofs.lemmas.Bool.{cond_both, eqb-true, false≢true}
use Rattle.std.specs.Option.{option_map}
use Rattle.std.proofs.lemmas.Option.{same_Some}
use Rattle.dp_msg_draw.specs.declared.draw.Draw.{Draw}
use Rattle.dp_msg_meta.specs.declared.message.Control.TheVariants.{ResetEnd}
use Rattle.dp_messages.specs.declared.message.Msg.{Msg}
use Rattle.dp_messages.specs.declared.message.Msg.TheVariants as msg
use Rattle.dp_messages.specs.declared.message.Entry.{Entry}
use Rattle.dp_messages.specs.Properties.{is_disconnect}
use Rattle.dp_acl.specs.Opening.{kept_entries, opening}
use Rattle.dp_acl.specs.Rights.{is_operator}
use Rattle.dp_epochs.specs.declared.connection.Connection.{Connection}
use Rattle.dp_epochs.specs.declared.connection.Ending.TheVariants as ending
use Rattle.dp_epochs.specs.declared.decision.Decision.{Decision}
use Rattle.dp_epochs.specs.declared.decision.Decision.TheVariants as decision
use Rattle.dp_epochs.specs.declared.event.Event.{Event}
use Rattle.dp_epochs.specs.declared.event.Event.TheVariants as event
use Rattle.dp_epochs.specs.declared.event.Reply.{Reply}
use Rattle.dp_epochs.specs.declared.event.Reply.TheVariants as reply
use Rattle.dp_epochs.specs.State.{State, Stream, noted, after_shut, epoch_of}
use Rattle.dp_epochs.specs.State.{history_of, open_connection, with_connection, first_stream}
use Rattle.dp_epochs.specs.State.{with_command, with_part, sent_commands, stream_without}
use Rattle.dp_epochs.specs.State.{commands_by, decided, kept_by, place_in, present_users}
use Rattle.dp_epochs.specs.declared.effect.Effect.{Effect}
use Rattle.dp_epochs.specs.declared.effect.Effect.TheVariants.{Nothing, TakesUp, Placed, Left}
use Rattle.dp_epochs.specs.declared.effect.Effect.TheVariants.{Began, Added, Dropped, Reopened}
use Rattle.dp_epochs.specs.Effects.{own_message, made, stream_after, answer_of, IsStill}
use Rattle.dp_epochs.specs.Effects.{IsEffect, begin_message}
use Rattle.dp_epochs.specs.Rows.{has_room}
use Rattle.dp_epochs.specs.Past.{Past, state_of, kept, refused, answer_to, sure_step, sure_answer}
use Rattle.dp_epochs.specs.Laws.{Continues, ShutBefore, shut_by}
use Rattle.dp_lists.proofs.Options.{option_both}
use Rattle.dp_sim.proofs.LawLemmas.{Leading}
use Rattle.dp_sim.proofs.Marks.{live-is}
use Rattle.dp_snap.specs.Resets.{reset_begin}
use Rattle.dp_sim_laws.proofs.Events.{IsOf, decided-is, is_ack}

-- ---- the reset that is being sent

-- a connection's reset, with the place that it names, if any, and these commands
abbrev sent_by : ℕ → Option ℕ → List Draw → Stream
sent_by conn place commands = record { owner = conn; commands = commands; place = place }

-- if it is the connection's, it has this place and these commands so far
abbrev pub Owns : ℕ → Option ℕ → List Draw → Option Stream → Type 0
Owns conn place commands stream =
    (sent : Stream) → stream ≡ Some sent → sent.owner ≡ conn
    → sent ≡ sent_by conn place commands

-- the connection doesn't say anything by the event
abbrev pub IsNotBy : ℕ → Event → Type 0
IsNotBy conn (event.Say other m) = other ≡ conn → ⊥
IsNotBy conn e = Unit {0}

none-owned : (conn : ℕ) (place : Option ℕ) (commands : List Draw) → Owns conn place commands None
none-owned conn place commands = λ sent is own. cc

without-owned : (conn other : ℕ) (place : Option ℕ) (commands : List Draw)
    (stream : Option Stream) → Owns conn place commands stream
    → Owns conn place commands (stream_without other stream)
without-owned conn other place commands None h = none-owned conn place commands
without-owned conn other place commands (Some sent) h =
    cond_both (sent.owner == other) None (Some sent) (Owns conn place commands)
    (λ yes. none-owned conn place commands) (λ no. h)

-- what others do leaves it so
effect-owned : (conn : ℕ) (place : Option ℕ) (commands : List Draw) (s : State) (e : Event)
    (effect : Effect)
    → IsEffect s e effect → IsNotBy conn e → Owns conn place commands s.stream
    → Owns conn place commands (stream_after e s.stream effect)
effect-owned conn place commands s e (Left other c next) cause far h =
    without-owned conn other place commands s.stream h
effect-owned conn place commands s e (Began other c) cause far h =
    λ sent is own.
    let same = same_Some (first_stream other (place_in (own_message e))) sent is in
    let apart : other ≡ conn → ⊥ = subst (IsNotBy conn) cause.1.said.came far in
    absurd (apart (ap (λ st. st.owner) same ∙ own))
effect-owned conn place commands s e (Added other c) cause far h =
    λ sent is own.
    let fit = cause.2 in
    let after = ap (option_map (with_part (own_message e))) fit.sent
    ∙ ap (λ m. option_map (with_part m) (Some fit.stream)) cause.1.is in
    let same = same_Some (with_command cause.0 fit.stream) sent (sym after ∙ is) in
    let apart : other ≡ conn → ⊥ = subst (IsNotBy conn) cause.1.said.came far in
    absurd (apart (sym fit.owner ∙ ap (λ st. st.owner) same ∙ own))
effect-owned conn place commands s e (Dropped other c) cause far h =
    none-owned conn place commands
effect-owned conn place commands s e (Reopened other c) cause far h =
    none-owned conn place commands
effect-owned conn place commands s e effect cause far h = h

shut-owned : (conn other : ℕ) (place : Option ℕ) (commands : List Draw) (s : State)
    → Owns conn place commands s.stream → Owns conn place commands (after_shut s other).stream
shut-owned conn other place commands s h =
    option_both (λ c. with_connection s other (record c { ending = ending.Shut }))
    (open_connection s other) s (λ t. Owns conn place commands t.stream) (λ c found. h) h

refused-owned : (conn : ℕ) (place : Option ℕ) (commands : List Draw) (s : State) (e : Event)
    → Owns conn place commands s.stream → Owns conn place commands (shut_by s e).stream
refused-owned conn place commands s (event.Close other) h =
    shut-owned conn other place commands s h
refused-owned conn place commands s (event.Open name registered) h = h
refused-owned conn place commands s (event.Say other m) h = h

module _ (laws : Leading) where
  pub step-owned : (conn : ℕ) (place : Option ℕ) (commands : List Draw) (past : Past) (e : Event)
      → ShutBefore past → IsNotBy conn e → Owns conn place commands (state_of past).stream
      → Owns conn place commands (state_of (sure_step past e)).stream
  step-owned conn place commands past e shut far h =
      let s = state_of past in
      let it = laws.effects s e in
      cond_both (has_room past.journal e) (kept past e) (refused past e)
      (λ p. Owns conn place commands (state_of p).stream)
      (λ yes. subst (λ t. Owns conn place commands t.stream) (sym (laws.on_kept past e shut))
      (subst (λ a. Owns conn place commands a.state.stream) (sym it.made)
      (effect-owned conn place commands s e it.effect it.cause far h)))
      (λ no. subst (λ t. Owns conn place commands t.stream) (sym (laws.on_refused past e))
      (refused-owned conn place commands s e h))

  -- ---- what is answered

  -- an event that is answered otherwise than Ended was kept, and had that answer
  kept-answer : (past : Past) (e : Event) (r : Reply) → (reply.Ended ≡ r → ⊥)
      → sure_answer past e ≡ r → (has_room past.journal e ≡ true) × (answer_to past e ≡ r)
  kept-answer past e r other = by_room (has_room past.journal e)
    where
      by_room : (b : Bool) → (if b then answer_to past e else reply.Ended) ≡ r
          → (b ≡ true) × (answer_to past e ≡ r)
      by_room true is = (refl, is)
      by_room false is = absurd (other is)

  -- what is then true of the effect and of the answer is so after the step
  kept-effect : (P : State → Type 0) (past : Past) (e : Event) (r : Reply) → ShutBefore past
      → (reply.Ended ≡ r → ⊥) → sure_answer past e ≡ r
      → ((effect : Effect) → IsEffect (state_of past) e effect
      → answer_of (state_of past) effect ≡ r
      → P (noted (state_of past) (made (state_of past) e effect)))
      → P (state_of (sure_step past e))
  kept-effect P past e r shut other is holds =
      let s = state_of past in
      let it = laws.effects s e in
      let room = kept-answer past e r other is in
      subst P
      (sym (ap (λ b. state_of (if b then kept past e else refused past e)) room.0
      ∙ laws.on_kept past e shut))
      (subst (λ a. P (noted s a)) (sym it.made)
      (holds it.effect it.cause (sym (ap (λ a. a.reply) it.made) ∙ room.1)))

-- ---- the messages of a reset

-- what a message is of which that became
of-decided : (s : State) (conn : ℕ) (c : Connection) (m : Msg) (d : Decision)
    → decided s conn c m ≡ d → IsOf s c m d
of-decided s conn c m d is = subst (IsOf s c m) is (decided-is s conn c m)

-- nothing that is done is answered Noted, or Placed
still-not : (s : State) (e : Event) (answer r : Reply) → IsStill s e answer → answer ≡ r
    → (IsStill s e r → ⊥) → ⊥
still-not s e answer r still is never = never (subst (IsStill s e) is still)

-- a message that may begin a reset: no acknowledgement, no part and no end of a reset
pub record Begins (m : Msg) : Type 0 where
  pub ack : (epoch : ℕ) → is_ack epoch m ≡ false
  pub part : (command : Draw) → m ≡ msg.Part command → ⊥
  pub endless : is_disconnect m ≡ false

pub begins : (keeps : Bool) (taken : ℕ) → Begins (reset_begin keeps taken)
begins true taken =
    record { ack = λ epoch. refl; part = λ command is. cc; endless = refl }
begins false taken =
    record { ack = λ epoch. refl; part = λ command is. cc; endless = refl }

begin-effect : (conn : ℕ) (begin : Msg) → Begins begin → (s : State) (effect : Effect)
    → IsEffect s (event.Say conn begin) effect → answer_of s effect ≡ reply.Noted
    → Owns conn (place_in begin) [] (stream_after (event.Say conn begin) s.stream effect)
begin-effect conn begin how s (Nothing answer) cause is =
    absurd (still-not s (event.Say conn begin) answer reply.Noted cause is (λ never. never))
begin-effect conn begin how s (TakesUp other c) cause is =
    absurd (false≢true (sym (how.ack (epoch_of s))
    ∙ of-decided s other c begin decision.Acknowledge cause.0.decided))
begin-effect conn begin how s (Began other c) cause is =
    λ sent now own.
    let same = same_Some (first_stream other (place_in begin)) sent now in
    let whose : other ≡ conn = ap (λ st. st.owner) same ∙ own in
    sym same ∙ ap (λ k. sent_by k (place_in begin) []) whose
begin-effect conn begin how s (Added other c) cause is =
    absurd (how.part cause.0 cause.1.is)
begin-effect conn begin how s effect cause is = λ sent now own. cc

part-effect : (conn : ℕ) (place : Option ℕ) (commands : List Draw) (command : Draw) (s : State)
    (effect : Effect)
    → IsEffect s (event.Say conn (msg.Part command)) effect → answer_of s effect ≡ reply.Noted
    → Owns conn place commands s.stream
    → Owns conn place (commands ++ command ∷ [])
    (stream_after (event.Say conn (msg.Part command)) s.stream effect)
part-effect conn place commands command s (Nothing answer) cause is h =
    absurd (still-not s (event.Say conn (msg.Part command)) answer reply.Noted cause is
    (λ never. never))
part-effect conn place commands command s (TakesUp other c) cause is h =
    absurd (false≢true (of-decided s other c (msg.Part command) decision.Acknowledge
    cause.0.decided))
part-effect conn place commands command s (Began other c) cause is h =
    absurd (never-begins command cause.0 cause.1.is)
  where
    never-begins : (command : Draw) (o : Option ℕ) → msg.Part command ≡ begin_message o → ⊥
    never-begins command None is = cc
    never-begins command (Some at) is = cc
part-effect conn place commands command s (Added other c) cause is h =
    let came : event.Say conn (msg.Part command) ≡ event.Say other (msg.Part command) =
    cause.1.said.came in
    let whose : other ≡ conn = cc in
    let fit = cause.2 in
    let so_far = h fit.stream fit.sent (fit.owner ∙ whose) in
    λ sent now own.
    let after = ap (option_map (with_part (msg.Part command))) fit.sent in
    sym (same_Some (with_command command fit.stream) sent (sym after ∙ now))
    ∙ ap (with_command command) so_far
part-effect conn place commands command s effect cause is h = λ sent now own. cc

-- ---- the epoch that opens

-- the history before the epoch of this number was this one, and has ended
pub record EndedBefore (epoch : ℕ) (before : List Entry) (s : State) : Type 0 where
  pub front : List (List Entry)
  pub back : List (List Entry)
  pub ended : s.ended ≡ front ++ before ∷ back
  pub at : length front + 1 ≡ epoch

-- the history of the epoch is what it opened with, these commands, what was kept from the place on
-- of the history before, and more
pub record OpenedWith (epoch : ℕ) (place : Option ℕ) (commands : List Draw) (s : State) : Type 0
  where
    pub before : List Entry
    pub present : List ℕ
    pub more : List Entry
    pub last : EndedBefore epoch before s
    pub history : history_of s epoch
        ≡ opening epoch before present commands (kept_entries place before) ++ more

if-else : {X : Type 0} (b : Bool) (o : Option X) (x : X) → (if b then o else None) ≡ Some x
    → (b ≡ true) × (o ≡ Some x)
if-else true o x is = (refl, is)
if-else false o x is = cc

-- the reset with whose commands an epoch opens is the connection's
sent-owned : (conn : ℕ) (place : Option ℕ) (commands list : List Draw) (stream : Option Stream)
    → Owns conn place commands stream → commands_by conn stream ≡ Some list
    → stream ≡ Some (sent_by conn place commands)
sent-owned conn place commands list None h is = cc
sent-owned conn place commands list (Some sent) h is =
    let yes = if-else (sent.owner == conn) (Some sent.commands) list is in
    ap Some (h sent refl (eqb-true sent.owner conn yes.0))

reopened-opened : (epoch conn : ℕ) (place : Option ℕ) (commands : List Draw) (s : State) (e : Event)
    (other : ℕ) (c : Connection) → epoch_of s + 1 ≡ epoch
    → s.stream ≡ Some (sent_by conn place commands)
    → OpenedWith epoch place commands (noted s (made s e (Reopened other c)))
reopened-opened epoch conn place commands s e other c at sent =
    let t = noted s (made s e (Reopened other c)) in
    let new = λ (k : ℕ) (stream : Option Stream). opening k s.live (present_users s)
    (sent_commands stream) (kept_by stream s.live) in
    let here : epoch ≡ epoch_of t = omega (arith, at, length-append s.ended (s.live ∷ [])) in
    record {
      before = s.live;
      present = present_users s;
      more = [];
      last = record { front = s.ended; back = []; ended = refl; at = at };
      history = ap (history_of t) here ∙ live-is t
          ∙ ap (λ k. new k s.stream) at
          ∙ ap (new epoch) sent
          ∙ sym (append-nil (new epoch (Some (sent_by conn place commands))));
    }

end-effect : (conn epoch : ℕ) (place : Option ℕ) (commands : List Draw) (s : State)
    (effect : Effect)
    → IsEffect s (event.Say conn (msg.Control ResetEnd)) effect
    → answer_of s effect ≡ reply.Placed epoch 0 → Owns conn place commands s.stream
    → OpenedWith epoch place commands
    (noted s (made s (event.Say conn (msg.Control ResetEnd)) effect))
end-effect conn epoch place commands s (Nothing answer) cause is h =
    absurd (still-not s (event.Say conn (msg.Control ResetEnd)) answer (reply.Placed epoch 0) cause
    is (λ never. never))
end-effect conn epoch place commands s (Placed other c) cause is h =
    absurd (false≢true (of-decided s other c (msg.Control ResetEnd) decision.Place
    cause.0.decided))
end-effect conn epoch place commands s (Left other c next) cause is h =
    let came : event.Say conn (msg.Control ResetEnd) ≡ event.Close other = cause.came in cc
end-effect conn epoch place commands s (Reopened other c) cause is h =
    let e = event.Say conn (msg.Control ResetEnd) in
    let came : e ≡ event.Say other (msg.Control ResetEnd) = cause.1.said.came in
    let whose : conn ≡ other = cc in
    let at : epoch_of s + 1 ≡ epoch = cc in
    let owned : Owns other place commands s.stream =
    subst (λ n. Owns n place commands s.stream) whose h in
    let those = if-else (is_operator s.live c.user) (commands_by other s.stream) cause.0 cause.2 in
    reopened-opened epoch other place commands s e other c at
    (sent-owned other place commands cause.0 s.stream owned those.1)
end-effect conn epoch place commands s effect cause is h = cc

module _ (laws : Leading) where
  -- the begin is noted
  pub begin-noted : (conn : ℕ) (begin : Msg) → Begins begin → (past : Past) → ShutBefore past
      → sure_answer past (event.Say conn begin) ≡ reply.Noted
      → Owns conn (place_in begin) [] (state_of (sure_step past (event.Say conn begin))).stream
  begin-noted conn begin how past shut is =
      kept-effect laws (λ t. Owns conn (place_in begin) [] t.stream) past
      (event.Say conn begin) reply.Noted shut (λ no. cc) is
      (begin-effect conn begin how (state_of past))

  -- a part is noted
  pub part-noted : (conn : ℕ) (place : Option ℕ) (commands : List Draw) (command : Draw)
      (past : Past)
      → ShutBefore past → sure_answer past (event.Say conn (msg.Part command)) ≡ reply.Noted
      → Owns conn place commands (state_of past).stream
      → Owns conn place (commands ++ command ∷ [])
      (state_of (sure_step past (event.Say conn (msg.Part command)))).stream
  part-noted conn place commands command past shut is h =
      kept-effect laws (λ t. Owns conn place (commands ++ command ∷ []) t.stream) past
      (event.Say conn (msg.Part command)) reply.Noted shut (λ no. cc) is
      (λ effect cause answer. part-effect conn place commands command (state_of past) effect cause
      answer h)

  -- the end opens the epoch
  pub end-placed : (conn epoch : ℕ) (place : Option ℕ) (commands : List Draw) (past : Past)
      → ShutBefore past
      → sure_answer past (event.Say conn (msg.Control ResetEnd)) ≡ reply.Placed epoch 0
      → Owns conn place commands (state_of past).stream
      → OpenedWith epoch place commands
      (state_of (sure_step past (event.Say conn (msg.Control ResetEnd))))
  end-placed conn epoch place commands past shut is h =
      kept-effect laws (OpenedWith epoch place commands) past
      (event.Say conn (msg.Control ResetEnd))
      (reply.Placed epoch 0) shut (λ no. cc) is
      (λ effect cause answer. end-effect conn epoch place commands (state_of past) effect cause
      answer h)

  -- ---- an epoch that was opened

  -- the histories that have ended stay
  ended-on : (s : State) (e : Event) (effect : Effect)
      → (more : List (List Entry)) × ((made s e effect).state.ended ≡ s.ended ++ more)
  ended-on s e (Reopened other c) = (s.live ∷ [], refl)
  ended-on s e effect = ([], sym (append-nil s.ended))

  last-on : (epoch : ℕ) (before : List Entry) (s t : State) (more : List (List Entry))
      → t.ended ≡ s.ended ++ more → EndedBefore epoch before s → EndedBefore epoch before t
  last-on epoch before s t more is h = record {
    front = h.front;
    back = h.back ++ more;
    ended = is ∙ ap (λ hs. hs ++ more) h.ended
        ∙ append_assoc h.front (before ∷ h.back) more;
    at = h.at;
  }

  kept-last : (epoch : ℕ) (before : List Entry) (past : Past) (e : Event) → ShutBefore past
      → EndedBefore epoch before (state_of past) → EndedBefore epoch before (state_of (kept past e))
  kept-last epoch before past e shut h =
      let s = state_of past in
      let it = laws.effects s e in
      let on = ended-on s e it.effect in
      last-on epoch before s (state_of (kept past e)) on.0
      (ap (λ t. t.ended) (laws.on_kept past e shut) ∙ ap (λ a. a.state.ended) it.made ∙ on.1) h

  opened-continues : (epoch : ℕ) (place : Option ℕ) (commands : List Draw) (s t : State)
      (h : OpenedWith epoch place commands s) → EndedBefore epoch h.before t
      → Continues (history_of s epoch) (history_of t epoch) → OpenedWith epoch place commands t
  opened-continues epoch place commands s t h last goes = record {
    before = h.before;
    present = h.present;
    more = h.more ++ goes.0;
    last = last;
    history = goes.1 ∙ ap (λ entries. entries ++ goes.0) h.history
        ∙ append_assoc
        (opening epoch h.before h.present commands (kept_entries place h.before)) h.more goes.0;
  }

  opened-shut : (epoch : ℕ) (place : Option ℕ) (commands : List Draw) (s : State) (other : ℕ)
      → OpenedWith epoch place commands s → OpenedWith epoch place commands (after_shut s other)
  opened-shut epoch place commands s other h =
      option_both (λ c. with_connection s other (record c { ending = ending.Shut }))
      (open_connection s other) s (OpenedWith epoch place commands)
      (λ c found. record {
        before = h.before;
        present = h.present;
        more = h.more;
        last = record {
          front = h.last.front;
          back = h.last.back;
          ended = h.last.ended;
          at = h.last.at;
        };
        history = h.history;
      }) h

  opened-refused : (epoch : ℕ) (place : Option ℕ) (commands : List Draw) (s : State) (e : Event)
      → OpenedWith epoch place commands s → OpenedWith epoch place commands (shut_by s e)
  opened-refused epoch place commands s (event.Close other) h =
      opened-shut epoch place commands s other h
  opened-refused epoch place commands s (event.Open name registered) h = h
  opened-refused epoch place commands s (event.Say other m) h = h

  -- it stays opened so
  pub step-opened : (epoch : ℕ) (place : Option ℕ) (commands : List Draw) (past : Past) (e : Event)
      → ShutBefore past → Unit {0} → OpenedWith epoch place commands (state_of past)
      → OpenedWith epoch place commands (state_of (sure_step past e))
  step-opened epoch place commands past e shut may h =
      cond_both (has_room past.journal e) (kept past e) (refused past e)
      (λ p. OpenedWith epoch place commands (state_of p))
      (λ yes. opened-continues epoch place commands (state_of past) (state_of (kept past e)) h
      (kept-last epoch h.before past e shut h.last)
      (laws.histories past.journal past.shut e epoch shut))
      (λ no. subst (OpenedWith epoch place commands) (sym (laws.on_refused past e))
      (opened-refused epoch place commands (state_of past) e h))
