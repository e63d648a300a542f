-- What an event does is one of the effects, and what they all leave as it was.
use Rattle.std.proofs.Common.{◌≡◌, ℕ, zero, suc, ◌+◌, ◌-◌, ◌≤◌, ◌==◌, ◌&&◌, not, Bool, true, false}
use Rattle.std.proofs.Common.{if◌then◌else◌, List, [], ◌∷◌, ◌++◌, length, Option, None, Some}
use Rattle.std.proofs.Common.{is_some, IfSome, nat_le}
use Rattle.std.proofs.Common.{refl, sym, ap, subst, ◌∙◌, ⊎_elim, arith, append-nil, append_assoc}
use Rattle.std.specs.Prelude.{slice_set, slice_index_or}
use Rattle.std.specs.Option.{option_map, option_map_or}
use Rattle.std.proofs.lemmas.Bool.{cond_both, cases_Bool, cases_eq, and_parts, not-true, eqb-true}
use Rattle.std.proofs.lemmas.Bool.{leb-true}
use Rattle.dp_msg_draw.specs.declared.draw.Draw.{Draw}
use Rattle.dp_msg_meta.specs.declared.message.Control.TheVariants as control
use Rattle.dp_msg_meta.specs.declared.message.Meta.TheVariants.{Leave}
use Rattle.dp_messages.specs.declared.message.Msg.{Msg}
use Rattle.dp_messages.specs.declared.message.Msg.TheVariants as msg
use Rattle.dp_messages.specs.declared.message.Entry.{Entry}
use Rattle.dp_acl.specs.Rights.{is_operator}
use Rattle.dp_acl.specs.Permitted.{permitted}
use Rattle.dp_acl.specs.Opening.{opening}
use Rattle.dp_lists.specs.Numbered.{numbered}
use Rattle.dp_lists.proofs.Numbered.{number-found, numbered-other, numbered-same, numbered-old}
use Rattle.dp_epochs.specs.declared.connection.Connection.{Connection}
use Rattle.dp_epochs.specs.declared.connection.Ending.TheVariants as ending
use Rattle.dp_epochs.specs.declared.decision.Decision.{Decision}
use Rattle.dp_epochs.specs.declared.decision.Decision.TheVariants as decision
use Rattle.dp_epochs.specs.declared.effect.Effect.{Effect}
use Rattle.dp_epochs.specs.declared.effect.Effect.TheVariants.{Nothing, TakesUp, Placed, Filtered}
use Rattle.dp_epochs.specs.declared.effect.Effect.TheVariants.{Joined, Left, Began, Added, Dropped}
use Rattle.dp_epochs.specs.declared.effect.Effect.TheVariants.{Reopened}
use Rattle.dp_epochs.specs.declared.event.Event.{Event}
use Rattle.dp_epochs.specs.declared.event.Event.TheVariants as event
use Rattle.dp_epochs.specs.declared.event.Reply.{Reply}
use Rattle.dp_epochs.specs.declared.event.Reply.TheVariants as reply
use Rattle.dp_epochs.specs.State.{State, acted, stays, noted, after_event, epoch_of, here, entry_of}
use Rattle.dp_epochs.specs.State.{history_of, connection_of, open_connection}
use Rattle.dp_epochs.specs.State.{has_acknowledged, is_name, free_id, opened_as, owner_on_join}
use Rattle.dp_epochs.specs.State.{new_connection, left, next_owner, owner_on_leave, closed_by}
use Rattle.dp_epochs.specs.State.{stream_without, judged, heard, decided, acted_by, says_by}
use Rattle.dp_epochs.specs.State.{Stream, Acted, commands_by, reset_of, is_held_by_other, may_begin}
use Rattle.dp_epochs.specs.State.{part_decided, fits_reset, first_stream, place_in, with_part}
use Rattle.dp_epochs.specs.State.{present_users, sent_commands, kept_by}
use Rattle.dp_epochs.specs.Effects.{own_message, made, entries_of, ended_after, live_after}
use Rattle.dp_epochs.specs.Effects.{connections_after, IsIgnored, IsRefusedName, IsForNoOne}
use Rattle.dp_epochs.specs.Effects.{IsStill, IsOpenAt, IsSaid, IsReset, IsEffect, effect_by}
use Rattle.dp_epochs.specs.Effects.{DecisionsHaveEffects, EventsHaveEffects, EffectsAreMade}
use Rattle.dp_epochs.specs.Effects.{IsLater, begin_message, IsWithinLive}
use Rattle.dp_epochs.specs.Laws.{Continues}
use Rattle.dp_epochs.proofs.OpenConnections.{open_is_found}

-- ---- open connections

open-at : (s : State) (conn : ℕ) (c : Connection) → open_connection s conn ≡ Some c
    → IsOpenAt s conn c
open-at s conn c found =
    let f = open_is_found s.connections conn c found in
    record { given = f.0; running = f.1; found = found }

-- ---- decisions

-- the reset of which these are the commands is the connection's own, and its user is operator
pub record Sends (s : State) (conn : ℕ) (c : Connection) (commands : List Draw) : Type 0 where
  pub operator : is_operator s.live c.user ≡ true
  pub stream : Stream
  pub is : s.stream ≡ Some stream
  pub owner : stream.owner ≡ conn
  pub same : stream.commands ≡ commands

commands-by : (conn : ℕ) (o : Option Stream) (commands : List Draw)
    → commands_by conn o ≡ Some commands
    → (stream : Stream) × (o ≡ Some stream) × (stream.owner ≡ conn) × (stream.commands ≡ commands)
commands-by conn None commands h = cc
commands-by conn (Some stream) commands h =
    ⊎_elim (λ (own : (stream.owner == conn) ≡ true).
    let e : Some stream.commands ≡ Some commands =
    sym (ap (λ b. if b then Some stream.commands else None) own) ∙ h in
    let same : stream.commands ≡ commands = cc in
    (stream, refl, eqb-true stream.owner conn own, same))
    (λ (other : (stream.owner == conn) ≡ false).
    let e : None ≡ Some commands =
    sym (ap (λ b. if b then Some stream.commands else None) other) ∙ h in cc)
    (cases_Bool (stream.owner == conn))

pub reset-sends : (s : State) (conn : ℕ) (c : Connection) (commands : List Draw)
    → reset_of s conn c ≡ Some commands → Sends s conn c commands
reset-sends s conn c commands h =
    ⊎_elim (λ (yes : is_operator s.live c.user ≡ true).
    let b = commands-by conn s.stream commands
    (sym (ap (λ b. if b then commands_by conn s.stream else None) yes) ∙ h) in
    record { operator = yes; stream = b.0; is = b.1; owner = b.2; same = b.3 })
    (λ (no : is_operator s.live c.user ≡ false).
    let e : None ≡ Some commands =
    sym (ap (λ b. if b then commands_by conn s.stream else None) no) ∙ h in cc)
    (cases_Bool (is_operator s.live c.user))

-- why that becomes of a message
abbrev Reason : State → ℕ → Connection → Msg → Decision → Type 0
Reason s conn c m decision.Ignore = Unit {0}
Reason s conn c m decision.Acknowledge = has_acknowledged s c ≡ false
Reason s conn c m decision.Place =
    (has_acknowledged s c ≡ true) × (permitted s.live c.user m ≡ true)
Reason s conn c m decision.Filter = has_acknowledged s c ≡ true
Reason s conn c m decision.BeginReset =
    (place : Option ℕ)
    × (m ≡ begin_message place)
    × (has_acknowledged s c ≡ true)
    × (is_operator s.live c.user ≡ true)
    × IsWithinLive s place
Reason s conn c m decision.AddPart =
    (command : Draw) × (commands : List Draw)
    × (m ≡ msg.Part command)
    × (has_acknowledged s c ≡ true)
    × Sends s conn c commands
    × (fits_reset commands command ≡ true)
Reason s conn c m decision.DropReset =
    (command : Draw) × (commands : List Draw)
    × (m ≡ msg.Part command)
    × (has_acknowledged s c ≡ true)
    × Sends s conn c commands
Reason s conn c m decision.OpenEpoch =
    (commands : List Draw)
    × (m ≡ msg.Control control.ResetEnd)
    × (has_acknowledged s c ≡ true)
    × (reset_of s conn c ≡ Some commands)

judged-reason : (s : State) (conn : ℕ) (c : Connection) (m : Msg) → has_acknowledged s c ≡ true
    → Reason s conn c m (judged s c m)
judged-reason s conn c m ready =
    cond_both (permitted s.live c.user m) decision.Place decision.Filter (Reason s conn c m)
    (λ may. (ready, may)) (λ no. ready)

part-reason : (s : State) (conn : ℕ) (c : Connection) (command : Draw)
    → has_acknowledged s c ≡ true → (o : Option (List Draw)) → reset_of s conn c ≡ o
    → Reason s conn c (msg.Part command) (part_decided command o)
part-reason s conn c command ready None is = ready
part-reason s conn c command ready (Some commands) is =
    let sends = reset-sends s conn c commands is in
    cond_both (fits_reset commands command) decision.AddPart decision.DropReset
    (Reason s conn c (msg.Part command))
    (λ fits. (command, commands, refl, ready, sends, fits))
    (λ no. (command, commands, refl, ready, sends))

end-reason : (s : State) (conn : ℕ) (c : Connection) → has_acknowledged s c ≡ true
    → (o : Option (List Draw)) → reset_of s conn c ≡ o
    → Reason s conn c (msg.Control control.ResetEnd)
    (if is_some o then decision.OpenEpoch else decision.Filter)
end-reason s conn c ready None is = ready
end-reason s conn c ready (Some commands) is = (commands, refl, ready, is)

-- who may begin a reset is operator
begins-operator : (s : State) (conn : ℕ) (c : Connection) → may_begin s conn c ≡ true
    → is_operator s.live c.user ≡ true
begins-operator s conn c may =
    (and_parts (is_operator s.live c.user)
    (not (option_map_or (is_held_by_other s conn) s.stream false)) may).0

heard-reason : (s : State) (conn : ℕ) (c : Connection) (m : Msg) → has_acknowledged s c ≡ true
    → Reason s conn c m (heard s conn c m)
heard-reason s conn c (msg.Control control.ResetBegin) ready =
    cond_both (may_begin s conn c) decision.BeginReset decision.Filter
    (Reason s conn c (msg.Control control.ResetBegin))
    (λ may. (None, refl, ready, begins-operator s conn c may, tt)) (λ no. ready)
heard-reason s conn c (msg.Control control.ResetEnd) ready =
    end-reason s conn c ready (reset_of s conn c) refl
heard-reason s conn c (msg.Control (control.ResetFrom at)) ready =
    cond_both (may_begin s conn c && nat_le at (length s.live)) decision.BeginReset decision.Filter
    (Reason s conn c (msg.Control (control.ResetFrom at)))
    (λ both.
    let parts = and_parts (may_begin s conn c) (nat_le at (length s.live)) both in (
      Some at,
      refl,
      ready,
      begins-operator s conn c parts.0,
      leb-true at (length s.live) parts.1,
    )) (λ no. ready)
heard-reason s conn c (msg.Part command) ready =
    part-reason s conn c command ready (reset_of s conn c) refl
heard-reason s conn c m ready = judged-reason s conn c m ready

asked-reason : (s : State) (conn : ℕ) (c : Connection) (m : Msg)
    → Reason s conn c m (if has_acknowledged s c then heard s conn c m else decision.Ignore)
asked-reason s conn c m =
    cond_both (has_acknowledged s c) (heard s conn c m) decision.Ignore (Reason s conn c m)
    (λ ready. heard-reason s conn c m ready) (λ no. tt)

decided-reason : (s : State) (conn : ℕ) (c : Connection) (m : Msg)
    → Reason s conn c m (decided s conn c m)
decided-reason s conn c (msg.Control (control.Ping pong)) = tt
decided-reason s conn c (msg.Control (control.Disconnect reason)) = tt
decided-reason s conn c (msg.Control (control.Ack epoch)) =
    cond_both (epoch == epoch_of s && not (has_acknowledged s c)) decision.Acknowledge
    decision.Ignore (Reason s conn c (msg.Control (control.Ack epoch)))
    (λ both. not-true (has_acknowledged s c)
    (and_parts (epoch == epoch_of s) (not (has_acknowledged s c)) both).1)
    (λ no. tt)
decided-reason s conn c m = asked-reason s conn c m

-- ---- causes

module _ (s : State) (conn : ℕ) (c : Connection) (m : Msg) (at : IsOpenAt s conn c) where
  abbrev e : Event
  e = event.Say conn m

  said : (d : Decision) → decided s conn c m ≡ d → IsSaid s e conn c d
  said d is = record { came = refl; at = at; decided = is }

  reset : (n : Msg) (d : Decision) → decided s conn c m ≡ d → m ≡ n
      → has_acknowledged s c ≡ true → is_operator s.live c.user ≡ true
      → IsReset s e conn c n d
  reset n d is same ready operator = record {
    said = said d is;
    is = same;
    acknowledged = ready;
    operator = operator;
  }

  -- a message has the effect that its decision says
  decided-cause : (d : Decision) → decided s conn c m ≡ d → Reason s conn c m d
      → IsEffect s e (effect_by conn c d)
  decided-cause decision.Ignore is why =
      subst (λ o. IfSome o (λ c. decided s conn c m ≡ decision.Ignore)) (sym at.found) is
  decided-cause decision.Acknowledge is why = (said decision.Acknowledge is, why)
  decided-cause decision.Place is why = (said decision.Place is, why.0, why.1)
  decided-cause decision.Filter is why = (said decision.Filter is, why)
  decided-cause decision.BeginReset is why = (
    why.0,
    reset (begin_message why.0) decision.BeginReset is why.1 why.2 why.3,
    why.4,
  )
  decided-cause decision.AddPart is why = (
    why.0,
    reset (msg.Part why.0) decision.AddPart is why.2 why.3 why.4.operator,
    record {
      stream = why.4.stream;
      sent = why.4.is;
      owner = why.4.owner;
      fits = subst (λ list. fits_reset list why.0 ≡ true) (sym why.4.same) why.5;
    },
  )
  decided-cause decision.DropReset is why =
      (why.0, reset (msg.Part why.0) decision.DropReset is why.2 why.3 why.4.operator)
  decided-cause decision.OpenEpoch is why = (
    why.0,
    reset (msg.Control control.ResetEnd) decision.OpenEpoch is why.1 why.2
        (reset-sends s conn c why.0 why.3).operator,
    why.3,
  )

pub decision-cause : DecisionsHaveEffects
decision-cause s conn c m found =
    decided-cause s conn c m (open-at s conn c found) (decided s conn c m) refl
    (decided-reason s conn c m)

-- an effect of an event, with its cause
record Caused (s : State) (e : Event) : Type 0 where
  effect : Effect
  cause : IsEffect s e effect

said-caused : (s : State) (conn : ℕ) (m : Msg) (o : Option Connection)
    → open_connection s conn ≡ o → Caused s (event.Say conn m)
said-caused s conn m None is = record {
  effect = Nothing reply.Ignored;
  cause = subst (λ o. IfSome o (λ c. decided s conn c m ≡ decision.Ignore)) (sym is) tt;
}
said-caused s conn m (Some c) is = record {
  effect = effect_by conn c (decided s conn c m);
  cause = decision-cause s conn c m is;
}

closed-caused : (s : State) (conn : ℕ) (o : Option Connection) → open_connection s conn ≡ o
    → Caused s (event.Close conn)
closed-caused s conn None is = record { effect = Nothing reply.Ignored; cause = is }
closed-caused s conn (Some c) is = record {
  effect = Left conn c (owner_on_leave (is_operator s.live c.user) (left s conn c));
  cause = record { came = refl; at = open-at s conn c is; owner = refl };
}

named-caused : (s : State) (name : List ℕ) (registered : Bool) → is_name name ≡ true
    → (o : Option ℕ) → free_id s ≡ o → Caused s (event.Open name registered)
named-caused s name registered named None is =
    record { effect = Nothing reply.Full; cause = (named, is) }
named-caused s name registered named (Some user) is = record {
  effect = Joined user (owner_on_join s user);
  cause = record {
    name = name;
    registered = registered;
    came = refl;
    named = named;
    free = is;
    owner = refl;
  };
}

-- each event has an effect
caused : (s : State) (e : Event) → Caused s e
caused s (event.Open name registered) =
    ⊎_elim (λ (named : is_name name ≡ true).
    named-caused s name registered named (free_id s) refl)
    (λ (no : is_name name ≡ false).
    record { effect = Nothing reply.NameRefused; cause = no })
    (cases_Bool (is_name name))
caused s (event.Say conn m) = said-caused s conn m (open_connection s conn) refl
caused s (event.Close conn) = closed-caused s conn (open_connection s conn) refl

-- ---- what is made

-- an effect that places nothing after the live history leaves it
with-nothing : (s : State) (cs : List Connection) (o : Option Stream) (r : Reply)
    → ◌≡◌ {A = Acted} (record { state = record s { connections = cs; stream = o }; reply = r })
    (record { state = record s { live = s.live ++ []; connections = cs; stream = o }; reply = r })
with-nothing s cs o r =
    ap (λ live. record {
      state = record s { live = live; connections = cs; stream = o };
      reply = r;
    }) (sym (append-nil s.live))

stays-made : (s : State) (e : Event) (r : Reply) → acted s e ≡ stays s r
    → acted s e ≡ made s e (Nothing r)
stays-made s e r is = is ∙ with-nothing s s.connections s.stream r

ignored-said : (s : State) (conn : ℕ) (m : Msg) (o : Option Connection)
    → IfSome o (λ c. decided s conn c m ≡ decision.Ignore)
    → option_map_or (says_by s conn m) o (stays s reply.Ignored) ≡ stays s reply.Ignored
ignored-said s conn m None is = refl
ignored-said s conn m (Some c) is = ap (acted_by s conn c m) is

ignored-made : (s : State) (e : Event) → IsIgnored s e → acted s e ≡ stays s reply.Ignored
ignored-made s (event.Open name registered) never = absurd never
ignored-made s (event.Say conn m) is = ignored-said s conn m (open_connection s conn) is
ignored-made s (event.Close conn) is =
    ap (λ o. option_map_or (closed_by s conn) o (stays s reply.Ignored)) is

refused-made : (s : State) (e : Event) → IsRefusedName e → acted s e ≡ stays s reply.NameRefused
refused-made s (event.Open name registered) nameless =
    ap (λ b. if b then opened_as s registered name (free_id s) else stays s reply.NameRefused)
    nameless
refused-made s (event.Say conn m) never = absurd never
refused-made s (event.Close conn) never = absurd never

full-made : (s : State) (e : Event) → IsForNoOne s e → acted s e ≡ stays s reply.Full
full-made s (event.Open name registered) full =
    ap (λ b. if b then opened_as s registered name (free_id s) else stays s reply.NameRefused)
    full.0
    ∙ ap (opened_as s registered name) full.1
full-made s (event.Say conn m) never = absurd never
full-made s (event.Close conn) never = absurd never

still-made : (s : State) (e : Event) (r : Reply) → IsStill s e r → acted s e ≡ stays s r
still-made s e reply.Ignored is = ignored-made s e is
still-made s e reply.NameRefused is = refused-made s e is
still-made s e reply.Full is = full-made s e is
still-made s e other is = absurd is

-- what is made of a message of which that becomes
said-made : (s : State) (e : Event) (conn : ℕ) (c : Connection) (d : Decision)
    → IsSaid s e conn c d → acted s e ≡ acted_by s conn c (own_message e) d
said-made s e conn c d is =
    ap (acted s) is.came
    ∙ ap (λ o. option_map_or (says_by s conn (own_message e)) o (stays s reply.Ignored)) is.at.found
    ∙ ap (acted_by s conn c (own_message e)) is.decided

joined-made : (s : State) (name : List ℕ) (registered : Bool) (user : ℕ) → is_name name ≡ true
    → free_id s ≡ Some user
    → acted s (event.Open name registered)
    ≡ made s (event.Open name registered) (Joined user (owner_on_join s user))
joined-made s name registered user named free =
    ap (λ b. if b then opened_as s registered name (free_id s) else stays s reply.NameRefused)
    named
    ∙ ap (opened_as s registered name) free

left-made : (s : State) (conn : ℕ) (c : Connection) → IsOpenAt s conn c
    → acted s (event.Close conn)
    ≡ made s (event.Close conn)
    (Left conn c (owner_on_leave (is_operator s.live c.user) (left s conn c)))
left-made s conn c at =
    let next = owner_on_leave (is_operator s.live c.user) (left s conn c) in
    ap (λ o. option_map_or (closed_by s conn) o (stays s reply.Ignored)) at.found
    ∙ ap (λ live. record {
      state = record s {
        live = live;
        connections = slice_set s.connections (conn - 1)
            (record c { ending = ending.Left (here s) });
        stream = stream_without conn s.stream;
      };
      reply = reply.Placed (epoch_of s) (length s.live);
    }) (append_assoc s.live (entry_of c.user (msg.Meta Leave) ∷ []) (next_owner next))

-- an effect that has its cause is what the event does
pub effect-made : EffectsAreMade
effect-made s e (Nothing answer) cause = stays-made s e answer (still-made s e answer cause)
effect-made s e (TakesUp conn c) cause =
    said-made s e conn c decision.Acknowledge cause.0
    ∙ with-nothing s
    (slice_set s.connections (conn - 1) (record c { acknowledged = epoch_of s })) s.stream
    reply.Noted
effect-made s e (Placed conn c) cause = said-made s e conn c decision.Place cause.0
effect-made s e (Filtered conn c) cause = said-made s e conn c decision.Filter cause.0
effect-made s e (Joined user next) cause =
    subst (λ e. acted s e ≡ made s e (Joined user next)) (sym cause.came)
    (subst (λ o. acted s (event.Open cause.name cause.registered)
    ≡ made s (event.Open cause.name cause.registered) (Joined user o)) (sym cause.owner)
    (joined-made s cause.name cause.registered user cause.named cause.free))
effect-made s e (Left conn c next) cause =
    subst (λ e. acted s e ≡ made s e (Left conn c next)) (sym cause.came)
    (subst (λ o. acted s (event.Close conn) ≡ made s (event.Close conn) (Left conn c o))
    (sym cause.owner) (left-made s conn c cause.at))
effect-made s e (Began conn c) cause =
    said-made s e conn c decision.BeginReset cause.1.said
    ∙ with-nothing s s.connections (Some (first_stream conn (place_in (own_message e)))) reply.Noted
effect-made s e (Added conn c) cause =
    said-made s e conn c decision.AddPart cause.1.said
    ∙ with-nothing s s.connections (option_map (with_part (own_message e)) s.stream) reply.Noted
effect-made s e (Dropped conn c) cause = said-made s e conn c decision.DropReset cause.1.said
effect-made s e (Reopened conn c) cause = said-made s e conn c decision.OpenEpoch cause.1.said

-- what an event does is one of the effects
pub has-effect : EventsHaveEffects
has-effect s e =
    let it = caused s e in
    record {
      effect = it.effect;
      cause = it.cause;
      made = effect-made s e it.effect it.cause;
    }

-- ---- what they leave

owner-few : (o : Option ℕ) → length (next_owner o) ≤ 1
owner-few None = omega arith
owner-few (Some user) = omega arith

-- at most two entries are placed
pub entries-few : (e : Event) (effect : Effect) → length (entries_of e effect) ≤ 2
entries-few e (Joined user next) = omega (arith, owner-few next)
entries-few e (Left conn c next) = omega (arith, owner-few next)
entries-few e _ = omega arith

last-grows : (ended : List (List Entry)) (live more : List Entry) (k : ℕ)
    → Continues (slice_index_or (ended ++ live ∷ []) k [])
    (slice_index_or (ended ++ (live ++ more) ∷ []) k [])
last-grows [] live more zero = (more, refl)
last-grows [] live more (suc k) = ([], refl)
last-grows (history ∷ ended) live more zero = ([], sym (append-nil history))
last-grows (history ∷ ended) live more (suc k) = last-grows ended live more k

opened-grows : (ended : List (List Entry)) (live new : List Entry) (k : ℕ)
    → Continues (slice_index_or (ended ++ live ∷ []) k [])
    (slice_index_or ((ended ++ live ∷ []) ++ new ∷ []) k [])
opened-grows [] live new zero = ([], sym (append-nil live))
opened-grows [] live new (suc k) = (slice_index_or (new ∷ []) k [], refl)
opened-grows (history ∷ ended) live new zero = ([], sym (append-nil history))
opened-grows (history ∷ ended) live new (suc k) = opened-grows ended live new k

histories-go_on : (s : State) (e : Event) (effect : Effect) (k : ℕ)
    → Continues (history_of s k)
    (slice_index_or (ended_after s effect ++ live_after s e effect ∷ []) k [])
histories-go_on s e (Reopened conn c) k =
    opened-grows s.ended s.live
    (opening (epoch_of s + 1) s.live (present_users s) (sent_commands s.stream)
    (kept_by s.stream s.live)) k
histories-go_on s e effect k = last-grows s.ended s.live (entries_of e effect) k

-- the history of each epoch goes on
pub history-goes_over : (s : State) (e : Event) (epoch : ℕ)
    → Continues (history_of s epoch) (history_of (after_event s e) epoch)
history-goes_over s e epoch =
    let h = has-effect s e in
    subst (λ a. Continues (history_of s epoch) (history_of (noted s a) epoch)) (sym h.made)
    (histories-go_on s e h.effect epoch)

-- a connection of the number is there after it, that is later this one
abbrev StaysIn : List Connection → ℕ → Connection → Type 0
StaysIn cs n old = (new : Connection) × (numbered cs n ≡ Some new) × IsLater old new

same-later : (c : Connection) → IsLater c c
same-later c = record { user = refl; joined = refl; ending = λ shut. refl }

becomes-later : (cs : List Connection) (conn n : ℕ) (c d x : Connection)
    → numbered cs conn ≡ Some c → IsLater c d → numbered cs n ≡ Some x
    → StaysIn (slice_set cs (conn - 1) d) n x
becomes-later cs conn n c d x there later is =
    ⊎_elim (λ (same : n ≡ conn).
    let both : Some c ≡ Some x = sym there ∙ ap (λ k. numbered cs k) (sym same) ∙ is in
    let one : c ≡ x = cc in (
      d,
      ap (λ k. numbered (slice_set cs (conn - 1) d) k) same ∙ numbered-same cs conn c d there,
      subst (λ y. IsLater y d) one later,
    ))
    (λ (ne : n ≡ conn → ⊥). (
      x,
      numbered-other cs conn n d (number-found cs conn c there).0 ne ∙ is,
      same-later x,
    ))
    (cases_eq n conn)

connections-stay : (s : State) (e : Event) (effect : Effect) → IsEffect s e effect
    → (n : ℕ) (x : Connection) → connection_of s n ≡ Some x
    → StaysIn (connections_after s effect) n x
connections-stay s e (TakesUp conn c) cause n x is =
    becomes-later s.connections conn n c (record c { acknowledged = epoch_of s }) x
    cause.0.at.given (record { user = refl; joined = refl; ending = λ shut. refl }) is
connections-stay s e (Joined user next) cause n x is =
    (x, numbered-old s.connections (new_connection s user ∷ []) n x is, same-later x)
connections-stay s e (Left conn c next) cause n x is =
    becomes-later s.connections conn n c (record c { ending = ending.Left (here s) }) x
    cause.at.given (record {
      user = refl;
      joined = refl;
      ending = λ shut. let no : true ≡ false = sym cause.at.running ∙ shut in cc;
    }) is
connections-stay s e effect cause n x is = (x, is, same-later x)

-- a connection stays its user's
pub connection-stays : (s : State) (e : Event) (n : ℕ) (x : Connection)
    → connection_of s n ≡ Some x → StaysIn (after_event s e).connections n x
connection-stays s e n x is =
    let h = has-effect s e in
    subst (λ a. StaysIn (noted s a).connections n x) (sym h.made)
    (connections-stay s e h.effect h.cause n x is)
