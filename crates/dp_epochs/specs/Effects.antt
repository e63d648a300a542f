-- What an event does to a session, by the kinds of outcome.
use Rattle.std.specs.Prelude.{◌≡◌, ℕ, ◌+◌, ◌-◌, ◌≤◌, Bool, true, false, Option, None, Some}
use Rattle.std.specs.Prelude.{IfSome, List, [], ◌∷◌, ◌++◌, length, slice_set}
use Rattle.std.specs.Option.{option_map}
use Rattle.dp_msg_draw.specs.declared.draw.Draw.{Draw}
use Rattle.dp_msg_meta.specs.declared.message.Control.TheVariants.{ResetBegin, ResetEnd, ResetFrom}
use Rattle.dp_msg_meta.specs.declared.message.Meta.TheVariants.{Join, Leave}
use Rattle.dp_messages.specs.declared.message.Msg.{Msg}
use Rattle.dp_messages.specs.declared.message.Msg.TheVariants as msg
use Rattle.dp_messages.specs.declared.message.Entry.{Entry}
use Rattle.dp_acl.specs.Rights.{is_operator}
use Rattle.dp_acl.specs.Permitted.{permitted}
use Rattle.dp_epochs.specs.declared.connection.Connection.{Connection}
use Rattle.dp_epochs.specs.declared.connection.Place.{Place}
use Rattle.dp_epochs.specs.declared.connection.Ending.TheVariants as ending
use Rattle.dp_epochs.specs.declared.decision.Decision.{Decision}
use Rattle.dp_epochs.specs.declared.decision.Decision.TheVariants as decision
use Rattle.dp_epochs.specs.declared.effect.Effect.{Effect}
use Rattle.dp_epochs.specs.declared.effect.Effect.TheVariants.{Nothing, TakesUp, Placed, Filtered}
use Rattle.dp_epochs.specs.declared.effect.Effect.TheVariants.{Joined, Left, Began, Added, Dropped}
use Rattle.dp_epochs.specs.declared.effect.Effect.TheVariants.{Reopened}
use Rattle.dp_epochs.specs.declared.event.Event.{Event}
use Rattle.dp_epochs.specs.declared.event.Event.TheVariants as event
use Rattle.dp_epochs.specs.declared.event.Reply.{Reply}
use Rattle.dp_epochs.specs.declared.event.Reply.TheVariants as reply
use Rattle.dp_epochs.specs.State.{State, Stream, Acted, epoch_of, here, entry_of, filtered_entry}
use Rattle.dp_epochs.specs.Connections.{is_open}
use Rattle.dp_epochs.specs.State.{connection_of, open_connection, has_acknowledged}
use Rattle.dp_epochs.specs.State.{is_name, free_id, next_owner, owner_on_join}
use Rattle.dp_epochs.specs.State.{left, owner_on_leave, stream_without, decided, acted}
use Rattle.dp_epochs.specs.State.{place_in, first_stream, with_part, fits_reset, reset_of}
use Rattle.dp_epochs.specs.State.{present_users, after_event, sent_commands, kept_by}
use Rattle.dp_acl.specs.Opening.{opening}

-- the message of the event's own entry: a user's Join, what is said, or the Leave
abbrev pub own_message : Event → Msg
own_message (event.Open name registered) = msg.Meta (Join registered name)
own_message (event.Say conn m) = m
own_message (event.Close conn) = msg.Meta Leave

-- ---- what it makes of a state

-- the entries that the event places after the live history by its effect
abbrev pub entries_of : Event → Effect → List Entry
entries_of e (Placed conn connection) = entry_of connection.user (own_message e) ∷ []
entries_of e (Filtered conn connection) = filtered_entry connection.user (own_message e) ∷ []
entries_of e (Joined user next) = entry_of user (own_message e) ∷ next_owner next
entries_of e (Left conn connection next) =
    entry_of connection.user (msg.Meta Leave) ∷ next_owner next
entries_of e (Dropped conn connection) = filtered_entry connection.user (own_message e) ∷ []
entries_of e other = []

-- the histories of the epochs before the live one after it
abbrev pub ended_after : State → Effect → List (List Entry)
ended_after s (Reopened conn connection) = s.ended ++ s.live ∷ []
ended_after s other = s.ended

-- the live history after it
abbrev pub live_after : State → Event → Effect → List Entry
live_after s e (Reopened conn connection) =
    opening (epoch_of s + 1) s.live (present_users s) (sent_commands s.stream)
    (kept_by s.stream s.live)
live_after s e other = s.live ++ entries_of e other

-- the connections after it, if the next entry would stand at this place: at most one is added, or
-- changed
abbrev pub connections_at : Place → List Connection → Effect → List Connection
connections_at place connections (TakesUp conn connection) =
    slice_set connections (conn - 1) (record connection { acknowledged = place.epoch })
connections_at place connections (Joined user next) =
    connections ++ record {
      user = user;
      acknowledged = place.epoch;
      joined = place;
      ending = ending.Running;
    } ∷ []
connections_at place connections (Left conn connection next) =
    slice_set connections (conn - 1) (record connection { ending = ending.Left place })
connections_at place connections other = connections

abbrev pub connections_after : State → Effect → List Connection
connections_after s effect = connections_at (here s) s.connections effect

-- the stream after it
abbrev pub stream_after : Event → Option Stream → Effect → Option Stream
stream_after e stream (Left conn connection next) = stream_without conn stream
stream_after e stream (Began conn connection) = Some (first_stream conn (place_in (own_message e)))
stream_after e stream (Added conn connection) = option_map (with_part (own_message e)) stream
stream_after e stream (Dropped conn connection) = None
stream_after e stream (Reopened conn connection) = None
stream_after e stream other = stream

-- what is answered, if the next entry would stand at this place and `given` connections were given
-- out
abbrev pub answer_at : Place → ℕ → Effect → Reply
answer_at place given (Nothing answer) = answer
answer_at place given (TakesUp conn connection) = reply.Noted
answer_at place given (Placed conn connection) = reply.Placed place.epoch place.index
answer_at place given (Filtered conn connection) = reply.Filtered place.epoch place.index
answer_at place given (Joined user next) = reply.Opened (given + 1) user place.epoch place.index
answer_at place given (Left conn connection next) = reply.Placed place.epoch place.index
answer_at place given (Began conn connection) = reply.Noted
answer_at place given (Added conn connection) = reply.Noted
answer_at place given (Dropped conn connection) = reply.Filtered place.epoch place.index
answer_at place given (Reopened conn connection) = reply.Placed (place.epoch + 1) 0

abbrev pub answer_of : State → Effect → Reply
answer_of s effect = answer_at (here s) (length s.connections) effect

-- the state after the event by its effect, and the answer
abbrev pub made : State → Event → Effect → Acted
made s e effect = record {
  state = record s {
    ended = ended_after s effect;
    live = live_after s e effect;
    connections = connections_after s effect;
    stream = stream_after e s.stream effect;
  };
  reply = answer_of s effect;
}

-- ---- when it is the event's

-- the event is ignored: its connection isn't open, or that becomes of what it says
abbrev pub IsIgnored : State → Event → Type 0
IsIgnored s (event.Open name registered) = ⊥
IsIgnored s (event.Say conn m) =
    IfSome (open_connection s conn) (λ c. decided s conn c m ≡ decision.Ignore)
IsIgnored s (event.Close conn) = open_connection s conn ≡ None

-- the event is an Open whose name is none
abbrev pub IsRefusedName : Event → Type 0
IsRefusedName (event.Open name registered) = is_name name ≡ false
IsRefusedName other = ⊥

-- the event is an Open with a name while all ids are held
abbrev pub IsForNoOne : State → Event → Type 0
IsForNoOne s (event.Open name registered) = (is_name name ≡ true) × (free_id s ≡ None)
IsForNoOne s other = ⊥

-- nothing is done, and the answer says why
abbrev pub IsStill : State → Event → Reply → Type 0
IsStill s e reply.Ignored = IsIgnored s e
IsStill s e reply.NameRefused = IsRefusedName e
IsStill s e reply.Full = IsForNoOne s e
IsStill s e other = ⊥

-- the connection of this number was given out, and is open
pub record IsOpenAt (s : State) (conn : ℕ) (connection : Connection) : Type 0 where
  pub given : connection_of s conn ≡ Some connection
  pub running : is_open connection ≡ true
  pub found : open_connection s conn ≡ Some connection

-- the event is a message of this connection, of which that becomes
pub record IsSaid (s : State) (e : Event) (conn : ℕ) (connection : Connection) (d : Decision)
    : Type 0 where
  pub came : e ≡ event.Say conn (own_message e)
  pub at : IsOpenAt s conn connection
  pub decided : decided s conn connection (own_message e) ≡ d

-- The event is this message about resets of this connection, and this becomes of it. The connection
-- has taken up the live epoch, and its user is operator.
pub record IsReset (s : State) (e : Event) (conn : ℕ) (connection : Connection) (m : Msg)
    (d : Decision) : Type 0 where
  pub said : IsSaid s e conn connection d
  pub is : own_message e ≡ m
  pub acknowledged : has_acknowledged s connection ≡ true
  pub operator : is_operator s.live connection.user ≡ true

-- the message that begins a reset: one that keeps entries from this place on, if there is one
abbrev pub begin_message : Option ℕ → Msg
begin_message None = msg.Control ResetBegin
begin_message (Some at) = msg.Control (ResetFrom at)

-- the place, if there is one, is not past the live history
abbrev pub IsWithinLive : State → Option ℕ → Type 0
IsWithinLive s place = IfSome place (λ at. at ≤ length s.live)

-- the command is a part that fits the reset that the connection sends
pub record FitsReset (s : State) (conn : ℕ) (command : Draw) : Type 0 where
  pub stream : Stream
  pub sent : s.stream ≡ Some stream
  pub owner : stream.owner ≡ conn
  pub fits : fits_reset stream.commands command ≡ true

-- the user joins by this event, under the lowest id that no one holds
pub record IsJoin (s : State) (e : Event) (user : ℕ) (next : Option ℕ) : Type 0 where
  pub name : List ℕ
  pub registered : Bool
  pub came : e ≡ event.Open name registered
  pub named : is_name name ≡ true
  pub free : free_id s ≡ Some user
  pub owner : next ≡ owner_on_join s user

-- the user of the connection leaves by this event
pub record IsLeave (s : State) (e : Event) (conn : ℕ) (connection : Connection) (next : Option ℕ)
    : Type 0 where
  pub came : e ≡ event.Close conn
  pub at : IsOpenAt s conn connection
  pub owner : next
      ≡ owner_on_leave (is_operator s.live connection.user) (left s conn connection)

-- the event has this effect on the state
abbrev pub IsEffect : State → Event → Effect → Type 0
IsEffect s e (Nothing answer) = IsStill s e answer
IsEffect s e (TakesUp conn connection) =
    IsSaid s e conn connection decision.Acknowledge
    × (has_acknowledged s connection ≡ false)
IsEffect s e (Placed conn connection) =
    IsSaid s e conn connection decision.Place
    × (has_acknowledged s connection ≡ true)
    × (permitted s.live connection.user (own_message e) ≡ true)
IsEffect s e (Filtered conn connection) =
    IsSaid s e conn connection decision.Filter
    × (has_acknowledged s connection ≡ true)
IsEffect s e (Joined user next) = IsJoin s e user next
IsEffect s e (Left conn connection next) = IsLeave s e conn connection next
IsEffect s e (Began conn connection) =
    (place : Option ℕ)
    × IsReset s e conn connection (begin_message place) decision.BeginReset
    × IsWithinLive s place
IsEffect s e (Added conn connection) =
    (command : Draw)
    × IsReset s e conn connection (msg.Part command) decision.AddPart
    × FitsReset s conn command
IsEffect s e (Dropped conn connection) =
    (command : Draw)
    × IsReset s e conn connection (msg.Part command) decision.DropReset
IsEffect s e (Reopened conn connection) =
    (commands : List Draw)
    × IsReset s e conn connection (msg.Control ResetEnd) decision.OpenEpoch
    × (reset_of s conn connection ≡ Some commands)

-- the effect of a message of the connection of which that becomes
abbrev pub effect_by : ℕ → Connection → Decision → Effect
effect_by conn connection decision.Ignore = Nothing reply.Ignored
effect_by conn connection decision.Acknowledge = TakesUp conn connection
effect_by conn connection decision.Place = Placed conn connection
effect_by conn connection decision.Filter = Filtered conn connection
effect_by conn connection decision.BeginReset = Began conn connection
effect_by conn connection decision.AddPart = Added conn connection
effect_by conn connection decision.DropReset = Dropped conn connection
effect_by conn connection decision.OpenEpoch = Reopened conn connection

-- a message of an open connection has the effect that the decision on it says
abbrev pub DecisionsHaveEffects : Type 0
DecisionsHaveEffects =
    (s : State) (conn : ℕ) (connection : Connection) (m : Msg)
    → open_connection s conn ≡ Some connection
    → IsEffect s (event.Say conn m) (effect_by conn connection (decided s conn connection m))

-- what was made of the state by the event is one of these effects
pub record HasEffect (s : State) (e : Event) (a : Acted) : Type 0 where
  pub effect : Effect
  pub cause : IsEffect s e effect
  pub made : a ≡ made s e effect

-- what an event does is one of the effects
abbrev pub EventsHaveEffects : Type 0
EventsHaveEffects = (s : State) (e : Event) → HasEffect s e (acted s e)

-- an effect that has its cause is what the event does
abbrev pub EffectsAreMade : Type 0
EffectsAreMade =
    (s : State) (e : Event) (effect : Effect) → IsEffect s e effect → acted s e ≡ made s e effect

-- ---- connections

-- a connection is later this one: its user and the place of the Join stay, and so does an ending
pub record IsLater (old new : Connection) : Type 0 where
  pub user : new.user ≡ old.user
  pub joined : new.joined ≡ old.joined
  pub ending : is_open old ≡ false → new.ending ≡ old.ending

-- a connection that was given out is there after one more event, and is later the same
abbrev pub ConnectionsStay : Type 0
ConnectionsStay =
    (s : State) (e : Event) (conn : ℕ) (old : Connection) → connection_of s conn ≡ Some old
    → (new : Connection)
    × (connection_of (after_event s e) conn ≡ Some new)
    × IsLater old new
