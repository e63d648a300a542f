-- The state of a session, and what one event makes of it.
use Rattle.std.specs.Prelude.{ℕ, ◌+◌, ◌-◌, ◌^◌, Bool, false, not, ◌&&◌, ◌==◌, nat_le, nat_lt}
use Rattle.std.specs.Prelude.{if◌then◌else◌, Option, None, Some, is_some}
use Rattle.std.specs.Prelude.{List, [], ◌∷◌, ◌++◌, length, slice_set, slice_index_or}
use Rattle.std.specs.List.{filter, find, list_any, range_with_len, sum_by}
use Rattle.std.specs.Option.{option_map, option_map_or}
use Rattle.std.specs.Str.{is_utf8}
use Rattle.dp_msg_draw.specs.declared.draw.Draw.{Draw}
use Rattle.dp_msg_meta.specs.declared.message.Control.TheVariants.{Ping, Disconnect, Ack}
use Rattle.dp_msg_meta.specs.declared.message.Control.TheVariants.{ResetBegin, ResetEnd, ResetFrom}
use Rattle.dp_msg_meta.specs.declared.message.Meta.TheVariants.{Join, Leave, Owners, ResetMark}
use Rattle.dp_msg_meta.specs.declared.message.Meta.TheVariants.{Filtered}
use Rattle.dp_messages.specs.declared.message.Msg.{Msg}
use Rattle.dp_messages.specs.declared.message.Msg.TheVariants as msg
use Rattle.dp_messages.specs.declared.message.Entry.{Entry}
use Rattle.dp_messages.specs.Messages.{kind_of, payload_of}
use Rattle.dp_lists.specs.Numbered.{numbered}
use Rattle.dp_acl.specs.Rights.{is_operator}
use Rattle.dp_acl.specs.Permitted.{permitted}
use Rattle.dp_epochs.specs.declared.event.Event.{Event}
use Rattle.dp_epochs.specs.declared.event.Event.TheVariants as event
use Rattle.dp_epochs.specs.declared.event.Reply.{Reply}
use Rattle.dp_epochs.specs.declared.event.Reply.TheVariants as reply
use Rattle.dp_epochs.specs.declared.connection.Place.{Place}
use Rattle.dp_epochs.specs.declared.connection.Ending.TheVariants as ending
use Rattle.dp_epochs.specs.declared.connection.Connection.{Connection}
use Rattle.dp_epochs.specs.Connections.{is_open}
use Rattle.dp_epochs.specs.declared.decision.Decision.{Decision}
use Rattle.dp_epochs.specs.declared.decision.Decision.TheVariants as decision
use Rattle.dp_acl.specs.Opening.{server_entry, kept_entries, part_limit, opening}

-- A reset that is being sent: the connection that sends it, and the commands so far. If it names
-- one, the place of the live history from which on entries are kept.
pub record Stream : Type 0 where
  pub owner : ℕ
  pub commands : List Draw
  pub place : Option ℕ

-- The histories of the epochs before, the live history, and the connections in the order of their
-- Opened (the first has number 1). Then the reset that is being sent, and the answer to each event
-- so far.
pub record State : Type 0 where
  pub ended : List (List Entry)
  pub live : List Entry
  pub connections : List Connection
  pub stream : Option Stream
  pub answers : List Reply

-- a user's entry
abbrev pub entry_of : ℕ → Msg → Entry
entry_of user m = record { user = user; msg = m }

-- a session to which nothing has come: epoch 0 has its mark
abbrev pub first_state : State
first_state = record {
  ended = [];
  live = server_entry (ResetMark 0 0) ∷ [];
  connections = [];
  stream = None;
  answers = [];
}

-- the number of the live epoch
abbrev pub epoch_of : State → ℕ
epoch_of s = length s.ended

-- the histories of all epochs, the live one last
abbrev pub histories : State → List (List Entry)
histories s = s.ended ++ s.live ∷ []

-- the history of an epoch; nothing, if there is no such epoch yet
abbrev pub history_of : State → ℕ → List Entry
history_of s epoch = slice_index_or (histories s) epoch []

-- where the next entry stands
abbrev pub here : State → Place
here s = record { epoch = epoch_of s; index = length s.live }

-- the state with these entries after the live history
abbrev pub placed : State → List Entry → State
placed s entries = record s { live = s.live ++ entries }

-- ---- connections and users

-- the connection of a number among these, if it was given out
abbrev pub connection_in : List Connection → ℕ → Option Connection
connection_in connections conn = numbered connections conn

-- the connection of a number, if it was given out
abbrev pub connection_of : State → ℕ → Option Connection
connection_of s conn = connection_in s.connections conn

-- the connection, if there is one and it is open
abbrev pub where_open : Option Connection → Option Connection
where_open None = None
where_open (Some connection) = if is_open connection then Some connection else None

-- the connection of a number among these, if it was given out and is open
abbrev pub open_in : List Connection → ℕ → Option Connection
open_in connections conn = where_open (connection_in connections conn)

-- the connection of a number, if it was given out and is open
abbrev pub open_connection : State → ℕ → Option Connection
open_connection s conn = open_in s.connections conn

-- the least number above this one of a connection among these that is open
abbrev pub next_open : List Connection → ℕ → Option ℕ
next_open connections after =
    find (λ conn. is_some (open_in connections conn))
    (range_with_len (after + 1) (length connections - after))

-- the connection has taken up the live epoch
abbrev pub has_acknowledged : State → Connection → Bool
has_acknowledged s connection = connection.acknowledged == epoch_of s

-- the state with another connection of the number
abbrev pub with_connection : State → ℕ → Connection → State
with_connection s conn connection =
    record s { connections = slice_set s.connections (conn - 1) connection }

-- the id is held by a connection that is open: the user is present
abbrev pub is_present : State → ℕ → Bool
is_present s user =
    list_any (λ connection. is_open connection && connection.user == user) s.connections

-- all ids of users
unfoldable pub user_ids : List ℕ
user_ids = range_with_len 1 254

-- the present users, by rising id
abbrev pub present_users : State → List ℕ
present_users s = filter (is_present s) user_ids

-- the lowest id that no one holds
abbrev pub free_id : State → Option ℕ
free_id s = find (λ user. not (is_present s user)) user_ids

-- ---- opening

-- a name is 1 to 32 bytes of UTF-8
abbrev pub is_name : List ℕ → Bool
is_name name = nat_le 1 (length name) && nat_le (length name) 32 && is_utf8 name

-- the user becomes the only operator, if there is one
abbrev pub next_owner : Option ℕ → List Entry
next_owner None = []
next_owner (Some user) = server_entry (Owners (user ∷ [])) ∷ []

-- who becomes operator when the user joins: the user, if nobody is present
abbrev pub owner_on_join : State → ℕ → Option ℕ
owner_on_join s user = if list_any (is_present s) user_ids then None else Some user

-- the entries that a user who joins makes: the Join, and after it the first user is operator
abbrev pub join_entries : State → ℕ → Bool → List ℕ → List Entry
join_entries s user registered name =
    entry_of user (msg.Meta (Join registered name)) ∷ next_owner (owner_on_join s user)

-- a new connection of the user, who joins here
abbrev pub new_connection : State → ℕ → Connection
new_connection s user =
    record { user = user; acknowledged = epoch_of s; joined = here s; ending = ending.Running }

-- the state after the user has joined
abbrev pub joined : State → ℕ → Bool → List ℕ → State
joined s user registered name =
    record (placed s (join_entries s user registered name)) {
      connections = s.connections ++ new_connection s user ∷ [];
    }

-- a state, and what is answered
pub record Acted : Type 0 where
  pub state : State
  pub reply : Reply

-- the state stays
abbrev pub stays : State → Reply → Acted
stays s answer = record { state = s; reply = answer }

-- a user with the lowest id that no one holds, if there is one, joins
abbrev pub opened_as : State → Bool → List ℕ → Option ℕ → Acted
opened_as s registered name None = stays s reply.Full
opened_as s registered name (Some user) = record {
  state = joined s user registered name;
  reply = reply.Opened (length s.connections + 1) user (epoch_of s) (length s.live);
}

-- an Open
abbrev pub opened : State → List ℕ → Bool → Acted
opened s name registered =
    if is_name name then opened_as s registered name (free_id s) else stays s reply.NameRefused

-- ---- closing

-- the stream, unless the connection owns it
abbrev pub stream_without : ℕ → Option Stream → Option Stream
stream_without conn None = None
stream_without conn (Some stream) = if stream.owner == conn then None else Some stream

-- the connection's user leaves: the Leave is placed, and a reset that it was sending is dropped
abbrev pub left : State → ℕ → Connection → State
left s conn connection =
    record (with_connection (placed s (entry_of connection.user (msg.Meta Leave) ∷ [])) conn
    (record connection { ending = ending.Left (here s) })) {
      stream = stream_without conn s.stream;
    }

-- Who becomes operator after the Leave of a user who was operator or not: if no operator is
-- present any more, but somebody is, the lowest present id.
abbrev pub owner_on_leave : Bool → State → Option ℕ
owner_on_leave was_operator s =
    if was_operator && not (list_any (is_operator s.live) (present_users s))
    then find (is_present s) user_ids
    else None

-- a Close of an open connection
abbrev pub closed_by : State → ℕ → Connection → Acted
closed_by s conn connection =
    let gone = left s conn connection in
    record {
      state = placed gone (next_owner
          (owner_on_leave (is_operator s.live connection.user) gone));
      reply = reply.Placed (epoch_of s) (length s.live);
    }

-- a Close
abbrev pub closed : State → ℕ → Acted
closed s conn = option_map_or (closed_by s conn) (open_connection s conn) (stays s reply.Ignored)

-- ---- resets

-- how many bytes a part has: those of its payload, with the byte of the command's kind
abbrev pub part_bytes : Draw → ℕ
part_bytes command = length (payload_of (msg.Part command))

-- the most bytes that the parts of a reset have
abbrev pub reset_byte_limit : ℕ
reset_byte_limit = 2 ^ 28

-- a reset with these commands may have this one, too
abbrev pub fits_reset : List Draw → Draw → Bool
fits_reset commands command =
    nat_lt (length commands) part_limit
    && nat_le (sum_by part_bytes commands + part_bytes command) reset_byte_limit

-- the place that a message names which begins a reset
abbrev pub place_in : Msg → Option ℕ
place_in (msg.Control (ResetFrom at)) = Some at
place_in m = None

-- a reset of the connection that has just begun, with the place that it names
abbrev pub first_stream : ℕ → Option ℕ → Stream
first_stream conn place = record { owner = conn; commands = []; place = place }

-- the reset with the command of a part
abbrev pub with_command : Draw → Stream → Stream
with_command command stream = record stream { commands = stream.commands ++ command ∷ [] }

-- the commands of the reset that is being sent, if there is one
abbrev pub sent_commands : Option Stream → List Draw
sent_commands None = []
sent_commands (Some stream) = stream.commands

-- what the reset that is being sent, if there is one, keeps of a history
abbrev pub kept_by : Option Stream → List Entry → List Entry
kept_by None history = []
kept_by (Some stream) history = kept_entries stream.place history

-- the reset with the command of a message that is a part
abbrev pub with_part : Msg → Stream → Stream
with_part (msg.Part command) stream = with_command command stream
with_part m stream = stream

-- The next epoch opens, with the commands of the reset and what it keeps of the live history. No
-- connection has taken it up, and no reset is being sent.
abbrev pub epoch_opened : State → Option Stream → State
epoch_opened s stream = record s {
  ended = s.ended ++ s.live ∷ [];
  live = opening (epoch_of s + 1) s.live (present_users s) (sent_commands stream)
      (kept_by stream s.live);
  stream = None;
}

-- ---- saying

-- what becomes of a message that is the user's own affair: it is placed if it is permitted
abbrev pub judged : State → Connection → Msg → Decision
judged s connection m =
    if permitted s.live connection.user m then decision.Place else decision.Filter

-- the commands of the reset that a connection sends, if it sends one
abbrev pub commands_by : ℕ → Option Stream → Option (List Draw)
commands_by conn None = None
commands_by conn (Some stream) = if stream.owner == conn then Some stream.commands else None

-- the commands of the reset that a connection sends, if its user is operator
abbrev pub reset_of : State → ℕ → Connection → Option (List Draw)
reset_of s conn connection =
    if is_operator s.live connection.user then commands_by conn s.stream else None

-- the reset is another connection's, whose user is present and operator
abbrev pub is_held_by_other : State → ℕ → Stream → Bool
is_held_by_other s conn stream =
    not (stream.owner == conn)
    && option_map_or (λ owner. is_operator s.live owner.user) (open_connection s stream.owner) false

-- a connection may begin a reset: its user is operator, and no other present operator sends one
abbrev pub may_begin : State → ℕ → Connection → Bool
may_begin s conn connection =
    is_operator s.live connection.user
    && not (option_map_or (is_held_by_other s conn) s.stream false)

-- what becomes of a part, by the reset that it would join
abbrev pub part_decided : Draw → Option (List Draw) → Decision
part_decided command None = decision.Filter
part_decided command (Some commands) =
    if fits_reset commands command then decision.AddPart else decision.DropReset

-- What becomes of a message of a connection that has taken up the live epoch. A reset may keep
-- entries from any place of the live history, its end included.
abbrev pub heard : State → ℕ → Connection → Msg → Decision
heard s conn connection (msg.Control ResetBegin) =
    if may_begin s conn connection then decision.BeginReset else decision.Filter
heard s conn connection (msg.Control ResetEnd) =
    if is_some (reset_of s conn connection) then decision.OpenEpoch else decision.Filter
heard s conn connection (msg.Control (ResetFrom at)) =
    if may_begin s conn connection && nat_le at (length s.live)
    then decision.BeginReset else decision.Filter
heard s conn connection (msg.Part command) = part_decided command (reset_of s conn connection)
heard s conn connection m = judged s connection m

-- What becomes of a message that the open connection of this number says. An Ack of the epoch
-- counts if the epoch is the live one and the connection hasn't taken it up.
abbrev pub decided : State → ℕ → Connection → Msg → Decision
decided s conn connection (msg.Control (Ping pong)) = decision.Ignore
decided s conn connection (msg.Control (Disconnect reason)) = decision.Ignore
decided s conn connection (msg.Control (Ack epoch)) =
    if epoch == epoch_of s && not (has_acknowledged s connection)
    then decision.Acknowledge else decision.Ignore
decided s conn connection m =
    if has_acknowledged s connection then heard s conn connection m else decision.Ignore

-- the message is placed, with its user
abbrev pub said : State → ℕ → Msg → Acted
said s user m = record {
  state = placed s (entry_of user m ∷ []);
  reply = reply.Placed (epoch_of s) (length s.live);
}

-- the entry in place of a message
abbrev pub filtered_entry : ℕ → Msg → Entry
filtered_entry user m = entry_of user (msg.Meta (Filtered (kind_of m)))

-- an entry in place of the message is placed
abbrev pub filtered : State → ℕ → Msg → Acted
filtered s user m = record {
  state = placed s (filtered_entry user m ∷ []);
  reply = reply.Filtered (epoch_of s) (length s.live);
}

-- what a decision on a message makes of the state
abbrev pub acted_by : State → ℕ → Connection → Msg → Decision → Acted
acted_by s conn connection m decision.Ignore = stays s reply.Ignored
acted_by s conn connection m decision.Acknowledge = record {
  state = with_connection s conn (record connection { acknowledged = epoch_of s });
  reply = reply.Noted;
}
acted_by s conn connection m decision.Place = said s connection.user m
acted_by s conn connection m decision.Filter = filtered s connection.user m
acted_by s conn connection m decision.BeginReset = record {
  state = record s { stream = Some (first_stream conn (place_in m)) };
  reply = reply.Noted;
}
acted_by s conn connection m decision.AddPart = record {
  state = record s { stream = option_map (with_part m) s.stream };
  reply = reply.Noted;
}
acted_by s conn connection m decision.DropReset =
    filtered (record s { stream = None }) connection.user m
acted_by s conn connection m decision.OpenEpoch = record {
  state = epoch_opened s s.stream;
  reply = reply.Placed (epoch_of s + 1) 0;
}

-- a Say of an open connection
abbrev pub says_by : State → ℕ → Msg → Connection → Acted
says_by s conn m connection = acted_by s conn connection m (decided s conn connection m)

-- a Say
abbrev pub says : State → ℕ → Msg → Acted
says s conn m = option_map_or (says_by s conn m) (open_connection s conn) (stays s reply.Ignored)

-- ---- all events

-- what an event makes of the state, and its answer
abbrev pub acted : State → Event → Acted
acted s (event.Open name registered) = opened s name registered
acted s (event.Say conn m) = says s conn m
acted s (event.Close conn) = closed s conn

-- the state that is left, with the answer after those so far
abbrev pub noted : State → Acted → State
noted s a = record a.state { answers = s.answers ++ a.reply ∷ [] }

-- the state after an event that is journalled, with its answer
abbrev pub after_event : State → Event → State
after_event s e = noted s (acted s e)

-- the state after a connection was closed without a Leave
abbrev pub after_shut : State → ℕ → State
after_shut s conn =
    option_map_or (λ connection. with_connection s conn (record connection
    { ending = ending.Shut }))
    (open_connection s conn) s
