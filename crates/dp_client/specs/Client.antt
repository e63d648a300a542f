-- A client: what it has taken of its epoch, and its sends that aren't answered.
use Rattle.std.specs.Prelude.{ℕ, ◌+◌, Bool, true, false, ◌&&◌, ◌==◌, nat_lt, nat_le, if◌then◌else◌}
use Rattle.std.specs.Prelude.{Option, None, Some, List, [], ◌∷◌, ◌++◌, length, drop}
use Rattle.std.specs.List.{filter_map, fold}
use Rattle.dp_msg_meta.specs.declared.message.Meta.TheVariants.{Join, Leave, Filtered}
use Rattle.dp_messages.specs.declared.message.Msg.{Msg}
use Rattle.dp_messages.specs.declared.message.Msg.TheVariants as msg
use Rattle.dp_messages.specs.declared.message.Entry.{Entry}
use Rattle.dp_messages.specs.Equality.{same_message}
use Rattle.dp_messages.specs.Properties.{carried_in, command_of, is_filtered, marked}
use Rattle.dp_plain.specs.Board.{Board}
use Rattle.dp_plain.specs.Commands.{draw_all}
use Rattle.dp_msg_draw.specs.declared.draw.Draw.{Draw}
use Rattle.dp_replay.specs.Replay.{replay, replay_on}
use Rattle.dp_fork.specs.declared.own.Own.{Own}
use Rattle.dp_fork.specs.declared.own.Own.TheVariants.{Stranger, Echo, Dropped, Lost}
use Rattle.dp_client.specs.declared.client.Taken.{Taken}

-- The user's id, and the epoch and the index of the user's Join, from the Welcome. Then the epoch
-- that the client is in, and the entries that it has taken of that. Last its fork: what it has said
-- that isn't answered, in order.
pub record State : Type 0 where
  pub user : ℕ
  pub joined_epoch : ℕ
  pub joined_at : ℕ
  pub epoch : ℕ
  pub taken : List Entry
  pub fork : List Msg

-- a client that was just welcomed
abbrev pub welcomed : ℕ → ℕ → ℕ → State
welcomed user epoch at = record {
  user = user;
  joined_epoch = epoch;
  joined_at = at;
  epoch = epoch;
  taken = [];
  fork = [];
}

-- ---- what an entry is to the fork

-- the message may answer a send: no Join, no Leave, and no Filtered in place of a message that has
-- no entry
abbrev pub may_answer : Msg → Bool
may_answer (msg.Meta (Join registered name)) = false
may_answer (msg.Meta Leave) = false
may_answer (msg.Meta (Filtered kind)) = nat_le 32 kind
may_answer m = true

-- own answers stand after this index: that of the user's Join in the Welcome's epoch, else that of
-- the last carried entry
abbrev pub last_before : State → ℕ
last_before s = if s.epoch == s.joined_epoch then s.joined_at else carried_in s.taken

-- the next entry is an own answer
abbrev pub is_own_answer : State → Entry → Bool
is_own_answer s entry =
    entry.user == s.user && may_answer entry.msg && nat_lt (last_before s) (length s.taken)

-- what an own answer is to the fork: nothing to an empty one; Filtered drops the front; an equal
-- message is the front's echo; and another one means that the fork is lost
abbrev pub answered : List Msg → Msg → Own
answered [] m = Stranger
answered (front ∷ rest) m =
    if is_filtered m then Dropped else if same_message m front then Echo else Lost

-- what the next entry is to the fork
abbrev pub own_of : State → Entry → Own
own_of s entry = if is_own_answer s entry then answered s.fork entry.msg else Stranger

-- the fork after such an entry
abbrev pub fork_after : Own → List Msg → List Msg
fork_after Stranger fork = fork
fork_after Echo fork = drop 1 fork
fork_after Dropped fork = drop 1 fork
fork_after Lost fork = []

-- ---- steps

-- the client says a message
abbrev pub said : State → Msg → State
said s m = record s { fork = s.fork ++ m ∷ [] }

-- the mark of the Welcome's epoch, as the very first entry: the client is in that epoch already
abbrev pub is_first_mark : State → ℕ → Bool
is_first_mark s epoch = length s.taken == 0 && epoch == s.joined_epoch

-- the client takes an entry, which is a mark of an epoch, or none
abbrev pub took_at : Option ℕ → State → Entry → State
took_at None s entry = record s {
  taken = s.taken ++ entry ∷ [];
  fork = fork_after (own_of s entry) s.fork;
}
took_at (Some epoch) s entry =
    if is_first_mark s epoch
    then record s { taken = entry ∷ [] }
    else record s { epoch = epoch; taken = entry ∷ []; fork = [] }

-- the client takes an entry
abbrev pub took : State → Entry → State
took s entry = took_at (marked entry.msg) s entry

-- where the entry stands, and the epoch to be acknowledged
abbrev pub taken_at : Option ℕ → State → Taken
taken_at None s = record { ack = None; epoch = s.epoch; at = length s.taken }
taken_at (Some epoch) s = record {
  ack = if is_first_mark s epoch then None else Some epoch;
  epoch = epoch;
  at = 0;
}

-- where an entry stands that is taken, and the epoch to be acknowledged
abbrev pub taken_of : State → Entry → Taken
taken_of s entry = taken_at (marked entry.msg) s

-- what a client does of its own: it says a message, or takes an entry
pub data Step : Type 0 where
  Said : Msg → Step
  Took : Entry → Step

-- the client after a step
abbrev pub after_step : State → Step → State
after_step s (Said m) = said s m
after_step s (Took entry) = took s entry

-- the client after its own steps since the Welcome, in order
abbrev pub after_steps : State → List Step → State
after_steps s steps = fold after_step s steps

-- ---- what it shows

-- the confirmed canvas: the entries taken, replayed
abbrev pub confirmed : State → Board
confirmed s = replay s.taken

-- the view: the confirmed canvas with the fork's commands drawn in order
abbrev pub view : State → Board
view s = draw_all (confirmed s) (filter_map command_of s.fork)

-- the confirmed canvas and the view on a board of any kind, from a blank one on
abbrev pub confirmed_on : {B : Type 0} → (B → Draw → B) → B → State → B
confirmed_on draw blank s = replay_on draw blank s.taken

abbrev pub view_on : {B : Type 0} → (B → Draw → B) → B → State → B
view_on draw blank s = fold draw (confirmed_on draw blank s) (filter_map command_of s.fork)
