-- What a query is answered.
use Rattle.std.specs.Prelude.{ℕ, ◌+◌, ◌==◌, max, nat_lt, if◌then◌else◌, Option, None, Some}
use Rattle.std.specs.Prelude.{List, take, drop}
use Rattle.std.specs.List.{list_any}
use Rattle.dp_messages.specs.declared.message.Entry.{Entry}
use Rattle.dp_epochs.specs.declared.connection.Place.{Place}
use Rattle.dp_epochs.specs.declared.connection.Ending.{Ending}
use Rattle.dp_epochs.specs.declared.connection.Ending.TheVariants as ending
use Rattle.dp_epochs.specs.declared.connection.Connection.{Connection}
use Rattle.dp_epochs.specs.declared.event.Query.{Query}
use Rattle.dp_epochs.specs.declared.event.Query.TheVariants.{Pull}
use Rattle.dp_epochs.specs.declared.event.Answer.{Answer}
use Rattle.dp_epochs.specs.declared.event.Answer.TheVariants.{Entries, Gone}
use Rattle.dp_epochs.specs.State.{State, epoch_of, connection_of}
use Rattle.dp_epochs.specs.Past.{Past, state_of}

-- at most `most` entries of a history from a place on; 0 counts as 1
abbrev pub page : ℕ → ℕ → List Entry → List Entry
page at most history = take (max 1 most) (drop at history)

-- entries of the live epoch, of which this much counts: from the cursor on, if that is of the
-- live epoch, or else from its beginning
abbrev pub pulled_from : State → ℕ → ℕ → ℕ → List Entry → Answer
pulled_from s epoch at most history =
    if epoch == epoch_of s
    then Entries epoch at (page at most history)
    else Entries (epoch_of s) 0 (page 0 most history)

-- the feed of a connection that left here: it ends with the Leave, and after that it is gone
abbrev pub pulled_by_left : State → ℕ → ℕ → ℕ → Place → Answer
pulled_by_left s epoch at most place =
    if place.epoch == epoch_of s
    then (if epoch == epoch_of s then (if nat_lt place.index at then Gone
    else pulled_from s epoch at most (take (place.index + 1) s.live))
    else pulled_from s epoch at most (take (place.index + 1) s.live))
    else Gone

-- an open connection that isn't quiet gets entries of the live history
abbrev pub pulled_by_open : State → List ℕ → ℕ → ℕ → ℕ → ℕ → Answer
pulled_by_open s quiet conn epoch at most =
    if list_any (λ other. other == conn) quiet
    then Gone
    else pulled_from s epoch at most s.live

-- by how the connection ended
abbrev pub pulled_by : State → List ℕ → ℕ → ℕ → ℕ → ℕ → Ending → Answer
pulled_by s quiet conn epoch at most ending.Running = pulled_by_open s quiet conn epoch at most
pulled_by s quiet conn epoch at most (ending.Left place) = pulled_by_left s epoch at most place
pulled_by s quiet conn epoch at most ending.Shut = Gone

-- a connection that was not given out is gone
abbrev pub pulled_where : State → List ℕ → ℕ → ℕ → ℕ → ℕ → Option Connection → Answer
pulled_where s quiet conn epoch at most None = Gone
pulled_where s quiet conn epoch at most (Some connection) =
    pulled_by s quiet conn epoch at most connection.ending

-- the answer to a query
abbrev pub answered : Past → Query → Answer
answered past (Pull conn epoch at most) =
    let s = state_of past in
    pulled_where s past.quiet conn epoch at most (connection_of s conn)
