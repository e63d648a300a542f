-- The connections of a session, and what is noted beside them: who is present, by which event each
-- joined, and which are quiet.
use Rattle.std.specs.Prelude.{◌≡◌, ℕ, ◌-◌, ◌==◌, Bool, true, false, [], if◌then◌else◌, Option}
use Rattle.std.specs.Prelude.{None, Some, List, ◌∷◌, ◌++◌, length, slice_set, ◌<◌, ◌&&◌, count_by, ⊤}
use Rattle.std.specs.List.{filter, range_with_len}
use Rattle.dp_epochs.specs.declared.connection.Connection.{Connection}
use Rattle.dp_epochs.specs.declared.effect.Effect.{Effect}
use Rattle.dp_epochs.specs.declared.effect.Effect.TheVariants.{TakesUp, Joined, Left}
use Rattle.dp_epochs.specs.State.{connection_in}
use Rattle.dp_epochs.specs.Connections.{is_open}
use Rattle.dp_history.specs.Users.{mark}
use Rattle.dp_epochs.specs.declared.connection.Ending.TheVariants as ending

-- ---- users

-- the connection is open, and the user's
abbrev pub is_holder : ℕ → Connection → Bool
is_holder user connection = is_open connection && connection.user == user

-- an id that is marked is held by one open connection, and another by none
abbrev pub MarksHolders : List Bool → List Connection → Type 0
MarksHolders present connections =
    (user : ℕ) → user < 256
    → count_by (is_holder user) connections ≡ (if mark present user then 1 else 0)

-- ---- quiet connections

-- the numbers of the connections that are flagged, rising
abbrev pub quiet_of : List Bool → List ℕ
quiet_of flags = filter (λ conn. mark flags (conn - 1)) (range_with_len 1 (length flags))

-- the flags with one more, of the connection of the number, if it was given out
abbrev pub flagged : List Bool → ℕ → List Bool
flagged flags conn = if conn == 0 then flags else slice_set flags (conn - 1) true

-- ---- after an event

-- the connection that takes up an epoch or leaves was given out
abbrev pub IsThere : List Connection → Effect → Type 0
IsThere connections (TakesUp conn connection) = connection_in connections conn ≡ Some connection
IsThere connections (Left conn connection next) = connection_in connections conn ≡ Some connection
IsThere connections other = ⊤

-- the marks after it
abbrev pub marks_after : Effect → List Bool → List Bool
marks_after (Joined user next) present = slice_set present user true
marks_after (Left conn connection next) present = slice_set present connection.user false
marks_after other present = present

-- the events by which the users joined last, after the journal's n-th
abbrev pub opens_after : ℕ → Effect → List ℕ → List ℕ
opens_after n (Joined user next) opens = slice_set opens user n
opens_after n other opens = opens

-- the quiet flags after it
abbrev pub quiet_after : Effect → List Bool → List Bool
quiet_after (Joined user next) quiet = quiet ++ false ∷ []
quiet_after other quiet = quiet

-- the connections if that of a number, if it was found open, is closed without a Leave
abbrev pub closed_in : ℕ → Option Connection → List Connection → List Connection
closed_in conn None connections = connections
closed_in conn (Some connection) connections =
    slice_set connections (conn - 1) (record connection { ending = ending.Shut })

-- and the marks
abbrev pub unmarked : Option Connection → List Bool → List Bool
unmarked None present = present
unmarked (Some connection) present = slice_set present connection.user false
