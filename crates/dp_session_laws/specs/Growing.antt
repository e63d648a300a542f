-- How the state of a session grows.
use Rattle.std.specs.Prelude.{◌≡◌, ◌⊎◌, ℕ, ◌<◌, ◌≤◌, length, Some, ⊤}
use mathlib.Core.List.{IsPrefix}
use Rattle.dp_epochs.specs.declared.connection.Place.{Place}
use Rattle.dp_epochs.specs.declared.connection.Ending.{Ending}
use Rattle.dp_epochs.specs.declared.connection.Ending.TheVariants as ending
use Rattle.dp_epochs.specs.declared.connection.Connection.{Connection}
use Rattle.dp_epochs.specs.State.{State, epoch_of, history_of, connection_of}

-- the place is not before the end of the live history
abbrev pub IsAfter : State → Place → Type 0
IsAfter s place =
    (epoch_of s < place.epoch)
    ⊎ ((place.epoch ≡ epoch_of s) × (length s.live ≤ place.index))

-- How a connection may end while one state grows into another: a Leave is placed after the live
-- history of the first one, in an epoch of the second one. Once it has ended it stays so.
abbrev pub EndsLater : State → State → Ending → Ending → Type 0
EndsLater s t ending.Running ending.Running = ⊤
EndsLater s t ending.Running (ending.Left place) = IsAfter s place × (place.epoch ≤ epoch_of t)
EndsLater s t ending.Running ending.Shut = ⊤
EndsLater s t (ending.Left place) other = other ≡ ending.Left place
EndsLater s t ending.Shut other = other ≡ ending.Shut

-- the connection keeps its user and the place of its Join
pub record ConnectionLater (s t : State) (old new : Connection) : Type 0 where
  pub user : new.user ≡ old.user
  pub joined : new.joined ≡ old.joined
  pub ending : EndsLater s t old.ending new.ending

-- One state has grown into another: the epochs are no fewer, each history begins the later one of
-- its epoch, and each connection is there.
pub record GrowsInto (s t : State) : Type 0 where
  pub epochs : epoch_of s ≤ epoch_of t
  pub histories : (epoch : ℕ) → IsPrefix (history_of s epoch) (history_of t epoch)
  pub connections : (conn : ℕ) (old : Connection) → connection_of s conn ≡ Some old
      → (new : Connection) × (connection_of t conn ≡ Some new) × ConnectionLater s t old new
