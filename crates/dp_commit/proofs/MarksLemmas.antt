-- The connections after an event.
use Rattle.std.proofs.Common.{◌≡◌, ℕ, ◌+◌, ◌-◌, ◌≤◌, Bool, false, List, [], ◌∷◌, length, Option}
use Rattle.std.proofs.Common.{None, Some, refl, arith, length-append}
use Rattle.std.proofs.Math.ListN.{length-set}
use Rattle.dp_epochs.specs.declared.connection.Connection.{Connection}
use Rattle.dp_epochs.specs.declared.event.Event.{Event}
use Rattle.dp_epochs.specs.declared.connection.Place.{Place}
use Rattle.dp_epochs.specs.declared.effect.Effect.{Effect}
use Rattle.dp_epochs.specs.declared.effect.Effect.TheVariants.{TakesUp, Joined, Left}
use Rattle.dp_epochs.specs.Effects.{connections_at, connections_after, IsEffect}
use Rattle.dp_epochs.specs.State.{State, epoch_of, here, new_connection}
use Rattle.dp_commit.specs.Marks.{quiet_after, closed_in, IsThere}
use Rattle.dp_epochs.specs.declared.connection.Ending.TheVariants as ending

-- an event adds at most one connection
pub connections-more : (s : State) (effect : Effect)
    → length (connections_after s effect) ≤ length s.connections + 1
connections-more s (TakesUp conn c) =
    omega (
      arith,
      length-set s.connections (conn - 1) (record c { acknowledged = epoch_of s }),
    )
connections-more s (Joined user next) =
    omega (arith, length-append s.connections (new_connection s user ∷ []))
connections-more s (Left conn c next) =
    omega (
      arith,
      length-set s.connections (conn - 1) (record c { ending = ending.Left (here s) }),
    )
connections-more s effect = omega arith

pub flags-after : (place : Place) (effect : Effect) (flags : List Bool) (cs : List Connection)
    → length flags ≡ length cs
    → length (quiet_after effect flags) ≡ length (connections_at place cs effect)
flags-after place (TakesUp conn c) flags cs same = simp length-set same
flags-after place (Joined user next) flags cs same =
    omega (
      arith,
      length-append flags (false ∷ []),
      length-append cs (record {
        user = user;
        acknowledged = place.epoch;
        joined = place;
        ending = ending.Running;
      } ∷ []),
      same,
    )
flags-after place (Left conn c next) flags cs same = simp length-set same
flags-after place effect flags cs same = same

pub length-closed : (conn : ℕ) (o : Option Connection) (cs : List Connection)
    → length (closed_in conn o cs) ≡ length cs
length-closed conn None cs = refl
length-closed conn (Some c) cs = length-set cs (conn - 1) (record c { ending = ending.Shut })

-- the connection that takes up an epoch or leaves was given out
pub there-by : (s : State) (e : Event) (effect : Effect) (cs : List Connection)
    → IsEffect s e effect → s.connections ≡ cs → IsThere cs effect
there-by s e (TakesUp conn c) cs cause same = rw same at cause.0.at.given
there-by s e (Left conn c next) cs cause same = rw same at cause.at.given
there-by s e effect cs cause same = tt
