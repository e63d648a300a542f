-- Whether a connection is open.
use Rattle.std.specs.Prelude.{Bool, true, false, not}
use Rattle.dp_epochs.specs.declared.connection.Ending.{Ending}
use Rattle.dp_epochs.specs.declared.connection.Ending.TheVariants as ending
use Rattle.dp_epochs.specs.declared.connection.Connection.{Connection}

-- whether a connection with this end has ended
abbrev pub is_ended : Ending → Bool
is_ended ending.Running = false
is_ended (ending.Left place) = true
is_ended ending.Shut = true

-- the connection is open
abbrev pub is_open : Connection → Bool
is_open connection = not (is_ended connection.ending)
