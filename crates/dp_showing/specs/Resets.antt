-- The reset that a client sends.
use Rattle.std.specs.Prelude.{Bool, List, length}
use Rattle.dp_messages.specs.declared.message.Msg.{Msg}
use Rattle.dp_client.specs.Client.{State, confirmed}
use Rattle.dp_snap.specs.Resets.{reset_begin, reset_messages}
use Rattle.dp_snap.specs.Snapshot.{snapshot}

-- the reset to the client's confirmed canvas, one that keeps what comes after what it has taken, or
-- one that doesn't
abbrev pub client_reset : Bool → State → List Msg
client_reset keeps client =
    reset_messages (reset_begin keeps (length client.taken)) (snapshot (confirmed client))
