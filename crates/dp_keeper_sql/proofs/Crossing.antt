-- A store may go to another thread, since its table may.
use denote.Param.Send.{IsSend, sendable, view_send}
use denote.Param.SendFields.{declared_send}
use Rattle.std.proofs.Crossing.{crosses}
use Rattle.dp_file_table.proofs.Crossing.{table_send}
use Rattle.dp_keeper_sql.specs.contracts.keeper.SqlKeeper as SqlKeeper
use Rattle.dp_keeper_sql.specs.contracts.keeper.SqlKeeper.TheInside as inside

pub keeper_send : IsSend SqlKeeper.the_row
keeper_send =
    view_send inside.the_row _ _ _ _ (declared_send inside.the_type (
      table_send,
      (
        search (sendable, crosses) depth 20,
        (search sendable depth 20, (search sendable depth 20, tt)),
      ),
    ))
