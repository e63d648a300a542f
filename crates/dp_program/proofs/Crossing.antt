-- A store may go to another thread, be it in a file or in memory.
use denote.Param.Send.{IsSend, sendable}
use denote.Param.SendFields.{variants_send}
use Rattle.std.proofs.Crossing.{crosses}
use Rattle.dp_keeper.specs.contracts.sure.SureKeeper as SureKeeper
use Rattle.dp_keeper_sql.proofs.Crossing.{keeper_send}
use Rattle.dp_program.specs.contracts.store.Store as Store

sure_send : IsSend SureKeeper.the_row
sure_send = search (sendable, crosses) depth 20

pub store_send : IsSend Store.the_row
store_send = variants_send Store.enum ((keeper_send, tt), ((sure_send, tt), tt))
