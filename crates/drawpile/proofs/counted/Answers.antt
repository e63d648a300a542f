-- The store may go to the threads of a server.
use denote.Param.Send.{sendable}
use Rattle.dp_program.proofs.Crossing.{store_send}
use Rattle.drawpile.proofs.counted.Goals as goal

pub drawpile-requires-send-K : goal.drawpile-requires-send-K
drawpile-requires-send-K g c κs within = search (sendable, store_send) depth 20
