use denote.Param.Send.{sendable}
use Rattle.dp_hall.proofs.Sending.{seat_send, hall_sync}
use Rattle.dp_hall.proofs.laws.halls_cross_threads.Goals as goal

pub crosses-requires-send-T : goal.crosses-requires-send-T
crosses-requires-send-T g c κs within = search (sendable, seat_send) depth 20

pub shares-requires-sync-T : goal.shares-requires-sync-T
shares-requires-sync-T g c κs within = search (sendable, hall_sync) depth 20
