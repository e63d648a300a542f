use denote.Param.Send.{sendable}
use Rattle.dp_hall_tests.proofs.Sending.{tallies_send, tallies_sync}
use Rattle.dp_hall_tests.proofs.work.run_both.Goals as goal

pub join_mut-requires-send-F : goal.join_mut-requires-send-F
join_mut-requires-send-F g c κs within = search (sendable, tallies_send, tallies_sync) depth 20
