use denote.Param.Send.{sendable}
use Rattle.dp_hall_tests.proofs.pair.act_two.Goals as goal

pub both-requires-send-V : goal.both-requires-send-V
both-requires-send-V g c κs within =
    let rt = c.type_bounds.sync-R in
    search (sendable) depth 20
