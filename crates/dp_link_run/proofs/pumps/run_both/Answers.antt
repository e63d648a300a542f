use denote.Param.{param}
use denote.Param.Send.{sendable}
use Rattle.std.proofs.Crossing.{crosses}
use Rattle.dp_link_run.proofs.Sending.{session_hall_sync, session_seat_send}
use Rattle.dp_link_run.proofs.pumps.run_both.Goals as goal

pub join_mut-requires-send-F : goal.join_mut-requires-send-F
join_mut-requires-send-F g c κs within =
    let hall = session_hall_sync (param 1 g.row.C) (param 5 g.row.C-Store) g.C.SessionCore
    g.C.Store.Keeper c.type_bounds.send-C in
    let seat = session_seat_send (param 1 g.row.C) (param 5 g.row.C-Store) g.C.SessionCore
    g.C.Store.Keeper c.type_bounds.send-C in
    let rt = c.type_bounds.sync-W in
    let sink = c.type_bounds.send-S in
    let gate = c.type_bounds.sync-G in
    search (sendable, crosses) depth 20
