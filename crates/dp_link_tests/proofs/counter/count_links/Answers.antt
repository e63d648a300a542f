use denote.Builtin.{u8, unit, u64}
use denote.Param.Send.{IsSend, IsSync, sendable}
use Rattle.std.proofs.Crossing.{crosses}
use Rattle.dp_hall.proofs.Sending.{hall_sync}
use Rattle.dp_hall.specs.contracts.hall.Hall as Hall
use Rattle.dp_link_tests.specs.contracts.counter.Counter as Counter
use Rattle.dp_link_tests.specs.contracts.counter.CounterMachine.TheImpl as adding
use Rattle.dp_link_tests.proofs.counter.count_links.Goals as goal

counter_send : IsSend Counter.the_row
counter_send = search (sendable, crosses) depth 20

-- halls of counters may be shared
counters_sync : IsSync (Hall.the_row Counter.the_row u8 u64 unit u64 adding.ghosts)
counters_sync = hall_sync Counter.the_row u8 u64 unit u64 adding.ghosts counter_send

pub run_crew-ran-requires-sync-S : goal.run_crew-ran-requires-sync-S
run_crew-ran-requires-sync-S g c κs within =
    let rt = c.type_bounds.sync-R in
    search (sendable, counters_sync) depth 20

pub close-requires-clause-alone : goal.close-requires-clause-alone
close-requires-clause-alone g c =
    c.crews_add_up.ensures.alone _ c.in-Ok.hall.start _ c.run_crew-ran.new.seat.view
    c.args.wires.items c.run_crew-ran.result.wires.items c.run_crew-ran.result.reports
    c.run_crew-ran.result.flags c.run_crew-ran.ensures.gathers
