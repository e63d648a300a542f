-- Halls of tallies may be shared, and seats of tallies may go to other threads.
use denote.Builtin.{bool, unit, u64}
use denote.Param.Send.{IsSend, IsSync, sendable}
use Rattle.std.proofs.Crossing.{crosses}
use Rattle.dp_hall.proofs.Sending.{seat_send, hall_sync}
use Rattle.dp_hall.specs.contracts.hall.Hall as Hall
use Rattle.dp_hall.specs.contracts.seat.Seat as Seat
use Rattle.dp_hall_tests.specs.contracts.tally.Mark as Mark
use Rattle.dp_hall_tests.specs.contracts.tally.Tally as Tally
use Rattle.dp_hall_tests.specs.contracts.tally.TallyMachine.TheImpl as machine

tally_send : IsSend Tally.the_row
tally_send = search (sendable, crosses) depth 20

pub tallies_sync : IsSync (Hall.the_row Tally.the_row Mark.the_row bool unit u64 machine.ghosts)
tallies_sync = hall_sync Tally.the_row Mark.the_row bool unit u64 machine.ghosts tally_send

pub tallies_send : IsSend (Seat.the_row Tally.the_row Mark.the_row bool unit u64 machine.ghosts)
tallies_send = seat_send Tally.the_row Mark.the_row bool unit u64 machine.ghosts tally_send
