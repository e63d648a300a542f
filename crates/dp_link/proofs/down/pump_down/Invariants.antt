use Rattle.std.proofs.Common.{◌≡◌, []}
use Rattle.dp_hall.specs.Calls.{IsOf}
use Rattle.dp_hall.specs.Laws.{Continues}
use Rattle.dp_session_laws.specs.Logs.{HasOpened}
use Rattle.dp_link.specs.Sending.{SentTo, session_of}
use Rattle.dp_link.proofs.down.pump_down.Given as goal

-- the frames of a feed up to the cursor were written
abbrev pub invariant-pages : goal.invariant-pages
invariant-pages g l = record {
  of : IsOf l.hall l.seat;
  calls : Continues l.fn.seat.view [] l.seat.view;
  opened :
      HasOpened l.seat.view.seen l.greeting.conn l.greeting.user l.greeting.epoch l.greeting.at;
  sent :
      SentTo (session_of l.hall.start l.seat.view) l.greeting.conn (g.S.Sink.held l.fn.tx)
      (g.S.Sink.held l.tx) l.asked.cursor;
  conn : l.asked.conn ≡ l.greeting.conn;
  kept : g.S.Sink.faults l.tx ≡ g.S.Sink.faults l.fn.tx;
}
