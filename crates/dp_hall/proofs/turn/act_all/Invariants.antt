use Rattle.std.proofs.Common.{◌≡◌, ◌+◌, ◌^◌, ◌<◌, [], length, take, None, Result}
use Rattle.std.specs.declared.alloc.AllocError.{AllocError}
use Rattle.dp_hall.specs.declared.view.View.{View}
use Rattle.dp_hall.specs.Holding.{IsAt, HasMachine, InTurn, ActsInTurn}
use Rattle.dp_hall.proofs.turn.act_all.Given as goal

-- the events so far were acted, and each was followed
abbrev pub invariant-loop-event : goal.invariant-loop-event
invariant-loop-event g l = record {
  at : IsAt l.table.table_id l.token.table_id;
  hand : HasMachine l.token;
  count : l.count ≡ l.event-index;
  room : length l.token.me.0.seen + length l.events < 2 ^ 64 + l.event-index;
  acts : (v : View g.row.M-Event.Denot (Result g.row.M-Reply.Denot AllocError) g.row.M.Denot)
      → InTurn g.M.Machine.may_step v l.fn.token.me.0 []
      → ActsInTurn g.M.Machine.may_step g.L.Listener.follows v (take l.event-index l.events)
      (record { count = l.count; stop = None }) l.token.me.0;
}
