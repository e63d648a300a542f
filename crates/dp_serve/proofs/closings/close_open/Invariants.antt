use Rattle.std.proofs.Common.{length}
use Rattle.dp_epochs.specs.Laws.{ShutBefore}
use Rattle.dp_epochs.specs.Past.{state_of}
use Rattle.dp_serve.specs.Closings.{open_above}
use Rattle.dp_serve.proofs.ClosingLemmas.{ToClose}
use Rattle.dp_serve.proofs.closings.close_open.Given as goal

-- the connections up to the last one were closed
abbrev pub invariant-conns : goal.invariant-conns
invariant-conns g l = record {
  sound : ShutBefore l.session;
  so : ToClose l.fn.session 0 l.session l.last;
}

abbrev pub decreases-conns : goal.decreases-conns
decreases-conns g l = length (open_above l.last (state_of l.session).connections)
