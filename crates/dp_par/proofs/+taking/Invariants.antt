use Rattle.std.proofs.Common.{◌*◌, ◌+◌}
use Rattle.dp_par.proofs.+taking.Given as goal

abbrev pub decreases-join+arg3 : goal.decreases-join+arg3
decreases-join+arg3 g l = 2 * l.threads

abbrev pub decreases-take_on_threads : goal.decreases-take_on_threads
decreases-take_on_threads g l = 2 * l.threads + 1
