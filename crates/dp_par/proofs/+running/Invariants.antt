use Rattle.std.proofs.Common.{◌+◌, ◌*◌, length}
use Rattle.dp_par.proofs.+running.Given as goal

abbrev pub decreases-run_on_threads : goal.decreases-run_on_threads
decreases-run_on_threads g l = 4 * length l.jobs.now

abbrev pub decreases-run_beside : goal.decreases-run_beside
decreases-run_beside g l = 4 * length l.rest.now + 2

abbrev pub decreases-run_beside-run_rest : goal.decreases-run_beside-run_rest
decreases-run_beside-run_rest g l = 4 * length l.rest.now + 1
