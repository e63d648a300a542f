-- A drill reads no input, so its count stays.
use Rattle.dp_local.proofs.local.run_local.Goals as goal

pub returns-in-Drill-clause-fault : goal.returns-in-Drill-clause-fault
returns-in-Drill-clause-fault g c = c.run_drill.ensures.fault (g.I.Source.faults c.args.input.now)
