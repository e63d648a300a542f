use Rattle.dp_recording.proofs.Pulled.{again-new, pulls-after, stops-early}
use Rattle.dp_recording.proofs.reader.go_on.Goals as goal

pub returns-in-Ok-clause-pulled : goal.returns-in-Ok-clause-pulled
returns-in-Ok-clause-pulled g c =
    rw c.in-New.is
    (pulls-after _ _ _ _ _ _ c.start.new.phase _ c.pull.result c.in-Ok.ensures.begun
    c.pull.ensures.pulled)

pub returns-in-Ok-clause-again : goal.returns-in-Ok-clause-again
returns-in-Ok-clause-again g c = rw c.in-New.is (again-new _ _ _ _ c.pull.result)

pub returns-in-Err-clause-pulled : goal.returns-in-Err-clause-pulled
returns-in-Err-clause-pulled g c =
    rw c.in-New.is
    (stops-early _ _ _ _ _ c.in-Err.error c.in-Err.ensures.ends c.in-Err.ensures.failed)
