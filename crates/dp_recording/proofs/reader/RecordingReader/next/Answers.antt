use Rattle.dp_recording.proofs.Pulled.{again-so, pulls-so}
use Rattle.dp_recording.proofs.reader.RecordingReader.next.Goals as goal

pub returns-clause-pulled : goal.returns-clause-pulled
returns-clause-pulled g c =
    pulls-so _ _ _ _ _ _ _ c.go_on.result c.self.view_is c.go_on.ensures.pulled

pub returns-clause-again : goal.returns-clause-again
returns-clause-again g c =
    again-so _ _ _ _ _ _ c.go_on.result c.self.view_is c.go_on.ensures.again
