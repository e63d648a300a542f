use Rattle.std.proofs.Common.{refl}
use Rattle.dp_entries.proofs.Onward.{on_begins}
use Rattle.dp_entries.proofs.reader.EntryReader.resume.Goals as goal

pub returns-clause-begun : goal.returns-clause-begun
returns-clause-begun g c = λ source.
    on_begins g.S.Standing.may_stand source _ refl refl refl c.requires
