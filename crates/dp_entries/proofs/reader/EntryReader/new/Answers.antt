use Rattle.std.proofs.Common.{refl}
use Rattle.dp_entries.proofs.Reading.{begins}
use Rattle.dp_entries.proofs.reader.EntryReader.new.Goals as goal

pub returns-clause-begun : goal.returns-clause-begun
returns-clause-begun g c = λ bytes head untaken whole place.
    begins g.S.Standing.may_stand bytes head untaken _ c.new-splitter.ensures.held
    c.new-splitter.ensures.at refl refl place c.requires whole
