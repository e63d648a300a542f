use Rattle.std.proofs.Common.{[]}
use Rattle.dp_commit.proofs.ReadLemmas.{ok-of}
use Rattle.dp_commit.proofs.opening.begin_with.Goals as goal

pub returns-in-Ok : goal.returns-in-Ok
returns-in-Ok c = λ journal.
    ok-of c.add.result _ _ c.in-Ok.is c.add.ensures journal [] (c.in_ok-opening.ensures journal)
