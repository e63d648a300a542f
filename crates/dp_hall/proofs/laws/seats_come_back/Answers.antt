use Rattle.dp_hall.proofs.LawLemmas.{back-calls, back-split, back-given, back-join, back-pair}
use Rattle.dp_hall.proofs.LawLemmas.{back-close}
use Rattle.dp_hall.proofs.laws.seats_come_back.Goals as goal

pub returns-clause-calls : goal.returns-clause-calls
returns-clause-calls g c = back-calls

pub returns-clause-split : goal.returns-clause-split
returns-clause-split g c = back-split

pub returns-clause-given : goal.returns-clause-given
returns-clause-given g c = back-given

pub returns-clause-join : goal.returns-clause-join
returns-clause-join g c = back-join

pub returns-clause-pair : goal.returns-clause-pair
returns-clause-pair g c = back-pair

pub returns-clause-close : goal.returns-clause-close
returns-clause-close g c = back-close
