use Rattle.dp_epochs.proofs.JoinLemmas.{join-stays, join-new}
use Rattle.dp_epochs.proofs.laws.joins_stay.Goals as goal

pub returns-clause-present : goal.returns-clause-present
returns-clause-present c = λ s e user present. join-stays user s e present

pub returns-clause-joined : goal.returns-clause-joined
returns-clause-joined c = λ s name registered user named free.
    join-new user s name registered named free
