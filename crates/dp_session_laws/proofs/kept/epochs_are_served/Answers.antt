use Rattle.std.proofs.Common.{arith}
use Rattle.dp_epochs.specs.State.{first_state}
use Rattle.dp_session_laws.proofs.ServedEpochs.{served}
use Rattle.dp_session_laws.proofs.kept.epochs_are_served.Goals as goal

pub returns : goal.returns
returns c = λ past last.
    served first_state 0 past.journal past.shut (λ k d lt. omega (arith, last k d lt))
