use Rattle.dp_lifting_laws.proofs.LiftedEvents.{after-lifted, state-lifted}
use Rattle.dp_lifting_laws.proofs.laws.events_lift.Goals as goal

pub returns-clause-event : goal.returns-clause-event
returns-clause-event c = after-lifted

pub returns-clause-all : goal.returns-clause-all
returns-clause-all c = state-lifted
