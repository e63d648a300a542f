use Rattle.dp_epochs.proofs.LawLemmas.{refused-leads, before-step}
use Rattle.dp_epochs.proofs.Interleaving.{state-came}
use Rattle.dp_epochs.proofs.laws.steps_lead_on.Goals as goal

pub returns-clause-kept : goal.returns-clause-kept
returns-clause-kept c = λ past e before. state-came past.journal past.shut e before

pub returns-clause-refused : goal.returns-clause-refused
returns-clause-refused c = refused-leads

pub returns-clause-before : goal.returns-clause-before
returns-clause-before c = before-step
