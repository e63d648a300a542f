use Rattle.dp_epochs.proofs.RowLemmas.{one-event}
use Rattle.dp_epochs.proofs.laws.rows_spell_events.Goals as goal

pub returns-clause-one : goal.returns-clause-one
returns-clause-one c = one-event c.one_message.ensures.message
