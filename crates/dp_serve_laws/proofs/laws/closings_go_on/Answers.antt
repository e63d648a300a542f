use Rattle.dp_serve_laws.proofs.ClosingLemmas.{closes-journal, closes-sound}
use Rattle.dp_serve_laws.proofs.laws.closings_go_on.Goals as goal

pub returns-clause-sound : goal.returns-clause-sound
returns-clause-sound c = λ start closed conns refusal sound closes.
    closes-sound c.sessions_go_on.ensures.before start conns refusal closed sound closes

pub returns-clause-journal : goal.returns-clause-journal
returns-clause-journal c = λ start closed conns refusal closes.
    closes-journal c.events_have_effects.ensures start conns refusal closed closes
