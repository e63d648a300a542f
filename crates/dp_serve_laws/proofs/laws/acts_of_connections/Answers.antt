use Rattle.std.proofs.Common.{ap, ◌∙◌}
use Rattle.dp_session_laws.specs.Journals.{kept_events}
use Rattle.dp_session_laws.proofs.Growth.{EpochLaws}
use Rattle.dp_serve.specs.Closings.{open_numbers}
use Rattle.dp_serve_laws.proofs.ActLemmas.{kept-about}
use Rattle.dp_serve_laws.proofs.ServingLemmas.{acts-of}
use Rattle.dp_serve_laws.proofs.StoredLemmas.{keeps-acts, resumed-before}
use Rattle.dp_serve_laws.proofs.laws.acts_of_connections.Goals as goal

pub returns-clause-acts : goal.returns-clause-acts
returns-clause-acts g c see start most old new left served run conn shut h is =
    acts-of see start most old new left served
    (c.one_connection_each.ensures.distinct start served.log shut served.legal) run conn h is

pub returns-clause-events : goal.returns-clause-events
returns-clause-events g c see start most old new left served run conn shut h is =
    kept-about conn served.log
    ∙ ap kept_events (acts-of see start most old new left served
    (c.one_connection_each.ensures.distinct start served.log shut served.legal) run conn h is)

pub returns-clause-on : goal.returns-clause-on
returns-clause-on g c see start most old new left report conn resumed on reported is =
    let laws : EpochLaws = record {
      effects = c.events_have_effects.ensures;
      histories = c.histories_grow.ensures;
      kept_leads = c.steps_lead_on.ensures.kept;
      refused_leads = c.steps_lead_on.ensures.refused;
    } in
    let before = c.closings_go_on.ensures.sound start on.closed (open_numbers start) on.refusal
    (resumed-before start resumed) on.closes in
    keeps-acts laws see start most old new left on resumed report conn reported is
    (c.one_answer_each.ensures start)
    (c.one_connection_each.ensures.distinct on.closed on.serves.log before on.serves.legal)
    (c.one_connection_each.ensures.rise on.closed on.serves.log before on.serves.legal)
