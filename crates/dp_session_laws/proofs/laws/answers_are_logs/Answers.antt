use Rattle.dp_session_laws.proofs.Growth.{EpochLaws}
use Rattle.dp_session_laws.proofs.Replies.{log-answers}
use Rattle.dp_session_laws.proofs.laws.answers_are_logs.Goals as goal

pub returns : goal.returns
returns c past log before legal =
    let laws : EpochLaws = record {
      effects = c.events_have_effects.ensures;
      histories = c.histories_grow.ensures;
      kept_leads = c.steps_lead_on.ensures.kept;
      refused_leads = c.steps_lead_on.ensures.refused;
    } in log-answers laws past log before legal
