use Rattle.dp_session_laws.proofs.Growth.{EpochLaws}
use Rattle.dp_session_laws.proofs.Openings.{begins-in}
use Rattle.dp_session_laws.proofs.laws.feeds_begin.Goals as goal

pub returns : goal.returns
returns c past log conn user epoch at before legal opened =
    let laws : EpochLaws = record {
      effects = c.events_have_effects.ensures;
      histories = c.histories_grow.ensures;
      kept_leads = c.steps_lead_on.ensures.kept;
      refused_leads = c.steps_lead_on.ensures.refused;
    } in (begins-in laws past log conn user epoch at before legal opened).feed
