use Rattle.dp_session_laws.proofs.Growth.{EpochLaws}
use Rattle.dp_session_laws.proofs.Quiet.{gone-later}
use Rattle.dp_session_laws.proofs.laws.gone_goes_on.Goals as goal

pub returns : goal.returns
returns c past log longer conn earlier last before legal begins feed gone =
    let laws : EpochLaws = record {
      effects = c.events_have_effects.ensures;
      histories = c.histories_grow.ensures;
      kept_leads = c.steps_lead_on.ensures.kept;
      refused_leads = c.steps_lead_on.ensures.refused;
    } in gone-later laws past log longer conn feed.connection last before legal begins feed.is gone
