use Rattle.dp_session_laws.proofs.Growth.{EpochLaws, log-goes, prefix-goes}
use Rattle.dp_session_laws.proofs.laws.sessions_go_on.Goals as goal

pub returns : goal.returns
returns c =
    let laws : EpochLaws = record {
      effects = c.events_have_effects.ensures;
      histories = c.histories_grow.ensures;
      kept_leads = c.steps_lead_on.ensures.kept;
      refused_leads = c.steps_lead_on.ensures.refused;
    } in
    record {
      grows = prefix-goes laws;
      before = λ past log before legal. (log-goes laws past log before legal).before;
    }
