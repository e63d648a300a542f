use Rattle.dp_session_laws.proofs.Growth.{EpochLaws}
use Rattle.dp_serve_laws.proofs.StoredLemmas.{rows-kept}
use Rattle.dp_serve_laws.proofs.laws.rows_are_kept.Goals as goal

pub returns : goal.returns
returns g c see start most old new left resumed on =
    let laws : EpochLaws = record {
      effects = c.events_have_effects.ensures;
      histories = c.histories_grow.ensures;
      kept_leads = c.steps_lead_on.ensures.kept;
      refused_leads = c.steps_lead_on.ensures.refused;
    } in
    rows-kept laws see start most old new left on resumed c.steps_are_kept.ensures.begun
    c.logs_are_kept.ensures
