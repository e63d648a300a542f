use Rattle.std.proofs.Common.{[], inl}
use Rattle.dp_session_laws.proofs.KeptLemmas.{begun-rows, step-kept}
use Rattle.dp_session_laws.proofs.kept.steps_are_kept.Goals as goal

pub returns-clause-begun : goal.returns-clause-begun
returns-clause-begun c = λ past none are. record {
  rows = begun-rows past past.known are;
  shut = inl none;
}

pub returns-clause-step : goal.returns-clause-step
returns-clause-step c =
    step-kept (record {
      written = c.rows_spell_events.ensures.written;
      on = c.rows_go_on.ensures [];
    })
