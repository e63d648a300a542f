use Rattle.std.proofs.Common.{length}
use Rattle.dp_epochs.specs.Past.{state_of}
use Rattle.dp_session_laws.specs.Closings.{given_out}
use Rattle.dp_session_laws.proofs.Growth.{EpochLaws}
use Rattle.dp_session_laws.proofs.Given.{log-rises, rise-distinct}
use Rattle.dp_session_laws.proofs.laws.one_connection_each.Goals as goal

pub returns : goal.returns
returns c =
    let laws : EpochLaws = record {
      effects = c.events_have_effects.ensures;
      histories = c.histories_grow.ensures;
      kept_leads = c.steps_lead_on.ensures.kept;
      refused_leads = c.steps_lead_on.ensures.refused;
    } in
    record {
      rise = log-rises laws;
      distinct = λ past log before legal.
          rise-distinct (length (state_of past).connections) (given_out log)
          (log-rises laws past log before legal);
    }
