use Rattle.std.proofs.Common.{◌≡◌, Some, sym, ap, ◌∙◌}
use Rattle.dp_hall.specs.Logs.{left_by}
use Rattle.dp_epochs.specs.declared.connection.Connection.{Connection}
use Rattle.dp_session_laws.proofs.Growth.{EpochLaws}
use Rattle.dp_session_laws.proofs.Openings.{begins-in}
use Rattle.dp_session_laws.proofs.Pulls.{pulls-gone}
use Rattle.dp_session_laws.proofs.laws.feeds_end.Goals as goal

pub returns : goal.returns
returns c past log conn user epoch at most earlier last before legal opened feed gone =
    let laws : EpochLaws = record {
      effects = c.events_have_effects.ensures;
      histories = c.histories_grow.ensures;
      kept_leads = c.steps_lead_on.ensures.kept;
      refused_leads = c.steps_lead_on.ensures.refused;
    } in
    let b = begins-in laws past log conn user epoch at before legal opened in
    pulls-gone (left_by past log) conn earlier last most feed
    (λ connection place is how.
    let both : Some b.connection ≡ Some connection = sym b.is ∙ is in
    let one : b.connection ≡ connection = cc in
    b.inside place (ap (λ (k : Connection). k.ending) one ∙ how)) gone
