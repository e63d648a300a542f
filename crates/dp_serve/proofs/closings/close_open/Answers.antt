use Rattle.std.proofs.Common.{◌∙◌, sym}
use Rattle.dp_epochs.specs.declared.event.Event.TheVariants.{Close}
use Rattle.dp_serve.proofs.ClosingLemmas.{StepLaws, close-done, close-more, close-refused}
use Rattle.dp_serve.proofs.ClosingLemmas.{fewer-left, step-before}
use Rattle.dp_serve.proofs.closings.close_open.Goals as goal

pub conns-init : goal.conns-init
conns-init g c = record { sound = c.requires; so = λ refusal new closes. closes }

pub conns-preserved : goal.conns-preserved
conns-preserved g c =
    let laws : StepLaws = record {
      kept_leads = c.steps_lead_on.ensures.kept;
      before = c.sessions_go_on.ensures.before;
    } in
    let h = c.conns.invariant in
    let step = c.step-outcome.ensures in
    record {
      sound =
          step-before laws c.conns.session (Close c.in-Some.conn) c.step-outcome.result
          c.step-outcome.new.self h.sound step;
      so =
          close-more laws c.args.session.now c.conns.session c.conns.last c.in-Some.conn
          c.step-outcome.result c.step-outcome.new.self h.sound h.so (sym c.in-Some.ensures) step
          (sym c.is_kept.ensures ∙ c.if-not-is_kept.false);
    }

pub conns-smaller : goal.conns-smaller
conns-smaller g c =
    let laws : StepLaws = record {
      kept_leads = c.steps_lead_on.ensures.kept;
      before = c.sessions_go_on.ensures.before;
    } in
    fewer-left laws c.conns.session c.conns.last c.in-Some.conn c.step-outcome.result
    c.step-outcome.new.self c.conns.invariant.sound (sym c.in-Some.ensures) c.step-outcome.ensures
    (sym c.is_kept.ensures ∙ c.if-not-is_kept.false)

pub returns-then-not-is_kept-clause-sound : goal.returns-then-not-is_kept-clause-sound
returns-then-not-is_kept-clause-sound g c =
    let laws : StepLaws = record {
      kept_leads = c.steps_lead_on.ensures.kept;
      before = c.sessions_go_on.ensures.before;
    } in
    step-before laws c.conns.session (Close c.in-Some.conn) c.step-outcome.result
    c.step-outcome.new.self c.conns.invariant.sound c.step-outcome.ensures

pub returns-then-not-is_kept-clause-closes : goal.returns-then-not-is_kept-clause-closes
returns-then-not-is_kept-clause-closes g c =
    close-refused c.args.session.now c.conns.session c.conns.last c.in-Some.conn
    c.step-outcome.result c.step-outcome.new.self c.conns.invariant.so (sym c.in-Some.ensures)
    c.step-outcome.ensures (sym c.is_kept.ensures ∙ c.if-not-is_kept.true)

pub returns-clause-closes : goal.returns-clause-closes
returns-clause-closes g c =
    close-done c.args.session.now c.conns.session c.conns.last c.conns.invariant.so
    (sym c.in_default.ensures)
