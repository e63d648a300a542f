use Rattle.std.proofs.Common.{subst, refl}
use Rattle.dp_hall.proofs.turn.step.Goals as goal

pub returns : goal.returns
returns g c = record {
  ev = c.of.result;
  out = c.of-2.result;
  last = refl;
  event_is = c.of.ensures;
  outcome_is = c.of-2.ensures;
  step_is = subst (λ m. g.M.Machine.may_step m c.args.event.now c.step-outcome.result
      c.step-outcome.new.self) c.deref_mut.ensures.value c.step-outcome.ensures;
}
