use Rattle.std.proofs.Common.{◌≡◌, refl, ap, subst}
use Rattle.dp_io.specs.Faults.{IsDue}
use Rattle.dp_wire.specs.Memory.{WireState}
use Rattle.dp_wire.proofs.memory.MemWireWire.accept.Goals as goal

-- the call that failed was one of those that are to fail
pub returns-then-next_fails-clause-failed : goal.returns-then-next_fails-clause-failed
returns-then-next_fails-clause-failed c =
    let same : c.self.inside.plan ≡ c.args.self.now.plan = ap (λ (s : WireState). s.plan)
    c.self.view_is in
    (λ _. subst IsDue same (c.if-next_fails.ensures.due.0 refl), λ _. refl)
