use Rattle.std.proofs.Common.{◌≡◌, length, arith, ap, sym, subst, ◌∙◌}
use Rattle.dp_hall.specs.Logs.{left_by}
use Rattle.dp_hall.specs.Holding.{HasTurn}
use Rattle.dp_hall.proofs.StepLemmas.{counts}
use Rattle.dp_hall.proofs.ViewLemmas.{counted_turn, acts_on}
use Rattle.dp_hall.proofs.turn.act_held.Goals as goal

pub fetch_add-requires : goal.fetch_add-requires
fetch_add-requires g c =
    let s = c.step-stored.ensures in
    let t = subst (λ v. HasTurn v c.take_out-machine.result.machine.value)
    (sym c.put.ensures.view) c.take_out-machine.ensures.machine in
    let long : length c.put.new.token.me.0.seen ≡ length c.args.token.now.me.0.seen = ap
    (λ z. length z.seen) (c.put.ensures.view ∙ c.take_out-machine.ensures.view) in
    let steps : g.M.Machine.may_step (left_by t.0 c.put.new.token.me.0.seen) s.ev.value s.out.value
    c.step-stored.result.0.machine.value = rw (← t.4, s.event_is, s.outcome_is) s.step_is in (
      c.put.ensures.table.same,
      omega (arith, c.requires.table.words),
      counts g.M.Machine.may_step c.args.table.now.key.value _ _ _ c.step-stored.result.0 s.ev s.out
          t.0 c.put.ensures.hand s.last t.1 t.2 t.3 steps
          (omega (arith, long, c.requires.room)),
    )

pub returns-clause-hand : goal.returns-clause-hand
returns-clause-hand g c =
    let s = c.step-stored.ensures in
    let t = subst (λ v. HasTurn v c.take_out-machine.result.machine.value)
    (sym c.put.ensures.view) c.take_out-machine.ensures.machine in
    let last = c.fetch_add.ensures.2 c.step-stored.result.0 s.ev s.out c.put.ensures.hand
    s.last in (
      c.step-stored.result.0,
      last.1 ∙ c.put.ensures.hand,
      counted_turn g.M.Machine.may_step
          c.put.new.token.me.0 _ c.step-stored.result.0 s.ev s.out _ t last.0,
    )

pub returns-clause-acts : goal.returns-clause-acts
returns-clause-acts g c =
    let s = c.step-stored.ensures in
    let t = subst (λ v. HasTurn v c.take_out-machine.result.machine.value)
    (sym c.put.ensures.view) c.take_out-machine.ensures.machine in
    let last = c.fetch_add.ensures.2 c.step-stored.result.0 s.ev s.out c.put.ensures.hand s.last in
    acts_on g.M.Machine.may_step c.args.token.now.me.0 c.put.new.token.me.0 _ _
    c.step-stored.result.0 s.ev s.out _ _ t
    (c.put.ensures.view ∙ c.take_out-machine.ensures.view) s.event_is s.outcome_is s.step_is last.0
