use Rattle.dp_line_machine.specs.Moments.{moment}
use Rattle.dp_joining.specs.Scripts.{seen_by}
use Rattle.dp_joining.proofs.Doing.{done_further, halts_at, ran_out_at}
use Rattle.dp_joining.proofs.machine.JoinMachineLineMachineStepsSteps.do_line.Goals as goal

pub returns-in-Ok-None-clause-refused : goal.returns-in-Ok-None-clause-refused
returns-in-Ok-None-clause-refused g c = λ start done has step.
    let none = rw c.in-Ok-None.field-0-is at c.in-Ok-None.ensures.none in
    none step.0 (rw c.as_slice.ensures step.1)

pub returns-in-Ok-None-clause-kept : goal.returns-in-Ok-None-clause-kept
returns-in-Ok-None-clause-kept g c = λ start done has. has

pub returns-in-Err-clause-ended : goal.returns-in-Err-clause-ended
returns-in-Err-clause-ended g c = λ start done has.
    ran_out_at (seen_by g.O.Sink.held g.O.Sink.faults) start
    (moment c.args.self.now c.args.output.now c.args.draws.now c.args.tiles.now) done
    c.args.line.now has

pub returns-in-Ok-clause-ready : goal.returns-in-Ok-clause-ready
returns-in-Ok-clause-ready g c = c.in-Ok.ensures.ready

pub returns-in-Ok-clause-step : goal.returns-in-Ok-clause-step
returns-in-Ok-clause-step g c = λ start done has.
    let some = rw c.in-Ok-Some.field-0-is at c.in-Ok-Some.ensures.some in
    (c.in-Ok-Some.action, rw (← c.as_slice.ensures) some)

pub returns-in-Ok-clause-done : goal.returns-in-Ok-clause-done
returns-in-Ok-clause-done g c = λ start done has.
    let some = rw c.in-Ok-Some.field-0-is at c.in-Ok-Some.ensures.some in
    done_further (seen_by g.O.Sink.held g.O.Sink.faults) start
    (moment c.args.self.now c.args.output.now c.args.draws.now c.args.tiles.now)
    (moment (record c.args.self.now { joiner = c.act.new.joiner }) c.act.new.output c.act.new.draws
    c.act.new.tiles)
    done c.args.line.now c.in-Ok-Some.action (rw (← c.as_slice.ensures) some) c.in-Ok.ensures has

pub returns-in-Err-act-clause-ended : goal.returns-in-Err-act-clause-ended
returns-in-Err-act-clause-ended g c = λ start done has.
    let some = rw c.in-Ok-Some.field-0-is at c.in-Ok-Some.ensures.some in
    halts_at (seen_by g.O.Sink.held g.O.Sink.faults) start
    (moment c.args.self.now c.args.output.now c.args.draws.now c.args.tiles.now)
    (moment (record c.args.self.now { joiner = c.act.new.joiner }) c.act.new.output c.act.new.draws
    c.act.new.tiles)
    done c.args.line.now c.in-Ok-Some.action c.in-Err-act.stop
    (rw (← c.as_slice.ensures) some) c.in-Err-act.ensures has
