use Rattle.std.proofs.Common.{rules}
use Rattle.std.proofs.lemmas.Result.{err_from_is_err_and}
use Rattle.dp_line_machine.specs.Moments.{moment}
use Rattle.dp_world_lines.specs.Progress.{world_of}
use Rattle.dp_world_lines.proofs.Progress.{is_step, done_further, refused_by, kept_by, ran_out_by}
use Rattle.dp_world_lines.proofs.Progress.{ended_by}
use Rattle.dp_world_lines.proofs.line_run.WorldRunLineMachineStepsSteps.do_line.Goals as goal

pub returns-in_err-action-clause-refused : goal.returns-in_err-action-clause-refused
returns-in_err-action-clause-refused g c =
    let p = err_from_is_err_and c.from_residual.result c.from_residual.ensures.1 in
    rw (p.1, p.2) (refused_by c.one_action.ensures.one (world_of g.W.ScheduleWorld.seen)
    g.O.Sink.held g.O.Sink.faults
    (moment c.args.self.now c.args.output.now c.args.draws.now c.args.tiles.now)
    c.args.line.now c.in_err-action.field-0.0 c.in_err-action.ensures.refused)

pub returns-in_err-action-clause-kept : goal.returns-in_err-action-clause-kept
returns-in_err-action-clause-kept g c =
    let p = err_from_is_err_and c.from_residual.result c.from_residual.ensures.1 in
    rw (p.1, p.2) (kept_by (world_of g.W.ScheduleWorld.seen) g.O.Sink.held g.O.Sink.faults
    (moment c.args.self.now c.args.output.now c.args.draws.now c.args.tiles.now)
    c.in_err-action.field-0.0)

pub returns-in_err-action-clause-ended : goal.returns-in_err-action-clause-ended
returns-in_err-action-clause-ended g c =
    let p = err_from_is_err_and c.from_residual.result c.from_residual.ensures.1 in
    rw (p.1, p.2) (ran_out_by (world_of g.W.ScheduleWorld.seen) g.O.Sink.held g.O.Sink.faults
    (moment c.args.self.now c.args.output.now c.args.draws.now c.args.tiles.now)
    c.args.line.now c.in_err-action.field-0.0 c.in_err-action.ensures.refused)

pub returns-in-Ok-clause-step : goal.returns-in-Ok-clause-step
returns-in-Ok-clause-step g c = λ start done has.
    let e = c.in_ok-action.ensures in
    is_step (world_of g.W.ScheduleWorld.seen) g.O.Sink.held g.O.Sink.faults start
    (moment c.args.self.now c.args.output.now c.args.draws.now c.args.tiles.now)
    done c.args.line.now c.in_ok-action.action e.asks e.possible has

pub returns-in-Ok-clause-done : goal.returns-in-Ok-clause-done
returns-in-Ok-clause-done g c = λ start done has.
    let e = c.in_ok-action.ensures in
    done_further (world_of g.W.ScheduleWorld.seen) g.O.Sink.held g.O.Sink.faults start
    (moment c.args.self.now c.args.output.now c.args.draws.now c.args.tiles.now)
    (moment c.do_action.new.self c.do_action.new.output c.do_action.new.draws
    c.do_action.new.tiles)
    done c.args.line.now c.in_ok-action.action
    e.asks c.in-Ok.ensures.after c.in-Ok.ensures.written c.do_action.ensures.counts
    c.in-Ok.ensures.cause.kept has

pub returns-in-Err-clause-ended : goal.returns-in-Err-clause-ended
returns-in-Err-clause-ended g c = λ start done has.
    let e = c.in_ok-action.ensures in
    ended_by (world_of g.W.ScheduleWorld.seen) g.O.Sink.held g.O.Sink.faults start
    (moment c.args.self.now c.args.output.now c.args.draws.now c.args.tiles.now)
    (moment c.do_action.new.self c.do_action.new.output c.do_action.new.draws
    c.do_action.new.tiles)
    done c.args.line.now c.in_ok-action.action c.in-Err.end
    e.asks e.possible c.do_action.ensures.prefix c.do_action.ensures.counts c.in-Err.ensures.cause
    (λ is. c.in-Err.ensures.uncounted (rw is (search rules))) has
