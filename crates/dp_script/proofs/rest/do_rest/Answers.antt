use Rattle.std.proofs.Common.{Err, ap}
use Rattle.std.proofs.lemmas.Result.{err_from_is_err_and}
use Rattle.dp_line_machine.specs.Moments.{moment}
use Rattle.dp_script.proofs.Reading.{ending_further, ending_stops, ending_long, ending_full}
use Rattle.dp_script.proofs.Reading.{ending_done}
use Rattle.dp_script.proofs.rest.do_rest.Goals as goal

pub returns-in_err-do_given-in-Ok-Some-clause-err :
    goal.returns-in_err-do_given-in-Ok-Some-clause-err
returns-in_err-do_given-in-Ok-Some-clause-err g c =
    let p = err_from_is_err_and c.from_residual.result c.from_residual.ensures.1 in
    let given = rw c.in-Ok-Some.field-0-is at c.in-Ok-Some.ensures.lines in
    rw (p.1, p.2) (λ start whole ending.
    ending_stops g.M.StepRule.is_step g.M.LineMachine.has_done g.M.LineMachine.has_ended
    whole c.rest.lines c.finish.new.self c.in-Ok-Some.line start
    (moment c.rest.machine c.rest.output c.rest.draws c.rest.tiles)
    (moment c.do_given.new.machine c.do_given.new.output c.do_given.new.draws
    c.do_given.new.tiles)
    c.in_err-do_given-in-Ok-Some.field-0.0
    given c.in_err-do_given-in-Ok-Some.ensures.err (c.rest.invariant.ending start whole ending))

pub rest-preserved : goal.rest-preserved
rest-preserved g c =
    let given = rw c.in-Ok-Some.field-0-is at c.in-Ok-Some.ensures.lines in
    let done = c.in_ok-do_given-in-Ok-Some.ensures in record {
      ending = λ start whole ending.
          ending_further whole c.rest.lines c.finish.new.self c.in-Ok-Some.line given done.ok
          (c.rest.invariant.ending start whole ending);
      ready = done.ready;
    }

pub returns-in-Ok-None-clause-ok : goal.returns-in-Ok-None-clause-ok
returns-in-Ok-None-clause-ok g c = λ start whole ending.
    ending_done whole c.rest.lines
    (rw c.in-Ok-None.field-0-is at c.in-Ok-None.ensures.none)
    (c.rest.invariant.ending start whole ending)

pub returns-in-Err-Long-clause-err : goal.returns-in-Err-Long-clause-err
returns-in-Err-Long-clause-err g c = λ start whole ending.
    ending_long g.M.StepRule.is_step g.M.LineMachine.has_done g.M.LineMachine.has_ended
    whole c.rest.lines c.in-Err-Long.number start
    (moment c.rest.machine c.rest.output c.rest.draws c.rest.tiles)
    ((c.in-Err-Long.ensures.long c.in-Err-Long.number).0 (ap Err c.in-Err-Long.field-0-is))
    (c.rest.invariant.ending start whole ending)

pub returns-in-Err-Memory-clause-err : goal.returns-in-Err-Memory-clause-err
returns-in-Err-Memory-clause-err g c = λ start whole ending.
    ending_full g.M.StepRule.is_step g.M.LineMachine.has_done g.M.LineMachine.has_ended
    whole c.rest.lines start
    (moment c.rest.machine c.rest.output c.rest.draws c.rest.tiles)
    (c.rest.invariant.ending start whole ending)
