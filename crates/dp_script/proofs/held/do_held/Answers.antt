use Rattle.std.proofs.Common.{Err, ap, sym, ◌∙◌}
use Rattle.std.proofs.lemmas.Result.{err_from_is_err_and}
use Rattle.dp_lines.proofs.Giving.{long_kept}
use Rattle.dp_line_machine.specs.Moments.{moment}
use Rattle.dp_script.proofs.Reading.{reading_further, reading_stops, reading_long, reading_full}
use Rattle.dp_script.proofs.held.do_held.Goals as goal

pub returns-in_err-do_given-in-Ok-Some-clause-err :
    goal.returns-in_err-do_given-in-Ok-Some-clause-err
returns-in_err-do_given-in-Ok-Some-clause-err g c =
    let p = err_from_is_err_and c.from_residual.result c.from_residual.ensures.1 in
    let e = c.in-Ok-Some.ensures in
    let lines = rw c.in-Ok-Some.field-0-is at e.lines in
    rw (p.1, p.2) (λ start limit all more few reading.
    reading_stops g.M.StepRule.is_step g.M.LineMachine.has_done g.M.LineMachine.has_ended
    c.still_left.ensures.given c.lines_seen.ensures.given limit all more c.held.lines
    c.next_line.new.self c.in-Ok-Some.line start
    (moment c.held.machine c.held.output c.held.draws c.held.tiles)
    (moment c.do_given.new.machine c.do_given.new.output c.do_given.new.draws
    c.do_given.new.tiles)
    c.in_err-do_given-in-Ok-Some.field-0.0
    few lines e.count e.rest e.fed c.in_err-do_given-in-Ok-Some.ensures.err
    (c.held.invariant.reading start all reading))

pub held-preserved : goal.held-preserved
held-preserved g c =
    let e = c.in-Ok-Some.ensures in
    let lines = rw c.in-Ok-Some.field-0-is at e.lines in
    let done = c.in_ok-do_given-in-Ok-Some.ensures in record {
      reading = λ start all reading.
          reading_further c.still_left.ensures.given all c.held.lines c.next_line.new.self
          c.in-Ok-Some.line lines e.count e.rest e.fed done.ok
          (c.held.invariant.reading start all reading);
      ready = done.ready;
      fed = e.fed ∙ c.held.invariant.fed;
    }

pub returns-in-Ok-None-clause-short : goal.returns-in-Ok-None-clause-short
returns-in-Ok-None-clause-short g c = λ n long.
    let e = c.in-Ok-None.ensures in
    let lines = rw c.in-Ok-None.field-0-is at e.lines in
    let answer = (e.long n).1 (long_kept c.held.lines c.next_line.new.self n (record {
      lines = sym lines;
      count = e.count;
      rest = e.rest;
      fed = e.fed;
    }) long) in
    cc (answer)

pub returns-in-Err-Long-clause-err : goal.returns-in-Err-Long-clause-err
returns-in-Err-Long-clause-err g c = λ start limit all more few reading.
    reading_long g.M.StepRule.is_step g.M.LineMachine.has_done g.M.LineMachine.has_ended
    c.lines_seen.ensures.long limit all more c.held.lines c.in-Err-Long.number start
    (moment c.held.machine c.held.output c.held.draws c.held.tiles)
    few ((c.in-Err-Long.ensures.long c.in-Err-Long.number).0 (ap Err c.in-Err-Long.field-0-is))
    (c.held.invariant.reading start all reading)

pub returns-in-Err-Memory-clause-err : goal.returns-in-Err-Memory-clause-err
returns-in-Err-Memory-clause-err g c = λ start limit all more few reading.
    reading_full g.M.StepRule.is_step g.M.LineMachine.has_done g.M.LineMachine.has_ended
    c.lines_seen.ensures.given limit all more c.held.lines start
    (moment c.held.machine c.held.output c.held.draws c.held.tiles)
    few (c.held.invariant.reading start all reading)
