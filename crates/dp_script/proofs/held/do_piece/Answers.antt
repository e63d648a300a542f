use Rattle.std.proofs.Common.{ℕ, ◌≤◌, ◌++◌, List, length, sym, subst, arith, append_assoc}
use Rattle.std.proofs.Common.{length-append}
use Rattle.std.proofs.lemmas.Result.{on_ok_weaker, MatchResult-weaker}
use Rattle.dp_lines.specs.Ends.{seen}
use Rattle.dp_line_machine.specs.declared.machine.ScriptEnd.TheVariants.{Memory}
use Rattle.dp_line_machine.specs.Moments.{moment}
use Rattle.dp_script.specs.Progress.{StopsIn}
use Rattle.dp_script.proofs.Reading.{reading_fed, reading_full}
use Rattle.dp_script.proofs.held.do_piece.Goals as goal

pub returns-in_default-clause-err : goal.returns-in_default-clause-err
returns-in_default-clause-err g c = λ start limit all more few reading.
    let piece = c.args.piece.now in
    let here = moment c.args.machine.now c.args.output.now c.args.draws.now c.args.tiles.now in
    let short : length all ≤ limit = omega (arith, length-append all piece) in
    subst (λ (bytes : List ℕ). StopsIn g.M.StepRule.is_step g.M.LineMachine.has_done
    g.M.LineMachine.has_ended (seen limit bytes) start here Memory)
    (sym (append_assoc all piece more))
    (reading_full g.M.StepRule.is_step g.M.LineMachine.has_done g.M.LineMachine.has_ended
    c.lines_seen.ensures.given limit all (piece ++ more) c.args.lines.now start here
    short reading)

pub returns-clause-ok : goal.returns-clause-ok
returns-clause-ok g c =
    on_ok_weaker c.do_held.result (λ does start all reading.
    does start (all ++ c.args.piece.now)
    (reading_fed c.still_left.ensures.fed all c.args.piece.now c.args.lines.now c.feed.new.self
    c.in-Ok.ensures.ok c.in-Ok.ensures.count c.in-Ok.ensures.fed reading)) c.do_held.ensures.ok

pub returns-clause-err : goal.returns-clause-err
returns-clause-err g c =
    MatchResult-weaker c.do_held.result c.do_held.ensures.err (λ _ x. x)
    (λ end stops start limit all more few reading.
    stops start limit (all ++ c.args.piece.now) more few
    (reading_fed c.still_left.ensures.fed all c.args.piece.now c.args.lines.now c.feed.new.self
    c.in-Ok.ensures.ok c.in-Ok.ensures.count c.in-Ok.ensures.fed reading))
