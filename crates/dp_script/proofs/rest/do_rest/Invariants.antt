use Rattle.std.proofs.Common.{List, length}
use Rattle.dp_lines.specs.declared.line.Line.{Line}
use Rattle.dp_lines.specs.Held.{lines_from}
use Rattle.dp_line_machine.specs.Moments.{Moment, moment}
use Rattle.dp_script.specs.Progress.{IsEnding}
use Rattle.dp_script.proofs.rest.do_rest.Given as goal

-- the lines that were given are done
abbrev pub invariant-rest : goal.invariant-rest
invariant-rest g l = record {
  ending : (start : Moment g.row.M.Denot g.row.O.Denot g.row.D.Denot g.row.T.Denot)
      (whole : List Line)
      → IsEnding g.M.StepRule.is_step g.M.LineMachine.has_done whole l.fn.lines start
      (moment l.fn.machine l.fn.output l.fn.draws l.fn.tiles)
      → IsEnding g.M.StepRule.is_step g.M.LineMachine.has_done whole l.lines start
      (moment l.machine l.output l.draws l.tiles);
  ready : g.M.LineMachine.is_ready l.machine;
}

abbrev pub decreases-rest : goal.decreases-rest
decreases-rest g l = length (lines_from l.lines)
