use Rattle.std.proofs.Common.{◌≡◌, ℕ, List, length}
use Rattle.dp_lines.specs.Held.{ended_from}
use Rattle.dp_line_machine.specs.Moments.{Moment, moment}
use Rattle.dp_script.specs.Progress.{IsReading}
use Rattle.dp_script.proofs.held.do_held.Given as goal

-- the lines that were given are done
abbrev pub invariant-held : goal.invariant-held
invariant-held g l = record {
  reading : (start : Moment g.row.M.Denot g.row.O.Denot g.row.D.Denot g.row.T.Denot) (all : List ℕ)
      → IsReading g.M.StepRule.is_step g.M.LineMachine.has_done all l.fn.lines start
      (moment l.fn.machine l.fn.output l.fn.draws l.fn.tiles)
      → IsReading g.M.StepRule.is_step g.M.LineMachine.has_done all l.lines start
      (moment l.machine l.output l.draws l.tiles);
  ready : g.M.LineMachine.is_ready l.machine;
  fed : l.lines.fed ≡ l.fn.lines.fed;
}

abbrev pub decreases-held : goal.decreases-held
decreases-held g l = length (ended_from l.lines)
