use Rattle.std.proofs.Common.{◌≡◌, ◌+◌, [], ℕ}
use Rattle.dp_lines.specs.Held.{NextIsLong, ended_from}
use Rattle.dp_line_machine.specs.Moments.{moment}
use Rattle.dp_script.specs.Progress.{HasRead}
use Rattle.dp_script.proofs.run.ScriptLineRunner.run_lines.Given as goal

-- the lines that are whole in what was taken are done, and the input didn't fail
abbrev pub invariant-reads : goal.invariant-reads
invariant-reads g l = record {
  read : HasRead g.M.StepRule.is_step g.M.LineMachine.has_done l.fn.limit
      (g.I.Source.left l.fn.input)
      (g.I.Source.left l.input) l.lines
      (moment l.fn.machine l.fn.output l.fn.draws l.fn.tiles)
      (moment l.machine l.output l.draws l.tiles);
  drained : ended_from l.lines ≡ [];
  short : (n : ℕ) → ¬ NextIsLong l.lines n;
  ready : g.M.LineMachine.is_ready l.machine;
  room : l.lines.fed + l.room ≡ l.fn.limit;
  kept : g.I.Source.faults l.input ≡ g.I.Source.faults l.fn.input;
}

abbrev pub decreases-reads : goal.decreases-reads
decreases-reads g l = l.room
