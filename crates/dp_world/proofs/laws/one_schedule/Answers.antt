use Rattle.std.proofs.Common.{◌≡◌, List, subst}
use Rattle.dp_lines.specs.declared.line.Line.{Line}
use Rattle.dp_world_lines.specs.Schedule.{AskFor}
use Rattle.dp_line_machine.specs.Limits.{lines_limit}
use Rattle.dp_world_lines.proofs.Reports.{asked_same}
use Rattle.dp_world.proofs.laws.one_schedule.Goals as goal

pub returns-clause-actions : goal.returns-clause-actions
returns-clause-actions c bytes done others actions more end last (first, asked) (second, asks) =
    let lines : done ≡ others = c.one_end.ensures.lines lines_limit bytes done others end last first
    second in
    asked_same c.one_action.ensures.one others actions more
    (subst (λ (ls : List Line). AskFor ls actions) lines asked) asks
