use Rattle.dp_blend.specs.Blending.{blend}
use Rattle.dp_blend.proofs.Rects.{FilledTo}
use Rattle.dp_blend.proofs.rows.rows_by_parts.Given as goal

-- the rows before j are filled, and the others are as they were
abbrev pub invariant-loop-j : goal.invariant-loop-j
invariant-loop-j g l =
    FilledTo (blend (g.F.Fill.mode l.fill) (g.F.Fill.source l.fill)) l.left l.right l.stride l.j
    l.initial.rows l.rows
