use Rattle.std.proofs.Common.{arith}
use Rattle.dp_paint.proofs.Unlisted.{cleared_of_none, painted_by_none}
use Rattle.dp_paint.proofs.in_place.settle.Goals as goal

pub finish-requires-clause-cols : goal.finish-requires-clause-cols
finish-requires-clause-cols g c = omega (arith, c.requires.area.cols, c.known.ensures.cols)

pub finish-requires-clause-rows : goal.finish-requires-clause-rows
finish-requires-clause-rows g c = omega (arith, c.requires.area.rows, c.known.ensures.rows)

pub returns-then-is_blank-clause-painted : goal.returns-then-is_blank-clause-painted
returns-then-is_blank-clause-painted g c =
    painted_by_none c.args.on.width c.args.on.height c.args.on.commands.now c.args.area
    c.args.lists.now c.args.grid.now c.known.ensures (c.is_blank.ensures c.if-is_blank.true)

pub returns-then-is_blank-clause-none : goal.returns-then-is_blank-clause-none
returns-then-is_blank-clause-none g c =
    cleared_of_none c.args.area c.args.lists.now (c.is_blank.ensures c.if-is_blank.true)
