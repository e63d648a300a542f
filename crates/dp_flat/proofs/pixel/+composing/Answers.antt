-- With no level left nothing is laid, and at the end all rows are.
use Rattle.std.proofs.Common.{◌∙◌, arith}
use Rattle.dp_flat.proofs.Composed.{compose_none, composed_all}
use Rattle.dp_flat.proofs.pixel.+composing.Goals as goal

pub compose_pixel-returns-then-depth-eq0 : goal.compose_pixel-returns-then-depth-eq0
compose_pixel-returns-then-depth-eq0 g t c =
    compose_none (g.V.BoardView.board c.args.board.now) c.args.depth c.args.parent c.args.place.0
    c.args.place.1 _ c.if-depth-eq0.true

pub compose_pixel-returns : goal.compose_pixel-returns
compose_pixel-returns g t c =
    c.loop-row.invariant
    ∙ composed_all (g.V.BoardView.board c.args.board.now) c.args.depth c.args.parent
    c.rows-row-items.result.now c.args.place.0 c.args.place.1 _
    c.loop-row.row-index (omega arith) c.rows-row-items.ensures (omega arith)
