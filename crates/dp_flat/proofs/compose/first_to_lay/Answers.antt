-- The rows from the one that hides what is below it on are enough.
use Rattle.std.proofs.Common.{◌-◌, sym, ◌∙◌, arith}
use Rattle.dp_flat.proofs.Composed.{enough_from}
use Rattle.dp_flat.proofs.compose.first_to_lay.Goals as goal

pub returns-then-hides_below-clause-enough : goal.returns-then-hides_below-clause-enough
returns-then-hides_below-clause-enough g c =
    enough_from (g.V.BoardView.board c.args.board.now) c.args.parent c.args.tile
    c.rows-rows.result.now (c.loop-k.k - 1) c.index-rows-k.result (omega arith) c.index-rows-k.is
    c.rows-rows.ensures (sym c.is_seen_in.ensures ∙ c.if-is_seen_in.true)
    (c.hides_below.ensures c.if-hides_below.true)
