use Rattle.dp_flat.proofs.Bands.{IsBandBefore}
use Rattle.dp_flat.proofs.band.draw_band.Given as goal

-- the tiles before the column are drawn
abbrev pub invariant-loop-col : goal.invariant-loop-col
invariant-loop-col g l =
    IsBandBefore (g.V.BoardView.board l.board) l.row l.col l.colors l.bytes
