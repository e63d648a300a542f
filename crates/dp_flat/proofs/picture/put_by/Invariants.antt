use Rattle.std.proofs.Common.{◌≡◌, ◌*◌, ◌<◌, ◌≤◌, min, length}
use Rattle.dp_flat.specs.Bands.{HasRows}
use Rattle.dp_flat.proofs.picture.put_by.Given as goal

-- The rows of the rows of tiles above were written, but for the piece, and no fault was counted.
abbrev pub invariant-loop-row : goal.invariant-loop-row
invariant-loop-row g l =
    let board = g.V.BoardView.board l.board in record {
      before : HasRows l.format board (g.S.Sink.held l.initial.out) (g.S.Sink.held l.out)
          l.piece.items (min (l.row * 64) board.height);
      kept : g.S.Sink.faults l.out ≡ g.S.Sink.faults l.initial.out;
      inside : l.slot < length l.slots;
      few : length l.slots ≤ 64;
    }
