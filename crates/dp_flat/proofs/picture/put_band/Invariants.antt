use Rattle.std.proofs.Common.{◌≡◌, ◌*◌, List, ℕ}
use Rattle.std.specs.declared.option.Option.{Option}
use Rattle.dp_flat.specs.Bands.{HasRows}
use Rattle.dp_flat.proofs.picture.put_band.Given as goal

-- the rows so far were added, and no fault was counted
abbrev pub invariant-loop-y : goal.invariant-loop-y
invariant-loop-y g l =
    let board = g.V.BoardView.board l.board in
    let held = g.S.Sink.held in record {
      before : (start : Option (List ℕ))
          → HasRows l.format board start (held l.initial.out) l.initial.piece.items (l.row * 64)
          → HasRows l.format board start (held l.out) l.piece.items l.y;
      kept : g.S.Sink.faults l.out ≡ g.S.Sink.faults l.initial.out;
    }
