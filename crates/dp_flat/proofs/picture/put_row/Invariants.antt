use Rattle.std.proofs.Common.{◌≡◌, ◌*◌, ◌++◌, min}
use Rattle.std.specs.List.{flat_map}
use Rattle.dp_flat.specs.Composed.{seen_first}
use Rattle.dp_flat.specs.Texts.{GrowsBefore, pixel_text_of}
use Rattle.dp_flat.proofs.picture.put_row.Given as goal

-- the pixels of the columns before were written, but for the piece, and no fault was counted
abbrev pub invariant-loop-col : goal.invariant-loop-col
invariant-loop-col g l =
    let board = g.V.BoardView.board l.board in record {
      before : GrowsBefore (g.S.Sink.held l.initial.out) (g.S.Sink.held l.out) l.piece.items
          (l.initial.piece.items ++ flat_map (pixel_text_of l.format)
          (seen_first board l.y (min (l.col * 64) board.width)));
      kept : g.S.Sink.faults l.out ≡ g.S.Sink.faults l.initial.out;
    }
