use Rattle.std.proofs.Common.{◌≡◌, ◌++◌, length}
use Rattle.std.specs.List.{flat_map}
use Rattle.dp_blend.specs.Canvas.{below}
use Rattle.dp_pixels.specs.Tiles.{tiles_along}
use Rattle.dp_plain.specs.Picture.{pixels_of}
use Rattle.dp_snap.specs.Snapshot.{put_of_tile}
use Rattle.dp_snap.proofs.board.put_layer.Given as goal

-- the tiles above the row
abbrev pub invariant-loop-row : goal.invariant-loop-row
invariant-loop-row g l =
    let board = g.V.BoardView.board l.canvas in
    record {
      whole : length l.tile ≡ 4096;
      puts : l.commands ≡ l.initial.commands ++ flat_map (λ row.
          flat_map (put_of_tile board.width board.height l.id (pixels_of board l.id) row)
          (below (tiles_along board.width))) (below l.row);
    }
