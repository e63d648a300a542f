use Rattle.std.proofs.Common.{ℕ, rules}
use Rattle.std.specs.List.{flat_map}
use Rattle.dp_blend.specs.Canvas.{below}
use Rattle.dp_pixels.specs.Tiles.{tiles_along}
use Rattle.dp_plain.specs.Picture.{pixels_of}
use Rattle.dp_snap.specs.Snapshot.{put_of_tile}
use Rattle.dp_snap.proofs.Parts.{puts_more}
use Rattle.dp_snap.proofs.board.put_layer.Goals as goal

pub loop-row-preserved : goal.loop-row-preserved
loop-row-preserved g c =
    let board = g.V.BoardView.board c.args.canvas.now in
    record {
      whole = search rules;
      puts = puts_more (λ (row : ℕ). flat_map
          (put_of_tile board.width board.height c.args.id (pixels_of board c.args.id) row)
          (below (tiles_along board.width)))
          c.args.commands.now c.loop-row.commands c.put_tiles.new.commands c.loop-row.row
          c.loop-row.invariant.puts c.in_ok-put_tiles.ensures;
    }
