use Rattle.std.proofs.Common.{rules}
use Rattle.dp_plain.specs.Picture.{pixels_of}
use Rattle.dp_snap.specs.Snapshot.{put_of_tile}
use Rattle.dp_snap.proofs.Parts.{puts_more}
use Rattle.dp_snap.proofs.board.put_tiles.Goals as goal

pub loop-col-preserved : goal.loop-col-preserved
loop-col-preserved g c =
    let board = g.V.BoardView.board c.args.canvas.now in
    record {
      whole = search rules;
      puts = puts_more
          (put_of_tile board.width board.height c.args.id (pixels_of board c.args.id) c.args.row)
          c.args.commands.now c.loop-col.commands c.put_tile.new.commands c.loop-col.col
          c.loop-col.invariant.puts c.in_ok-put_tile.ensures;
    }
