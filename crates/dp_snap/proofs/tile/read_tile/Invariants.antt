use Rattle.std.proofs.Common.{◌≡◌, ◌+◌, ◌*◌, length, take}
use Rattle.std.specs.Prelude.{pos}
use Rattle.dp_blend.specs.Canvas.{canvas_of}
use Rattle.dp_pixels.specs.Commands.{pixel_of}
use Rattle.dp_plain.specs.Picture.{pixels_of}
use Rattle.dp_snap.proofs.tile.read_tile.Given as goal

-- the rows above y are read
abbrev pub invariant-loop-y : goal.invariant-loop-y
invariant-loop-y g l =
    let board = g.V.BoardView.board l.canvas in
    record {
      whole : length l.tile ≡ 4096;
      read : take (l.y * 64) l.tile ≡ canvas_of 64 l.y (λ x y.
          pixel_of board.width board.height (pixels_of board l.id) (pos (l.col * 64 + x))
          (pos (l.row * 64 + y)));
    }
