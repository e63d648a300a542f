use Rattle.std.proofs.Common.{◌≡◌, ◌+◌, ◌*◌, ◌∙◌, ℕ, arith, sym, ap}
use Rattle.std.specs.Prelude.{pos}
use Rattle.std.proofs.lemmas.List.{take_all, length-append, length-take, length-drop}
use Rattle.dp_blend.specs.Canvas.{canvas_of}
use Rattle.dp_pixels.specs.Commands.{pixel_of}
use Rattle.dp_plain.specs.Picture.{pixels_of}
use Rattle.dp_snap.proofs.Parts.{tile_more}
use Rattle.dp_snap.proofs.tile.read_tile.Goals as goal

pub loop-y-preserved : goal.loop-y-preserved
loop-y-preserved g c =
    let board = g.V.BoardView.board c.args.canvas.now in
    let f = λ (x y : ℕ). pixel_of board.width board.height (pixels_of board c.args.id)
    (pos (c.args.col * 64 + x)) (pos (c.args.row * 64 + y)) in
    let read = tile_more f c.loop-y.tile c.read_part.new.part c.loop-y.y _ c.loop-y.invariant.whole
    c.loop-y-test.true (omega (arith, c.loop-y.invariant.whole)) c.loop-y.invariant.read
    c.read_part.ensures in
    record {
      whole = simp (length-append, length-take, length-drop)
          (omega (arith, c.loop-y.invariant.whole));
      read = read;
    }

pub returns : goal.returns
returns g c =
    let board = g.V.BoardView.board c.args.canvas.now in
    let f = λ (x y : ℕ). pixel_of board.width board.height (pixels_of board c.args.id)
    (pos (c.args.col * 64 + x)) (pos (c.args.row * 64 + y)) in
    let end : c.loop-y.y ≡ 64 = omega arith in
    sym (take_all (c.loop-y.y * 64) c.loop-y.tile (omega (arith, c.loop-y.invariant.whole)))
    ∙ c.loop-y.invariant.read ∙ ap (λ n. canvas_of 64 n f) end
