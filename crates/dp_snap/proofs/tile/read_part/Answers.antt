use Rattle.std.proofs.Common.{◌≡◌, ◌≤◌, ◌⊎◌, ℕ, ap, ◌∙◌, inl, inr, arith, length, map, ◌+◌}
use Rattle.dp_blend.specs.Color.{clear}
use Rattle.dp_blend.specs.Canvas.{below, pixel_at}
use Rattle.dp_plain.specs.Picture.{pixels_of}
use Rattle.dp_snap.proofs.Parts.{part_past, part_read}
use Rattle.dp_snap.proofs.tile.read_part.Goals as goal
use Rattle.dp_snap.proofs.tile.read_part.Goals.{then-x-width-via-then-x-width}
use Rattle.dp_snap.proofs.tile.read_part.Goals.{then-x-width-via-else-x-width+then-y-height}

pub returns-then-x-width : goal.returns-then-x-width
returns-then-x-width g c =
    let board = g.V.BoardView.board c.args.canvas.now in
    let past : (board.width ≤ c.args.x) ⊎ (board.height ≤ c.args.y) =
    elim c.then-x-width.branch [
      | then-x-width-via-then-x-width w ↦ inl (omega (arith, c.width.ensures.value))
      | then-x-width-via-else-x-width+then-y-height w ↦ inr (omega (arith, w.height.ensures.value))
    ] in
    part_past board.width board.height (pixels_of board c.args.id) c.args.x c.args.y
    (length c.args.part.now) c.row_fill.new.row (omega arith) past
    (λ i in_part. c.row_fill.ensures.places i clear (omega arith))

pub returns : goal.returns
returns g c =
    let board = g.V.BoardView.board c.args.canvas.now in
    let n = length c.split_at_mut-seen.result.0.now in
    let long : n ≡ length c.copy_part.new.part = omega arith in
    part_read board.width board.height (pixels_of board c.args.id) c.args.x c.args.y
    (length c.args.part.now) c.copy_part.new.part c.row_fill-2.new.row
    (omega (arith, c.width.ensures.value)) (omega (arith, c.height.ensures.value))
    (omega (arith, c.width-2.ensures.value)) (omega arith) (c.copy_part.ensures
    ∙ ap (λ (m : ℕ). map (λ i.
    pixel_at board.width (pixels_of board c.args.id) (c.args.x + i) c.args.y) (below m)) long)
    (λ i in_part. c.row_fill-2.ensures.places i clear (omega arith))
