-- The text of each chunk stands after those of the chunks before, in each row of pixels.
use Rattle.std.proofs.Common.{◌+◌, ◌*◌, ◌++◌, min, [], map, ap, ◌∙◌, arith, List, ℕ}
use Rattle.std.specs.List.{flat_map}
use Rattle.dp_blend.specs.Canvas.{below}
use Rattle.dp_plain.specs.Picture.{seen}
use Rattle.dp_flat.specs.Texts.{pixel_text_of}
use Rattle.dp_flat.proofs.Bands.{solid_text}
use Rattle.dp_flat.proofs.Rows.{chunk_more}
use Rattle.dp_flat.proofs.picture.push_line.Goals as goal

pub loop-col-preserved : goal.loop-col-preserved
loop-col-preserved g c = λ y in_row down.
    let board = g.V.BoardView.board c.args.board.now in
    let text = pixel_text_of c.args.format in
    let col = c.loop-col.col in
    let x = col * 64 in
    let count = c.min-len.result in
    let chunk = map (λ i. seen board (x + i) y) (below count) in
    c.push_solid.ensures
    ∙ ap (λ (l : List ℕ). c.loop-col.text.items ++ l)
    (solid_text c.args.format board y c.args.row col count c.in-Some.color c.args.band.colors.now
    c.args.band.bytes.now c.requires.band (search) in_row down (omega arith) (omega arith))
    ∙ ap (λ (l : List ℕ). l ++ flat_map text chunk) (c.loop-col.invariant y in_row down)
    ∙ chunk_more text board y x count (min x board.width) (min ((col + 1) * 64) board.width) []
    (omega arith) (omega arith)
