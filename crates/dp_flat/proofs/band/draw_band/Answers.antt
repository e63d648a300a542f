-- A tile more is drawn, and in the end all are.
use Rattle.std.proofs.Common.{◌≡◌, ◌+◌, ◌-◌, ◌*◌, length, take, drop, ap, ◌∙◌, arith}
use Rattle.dp_blend.specs.White.{rgb}
use Rattle.dp_flat.proofs.Bands.{band_more, part_long}
use Rattle.dp_flat.proofs.band.draw_band.Goals as goal

pub loop-col-init : goal.loop-col-init
loop-col-init g c = λ col k before. absurd (omega arith)

pub loop-col-preserved : goal.loop-col-preserved
loop-col-preserved g c =
    let board = g.V.BoardView.board c.args.board.now in
    let col = c.loop-col.col in
    let start = col * 4096 in
    let size = start + 4096 - start in
    let long : length (take size (drop start c.loop-col.bytes)) ≡ 4096 =
    part_long start size 4096 c.loop-col.bytes (omega arith) (omega arith) in
    band_more board c.args.row col size c.put_tile.result c.loop-col.colors c.loop-col.bytes
    c.put_tile.new.bytes (omega arith) (omega arith) (omega arith) c.loop-col.invariant
    (λ k in_tile across down. c.put_tile.ensures k (omega arith)
    ∙ ap rgb
    (c.draw_tile-tone.ensures k record { count = in_tile; across = across; down = down }))

pub returns : goal.returns
returns g c = λ col k in_tile across down.
    c.loop-col.invariant col k (omega arith) in_tile across down
