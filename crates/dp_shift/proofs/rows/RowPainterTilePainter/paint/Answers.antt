use Rattle.std.proofs.Common.{◌≡◌, ◌+◌, ◌-◌, ◌*◌, length, take, drop, arith}
use Rattle.std.proofs.lemmas.Int.{ints}
use Rattle.dp_tile.proofs.Areas.{length-part}
use Rattle.dp_shift.proofs.Tiles.{is_tile_from, length-row_put, row_put}
use Rattle.dp_shift.proofs.rows.RowPainterTilePainter.paint.Goals as goal

pub loop-j-preserved : goal.loop-j-preserved
loop-j-preserved g c =
    let pixel = g.S.RowSource.pixel c.args.self.now.source.now in
    let j = c.loop-j.j in
    let old = c.loop-j.pixels in
    let wide : length (take (j * 64 + 64 - j * 64) (drop (j * 64) old)) ≡ 64 =
    omega (
      arith,
      length-part (j * 64) (j * 64 + 64) old (omega arith)
          (omega (arith, c.loop-j-test.true, c.loop-j.invariant.0)),
    ) in (
      length-row_put pixel c.args.col c.args.row j old c.put_row.new.row _ _ _ c.put_row.ensures
          (omega (arith, ints)) (omega (arith, ints)) wide c.loop-j-test.true c.loop-j.invariant.0,
      row_put pixel c.args.col c.args.row j old c.put_row.new.row _ _ _ c.put_row.ensures
          (omega (arith, ints)) (omega (arith, ints)) wide c.loop-j-test.true c.loop-j.invariant.0
          c.loop-j.invariant.1,
    )

pub returns : goal.returns
returns g c =
    is_tile_from (g.S.RowSource.pixel c.args.self.now.source.now) c.args.col c.args.row
    c.loop-j.pixels c.loop-j.invariant.0
    (λ i k in_x in_y. c.loop-j.invariant.1 i k in_x (omega (arith, in_y, c.loop-j-test.false)))
