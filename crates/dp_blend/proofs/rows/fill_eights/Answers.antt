use Rattle.std.proofs.Common.{◌+◌, ◌*◌, sym, ◌∙◌, arith}
use Rattle.dp_blend.specs.Color.{Channels, clear}
use Rattle.dp_blend.specs.Blending.{blend}
use Rattle.dp_blend.proofs.RowLemmas.{changed-all, changed-next, row_filled-is}
use Rattle.dp_blend.proofs.rows.fill_eights.Goals as goal

pub loop-k-preserved : goal.loop-k-preserved
loop-k-preserved g c =
    let f = λ (_ d : Channels). blend (g.F.Fill.mode c.args.fill) (g.F.Fill.source c.args.fill) d in
    let row = c.args.row.now in
    let at = 8 * c.loop-k.k in
    let two = changed-next f row clear row c.loop-k.row c.fill_next.new.row at (at + 2)
    (omega arith) (omega arith) (omega arith) c.loop-k.invariant c.fill_next.ensures in
    let four = changed-next f row clear row c.fill_next.new.row c.fill_next-in-loop-k.new.row
    (at + 2) (at + 4) (omega arith) (omega arith) (omega arith) two c.fill_next-in-loop-k.ensures in
    let six = changed-next f row clear row c.fill_next-in-loop-k.new.row
    c.fill_next-in-loop-k-2.new.row (at + 4) (at + 6) (omega arith) (omega arith) (omega arith)
    four c.fill_next-in-loop-k-2.ensures in
    changed-next f row clear row c.fill_next-in-loop-k-2.new.row _ (at + 6) (8 * (c.loop-k.k + 1))
    (omega arith) (omega arith) (omega arith) six c.fill_next-in-loop-k-3.ensures

pub returns : goal.returns
returns g c =
    let row = c.args.row.now in
    changed-all
    (λ (_ d : Channels). blend (g.F.Fill.mode c.args.fill) (g.F.Fill.source c.args.fill) d)
    row row c.loop-k.row
    (8 * c.loop-k.k) (omega arith) c.loop-k.invariant
    ∙ sym (row_filled-is (g.F.Fill.mode c.args.fill) (g.F.Fill.source c.args.fill) row)
