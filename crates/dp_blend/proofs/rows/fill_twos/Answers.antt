use Rattle.std.proofs.Common.{◌+◌, ◌-◌, ◌*◌, length, sym, ◌∙◌, arith}
use Rattle.dp_blend.specs.Color.{Channels, clear}
use Rattle.dp_blend.specs.Blending.{blend}
use Rattle.dp_blend.proofs.RowLemmas.{changed-all, changed-last, changed-next, row_filled-is}
use Rattle.dp_blend.proofs.rows.fill_twos.Goals as goal

pub loop-k-preserved : goal.loop-k-preserved
loop-k-preserved g c =
    changed-next
    (λ (_ d : Channels). blend (g.F.Fill.mode c.args.fill) (g.F.Fill.source c.args.fill) d)
    c.args.row.now
    clear c.args.row.now c.loop-k.row _ (2 * c.loop-k.k) (2 * (c.loop-k.k + 1)) (omega arith)
    (omega arith) (omega arith) c.loop-k.invariant c.fill_next.ensures

pub returns-then-row-eq1 : goal.returns-then-row-eq1
returns-then-row-eq1 g c =
    let f = blend (g.F.Fill.mode c.args.fill) (g.F.Fill.source c.args.fill) in
    let row = c.args.row.now in
    changed-last (λ (_ d : Channels). f d) row row c.loop-k.row (2 * c.loop-k.k)
    (length c.loop-k.row - 1) (g.F.Fill.source c.args.fill) clear _
    (omega arith) (omega arith) (omega arith) c.loop-k.invariant c.fill_two-only.ensures.first
    ∙ sym (row_filled-is (g.F.Fill.mode c.args.fill) (g.F.Fill.source c.args.fill) row)

pub returns-else-row-eq1 : goal.returns-else-row-eq1
returns-else-row-eq1 g c =
    let row = c.args.row.now in
    changed-all
    (λ (_ d : Channels). blend (g.F.Fill.mode c.args.fill) (g.F.Fill.source c.args.fill) d)
    row row c.loop-k.row
    (2 * c.loop-k.k) (omega arith) c.loop-k.invariant
    ∙ sym (row_filled-is (g.F.Fill.mode c.args.fill) (g.F.Fill.source c.args.fill) row)
