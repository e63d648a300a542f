use Rattle.std.proofs.Common.{◌+◌, ◌-◌, ◌*◌, length, sym, ◌∙◌, arith}
use Rattle.dp_blend.specs.Color.{Channels, clear, fade}
use Rattle.dp_blend.specs.Blending.{blend}
use Rattle.dp_blend.proofs.RowLemmas.{changed-all, changed-last, changed-next, row_merged-is}
use Rattle.dp_blend.proofs.rows.merge_twos.Goals as goal

pub loop-k-preserved : goal.loop-k-preserved
loop-k-preserved g c =
    let f = λ (s d : Channels). blend g.K.Kernel.mode (fade s (g.F.Fading.by c.args.fading)) d in
    changed-next f c.args.sources.now clear c.args.row.now c.loop-k.row _ (2 * c.loop-k.k)
    (2 * (c.loop-k.k + 1)) (omega arith) (omega arith) (omega arith)
    c.loop-k.invariant c.merge_next.ensures

pub returns-then-row-eq1 : goal.returns-then-row-eq1
returns-then-row-eq1 g c =
    let mode = g.K.Kernel.mode in
    let f = λ (s d : Channels). blend mode (fade s (g.F.Fading.by c.args.fading)) d in
    let sources = c.args.sources.now in
    let row = c.args.row.now in
    let whole = changed-last f sources row c.loop-k.row (2 * c.loop-k.k) (length c.loop-k.row - 1)
    clear clear _
    (omega arith) (omega arith) (omega arith) c.loop-k.invariant c.merge_two-only.ensures.first in
    whole ∙ sym (row_merged-is mode (g.F.Fading.by c.args.fading) sources row)

pub returns-else-row-eq1 : goal.returns-else-row-eq1
returns-else-row-eq1 g c =
    let mode = g.K.Kernel.mode in
    let f = λ (s d : Channels). blend mode (fade s (g.F.Fading.by c.args.fading)) d in
    let sources = c.args.sources.now in
    let row = c.args.row.now in
    changed-all f sources row c.loop-k.row (2 * c.loop-k.k) (omega arith) c.loop-k.invariant
    ∙ sym (row_merged-is mode (g.F.Fading.by c.args.fading) sources row)
