use Rattle.std.proofs.Common.{◌+◌, ◌*◌, sym, ◌∙◌, arith}
use Rattle.dp_blend.specs.Color.{Channels, clear, fade}
use Rattle.dp_blend.specs.Blending.{blend}
use Rattle.dp_blend.specs.declared.modes.Mode.{Mode}
use Rattle.dp_blend.proofs.RowLemmas.{changed-all, changed-next, row_merged-is}
use Rattle.dp_blend.proofs.covering.cover_seen.Goals as goal

pub loop-k-preserved : goal.loop-k-preserved
loop-k-preserved c =
    let f = λ (s d : Channels). blend Mode.Normal (fade s 32768) d in
    let xs = c.args.sources.now in
    let row = c.args.row.now in
    let at = 8 * c.loop-k.k in
    let two = changed-next f xs clear row c.loop-k.row c.cover_next.new.row at (at + 2)
    (omega arith) (omega arith) (omega arith) c.loop-k.invariant c.cover_next.ensures in
    let four = changed-next f xs clear row c.cover_next.new.row c.cover_next-in-loop-k.new.row
    (at + 2) (at + 4) (omega arith) (omega arith) (omega arith)
    two c.cover_next-in-loop-k.ensures in
    let six = changed-next f xs clear row c.cover_next-in-loop-k.new.row
    c.cover_next-in-loop-k-2.new.row (at + 4) (at + 6) (omega arith) (omega arith) (omega arith)
    four c.cover_next-in-loop-k-2.ensures in
    changed-next f xs clear row c.cover_next-in-loop-k-2.new.row _ (at + 6) (8 * (c.loop-k.k + 1))
    (omega arith) (omega arith) (omega arith) six c.cover_next-in-loop-k-3.ensures

pub returns : goal.returns
returns c =
    let xs = c.args.sources.now in
    let row = c.args.row.now in
    changed-all (λ (s d : Channels). blend Mode.Normal (fade s 32768) d) xs row c.loop-k.row
    (8 * c.loop-k.k) (omega arith) c.loop-k.invariant ∙ sym (row_merged-is Mode.Normal 32768 xs row)
