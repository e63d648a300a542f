use Rattle.std.proofs.Common.{◌≡◌, ◌+◌, ◌-◌, ◌*◌, ◌/◌, length, take, sym, ap, ◌∙◌, arith}
use Rattle.dp_blend.specs.Color.{Channels, fade}
use Rattle.dp_blend.specs.Blending.{blend, row_merged}
use Rattle.dp_blend.specs.declared.modes.Mode.{Mode}
use Rattle.dp_blend.proofs.RowLemmas.{changed, changed-all, merged-stretch, row_merged-is}
use Rattle.dp_blend.proofs.RowLemmas.{row_merged-places}
use borrow.Rule.Slice.PartMut.{mid_of}
use Rattle.dp_blend.proofs.covering.cover.Goals as goal

pub loop-k-preserved : goal.loop-k-preserved
loop-k-preserved c =
    merged-stretch Mode.Normal 32768 c.args.sources.now c.args.row.now c.loop-k.row _
    (c.loop-k.k * 64) _ ((c.loop-k.k + 1) * 64) (omega arith) (omega arith) (omega arith)
    c.loop-k.invariant c.cover_stretch.ensures

pub returns-clause-value : goal.returns-clause-value
returns-clause-value c =
    let f = λ (s d : Channels). blend Mode.Normal (fade s 32768) d in
    let xs = c.args.sources.now in
    let row = c.args.row.now in
    let start = length c.loop-k.row / 64 * 64 in
    let done : c.loop-k.row ≡ changed f (take start xs) row =
    c.loop-k.invariant ∙ ap (λ m. changed f (take m xs) row) (omega arith) in
    let rest = length c.loop-k.row - start in
    let long : length xs - start ≡ rest = omega
    (arith, c.requires.same_length, c.loop-k.auto.row) in
    let part = ap (λ n. row_merged Mode.Normal 32768 (mid_of start n xs)
    (mid_of start rest c.loop-k.row)) long in
    let whole = merged-stretch Mode.Normal 32768 xs row c.loop-k.row c.merge_by.new.row start
    rest (length xs) (omega arith) (omega arith) (omega arith) done
    (c.merge_by.ensures.value ∙ part) in
    changed-all f xs row _ (length xs) (omega arith) whole
    ∙ sym (row_merged-is Mode.Normal 32768 xs row)

pub returns-clause-places : goal.returns-clause-places
returns-clause-places c =
    row_merged-places Mode.Normal 32768 c.args.sources.now c.args.row.now _
    (returns-clause-value c) c.requires.same_length
