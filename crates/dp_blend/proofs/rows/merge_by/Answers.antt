use Rattle.std.proofs.Common.{◌≡◌, ◌++◌, ◌∙◌, length, sym, ap}
use Rattle.std.proofs.lemmas.List.{take-append-drop}
use Rattle.dp_blend.specs.Blending.{row_merged}
use Rattle.dp_blend.proofs.RowLemmas.{row_merged-append, row_merged-places}
use Rattle.dp_blend.proofs.rows.merge_by.Goals as goal

pub returns-clause-value : goal.returns-clause-value
returns-clause-value g c =
    let mode = g.K.Kernel.mode in
    let by = g.F.Fading.by c.args.fading in
    let parts = c.split_at_mut-eights in
    let eights = parts.result.0.now in
    let rest = parts.result.1.now in
    let first = c.split_at.result.0.now in
    let last = c.split_at.result.1.now in
    let sources : first ++ last ≡ c.args.sources.now =
    rw (c.split_at.ensures.front, c.split_at.ensures.back)
    (take-append-drop (length eights) c.args.sources.now) in
    rw (c.merge_eights.ensures, c.merge_twos.ensures)
    (row_merged-append mode by first last eights rest c.split_at.ensures.front_len
    ∙ ap (λ xs. row_merged mode by xs (eights ++ rest)) sources
    ∙ ap (row_merged mode by c.args.sources.now) (sym parts.ensures.value))

pub returns-clause-places : goal.returns-clause-places
returns-clause-places g c =
    row_merged-places g.K.Kernel.mode (g.F.Fading.by c.args.fading) c.args.sources.now
    c.args.row.now _ (returns-clause-value g c) c.requires.same_length
