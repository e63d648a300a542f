use Rattle.std.proofs.Common.{ap, sym, ◌∙◌, get_or, set}
use Rattle.std.proofs.lemmas.List.Edits.{map_over_more}
use Rattle.dp_savepoints.specs.Kept.{marked}
use Rattle.dp_savepoints.proofs.kept.mark_all.Goals as goal

pub loop-act-preserved : goal.loop-act-preserved
loop-act-preserved g c =
    let mark = c.args.mark in
    let kept = c.loop-act.kept in
    let i = c.loop-act.act-index in
    let item = c.act-item.result in
    let old = get_or kept i item in
    ap (λ flag. set kept i (record { act = old.act; join = old.join; drawn = flag }))
    c.flag-act.ensures
    ∙ ap (λ k. set kept i (marked mark k)) (sym c.act-item.is)
    ∙ map_over_more (marked mark) c.args.kept.now kept i item c.loop-act-test.true
    c.loop-act.invariant c.act-item.is
