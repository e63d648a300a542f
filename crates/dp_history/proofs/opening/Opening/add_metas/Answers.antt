use Rattle.std.proofs.Common.{◌≡◌, ◌++◌, ◌∷◌, [], map, take, get_or, ap, subst, ◌∙◌}
use Rattle.std.proofs.lemmas.List.{take_all}
use Rattle.dp_acl.specs.Opening.{server_entry}
use Rattle.dp_history.specs.Openings.{Holds}
use Rattle.dp_history.proofs.ItemLemmas.{metas-more}
use Rattle.dp_history.proofs.opening.Opening.add_metas.Goals as goal

pub loop-meta-preserved : goal.loop-meta-preserved
loop-meta-preserved c = λ journal history h.
    let metas = c.args.metas.now in
    let i = c.loop-meta.meta-index in
    let d = c.meta-item.result in
    let before = history ++ map server_entry (take i metas) in
    let same : c.in_ok-copy.field-0 ≡ get_or metas i d =
    c.in_ok-copy.ensures.same ∙ c.meta-item.is in
    subst (Holds journal c.add.new.self)
    (ap (λ m. before ++ server_entry m ∷ []) same
    ∙ metas-more metas i d history c.loop-meta-test.true)
    (c.in_ok-add.ensures journal before (c.loop-meta.invariant journal history h))

pub returns : goal.returns
returns c = λ journal history h.
    subst (λ metas. Holds journal c.loop-meta.self (history ++ map server_entry metas))
    (take_all c.loop-meta.meta-index c.args.metas.now c.loop-meta-test.false)
    (c.loop-meta.invariant journal history h)
