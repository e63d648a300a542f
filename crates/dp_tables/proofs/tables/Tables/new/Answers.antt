use Rattle.std.proofs.Common.{[], ◌∷◌, refl, ap, subst, ◌∙◌}
use Rattle.dp_acl.specs.Table.{StandsFor}
use Rattle.dp_tables.proofs.TableLemmas.{tables-first}
use Rattle.dp_tables.proofs.tables.Tables.new.Goals as goal

pub invariant_of-result : goal.invariant_of-result
invariant_of-result c =
    let live = c.in_ok-live.ensures in
    let roster = c.new-4.ensures in
    let sending = c.new-5.ensures in
    tables-first _ c.new-2.ensures.items c.new-3.ensures.items roster.connections roster.quiet
    (live.history ∙ ap (λ e. e ∷ []) c.mark.ensures) live.said refl
    (subst (λ e. StandsFor c.in_ok-live.live.rights (e ∷ [])) c.mark.ensures live.stands)
    roster.present live.number roster.opens sending.owner sending.place sending.parts
    sending.bytes live.frames
