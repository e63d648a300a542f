use Rattle.std.proofs.Common.{◌≡◌, ◌∙◌, ap, sym, subst, length, map, arith, List}
use Rattle.std.specs.Vec.{with_items}
use Rattle.std.proofs.lemmas.List.{with_items_is, length-map}
use Rattle.dp_layers.specs.declared.row.LayerRow.{LayerRow}
use Rattle.dp_layers.specs.Changes.{change_row, set_parent, has_effect}
use Rattle.dp_layers.proofs.Commands.{IsReady, ready_moved}
use Rattle.dp_layers.proofs.changes.rearrange.Goals as goal
use Rattle.dp_layers.proofs.changes.rearrange.Goals.{After-set_parent}

-- the rows with the new parent
ready : (c : After-set_parent)
    → IsReady (with_items c.args.rows.now c.set_parent.new.rows).items c.in-LayerMove.id
    c.in-LayerMove.above
ready c =
    let rows = c.args.rows.now in
    let f = change_row c.in-LayerMove.id (set_parent c.in-LayerMove.parent) in
    let is : c.set_parent.new.rows ≡ map f rows.items =
    c.set_parent.ensures ∙ ap (map f) c.deref_mut-in-LayerMove.ensures.value in
    let P : List LayerRow → Type 0 = λ ls. IsReady ls c.in-LayerMove.id c.in-LayerMove.above in
    subst P (sym (with_items_is rows c.set_parent.new.rows
    (omega (arith, ap length is, length-map rows.items f, rows.ok.0)) ∙ is))
    (ready_moved rows.items c.in-LayerMove.id c.in-LayerMove.parent c.in-LayerMove.above
    c.requires.distinct
    (ap (has_effect rows.items) (sym c.in-LayerMove.is) ∙ c.requires.effect))

pub insert_after-requires-clause-distinct : goal.insert_after-requires-clause-distinct
insert_after-requires-clause-distinct c =
    (ready (goal.at.insert_after-requires-clause-distinct c).After-set_parent).distinct

pub insert_after-requires-clause-present : goal.insert_after-requires-clause-present
insert_after-requires-clause-present c =
    (ready (goal.at.insert_after-requires-clause-present c).After-set_parent).present

pub insert_after-requires-clause-place : goal.insert_after-requires-clause-place
insert_after-requires-clause-place c =
    (ready (goal.at.insert_after-requires-clause-place c).After-set_parent).place
