use Rattle.std.proofs.Common.{◌≡◌, ◌&&◌, ◌∙◌, ap, sym, map, true}
use Rattle.std.proofs.lemmas.Bool.{and_from, false≢true}
use Rattle.dp_layers.specs.Layers.{has_row, are_within}
use Rattle.dp_layers.specs.Changes.{can_stand, change_row, set_parent}
use Rattle.dp_layers.proofs.Layers.{within_moved}
use Rattle.dp_layers.proofs.lookup.can_move.Goals as goal
use Rattle.dp_layers.proofs.lookup.can_move.Goals.{then-has_row, else-has_row}

pub returns-then-can_stand : goal.returns-then-can_stand
returns-then-can_stand c =
    let rows = c.args.rows.now in
    let now = map (change_row c.args.id (set_parent c.args.parent)) rows in
    let stands : (has_row rows c.args.id && can_stand rows c.args.id c.args.parent c.args.above) ≡
    true
    =
    elim c.if-has_row.branch [
      | then-has_row w ↦ and_from _ _ (sym c.has_row.ensures ∙ w.if-has_row.true)
          (sym w.can_stand.ensures ∙ sym w.value-is ∙ c.if-can_stand.true)
      | else-has_row w ↦ absurd (false≢true
          (sym w.if-has_row.false ∙ sym w.value-is ∙ c.if-can_stand.true))
    ] in
    c.are_within.ensures ∙ within_moved rows c.args.id c.args.parent
    ∙ ap (λ b. b && are_within now) (sym stands)
