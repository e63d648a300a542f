use Rattle.std.proofs.Common.{◌≡◌, ap, sym, ◌∙◌, true, not, None, ℕ, List}
use Rattle.std.specs.List.{filter}
use Rattle.dp_layers.specs.Rows.{layers_of}
use Rattle.dp_layers.specs.Changes.{has_effect}
use Rattle.dp_layers.specs.Inside.{is_gone, gone_ids}
use Rattle.dp_layers.specs.declared.held.Held.{Held}
use Rattle.dp_layers.specs.declared.row.LayerRow.{LayerRow}
use Rattle.dp_layers.proofs.Holding.{IsMade, value_after, holding_after}
use Rattle.dp_layers.proofs.Commands.{made_deleted}
use Rattle.dp_layers.proofs.tree.Tree.delete.Goals as goal
use Rattle.dp_layers.proofs.tree.Tree.delete.Goals.{After-drop-gone-2}
use Rattle.dp_layers.proofs.tree.Tree.delete.Given.{Over}

module _ (g : Over) (c : After-drop-gone-2 g) where
  can : has_effect (layers_of c.args.self.now) c.args.command.now ≡ true
  can =
      ap (λ ls. has_effect ls c.args.command.now) (sym c.rows.ensures.rows)
      ∙ sym c.has_effect.ensures ∙ c.if-not-has_effect.false

  made : IsMade c.self.inside.contents.items c.self.inside.rows c.args.command.now None
      c.drop_held.new.contents.items c.drop_rows.new.rows.items
  made =
      let t = c.self.inside in
      let rows_left : List ℕ → List LayerRow → List LayerRow =
      λ gone rows. filter (λ row. not (is_gone gone row.id)) rows in
      let held_left : List ℕ → List (Held g.row.X.Denot) =
      λ gone. filter (λ held. not (is_gone gone held.id)) t.contents.items in
      rw c.in-LayerDelete.is
      (made_deleted t.contents.items t.rows c.self.invariant c.in-LayerDelete.id
      c.in_ok-gone.gone.items
      (c.in_ok-gone.ensures ∙ ap (λ ls. gone_ids ls c.in-LayerDelete.id) c.as_slice.ensures)
      c.drop_held.new.contents.items (c.drop_held.ensures ∙ ap held_left c.deref-2.ensures.value)
      c.drop_rows.new.rows.items
      (c.drop_rows.ensures ∙ ap (λ gone. rows_left gone c.in_ok-rows.rows.now.items)
      c.deref.ensures.value
      ∙ ap (rows_left c.in_ok-gone.gone.items) c.in_ok-rows.ensures.value))

pub returns-clause-ok : goal.returns-clause-ok
returns-clause-ok g c =
    value_after c.self.inside.contents.items c.self.inside.rows c.self.invariant c.args.self.now
    c.self.view_is c.args.command.now None _ _ (can g c) (made g c)

pub invariant_of-self-2 : goal.invariant_of-self-2
invariant_of-self-2 g c =
    holding_after c.self.inside.contents.items c.self.inside.rows c.self.invariant c.args.self.now
    c.self.view_is c.args.command.now None _ _ (can g c) (made g c)
