use Rattle.std.proofs.Common.{◌≡◌, ap, sym, ◌∙◌, true, ◌++◌, ◌∷◌, []}
use Rattle.dp_layers.specs.Rows.{layers_of}
use Rattle.dp_layers.specs.Changes.{has_effect, makes_paint_row}
use Rattle.dp_msg_draw.specs.declared.draw.Draw.TheVariants.{LayerCreate}
use Rattle.dp_layers.proofs.Holding.{IsMade, value_layers, value_after, holding_after}
use Rattle.dp_layers.proofs.Commands.{made_created}
use Rattle.dp_layers.proofs.tree.Tree.create.Goals as goal
use Rattle.dp_layers.proofs.tree.Tree.create.Goals.{In_ok-put_last}
use Rattle.dp_layers.proofs.tree.Tree.create.Given.{Over}

module _ (g : Over) (c : In_ok-put_last g) where
  can : has_effect (layers_of c.args.self.now) c.args.command.now ≡ true
  can = sym c.accepts.ensures ∙ c.if-not-accepts.false

  made : IsMade c.self.inside.contents.items c.self.inside.rows c.args.command.now c.args.x
      c.put_last.new.contents.items c.put_last.new.rows.items
  made =
      let t = c.self.inside in
      rw c.in-LayerCreate.is
      (made_created t.contents.items t.rows c.self.invariant c.in-LayerCreate.id
      c.in-LayerCreate.parent c.in-LayerCreate.group c.in-LayerCreate.title c.args.x
      (ap (λ ls. has_effect ls (LayerCreate c.in-LayerCreate.id c.in-LayerCreate.parent
      c.in-LayerCreate.group c.in-LayerCreate.title)) (sym (value_layers t.contents.items t.rows
      c.self.invariant c.args.self.now c.self.view_is))
      ∙ ap (has_effect (layers_of c.args.self.now)) (sym c.in-LayerCreate.is) ∙ can)
      (c.requires.content ∙ ap makes_paint_row c.in-LayerCreate.is)
      c.in_ok-row.row c.in_ok-row.ensures
      c.put_last.new.contents.items c.in_ok-put_last.ensures.contents_ok
      c.put_last.new.rows.items
      (c.in_ok-put_last.ensures.rows_ok
      ∙ ap (λ ls. ls ++ c.in_ok-row.row ∷ []) c.in_ok-rows.ensures.value))

pub returns-clause-ok : goal.returns-clause-ok
returns-clause-ok g c =
    value_after c.self.inside.contents.items c.self.inside.rows c.self.invariant c.args.self.now
    c.self.view_is c.args.command.now c.args.x _ _ (can g c) (made g c)

pub invariant_of-self-2 : goal.invariant_of-self-2
invariant_of-self-2 g c =
    holding_after c.self.inside.contents.items c.self.inside.rows c.self.invariant c.args.self.now
    c.self.view_is c.args.command.now c.args.x _ _ (can g c) (made g c)
