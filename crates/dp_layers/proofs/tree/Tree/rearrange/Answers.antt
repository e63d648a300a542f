use Rattle.std.proofs.Common.{◌≡◌, ap, sym, ◌∙◌, true, None}
use Rattle.dp_layers.specs.Rows.{layers_of}
use Rattle.dp_layers.specs.Changes.{has_effect}
use Rattle.dp_layers.specs.Inside.{rearranged}
use Rattle.dp_layers.proofs.Holding.{IsMade, value_layers, value_after, holding_after}
use Rattle.dp_layers.proofs.Commands.{made_rearranged}
use Rattle.dp_layers.proofs.tree.Tree.rearrange.Goals as goal
use Rattle.dp_layers.proofs.tree.Tree.rearrange.Goals.{In_ok-rearrange}
use Rattle.dp_layers.proofs.tree.Tree.rearrange.Given.{Over}

pub rearrange-requires-clause-effect : goal.rearrange-requires-clause-effect
rearrange-requires-clause-effect g c =
    let t = c.self.inside in
    ap (λ ls. has_effect ls c.args.command.now) (c.in_ok-rows.ensures.value
    ∙ sym (value_layers t.contents.items t.rows c.self.invariant c.args.self.now c.self.view_is)
    ∙ sym c.rows.ensures.rows) ∙ sym c.has_effect.ensures ∙ c.if-not-has_effect.false

module _ (g : Over) (c : In_ok-rearrange g) where
  can : has_effect (layers_of c.args.self.now) c.args.command.now ≡ true
  can =
      ap (λ ls. has_effect ls c.args.command.now) (sym c.rows.ensures.rows)
      ∙ sym c.has_effect.ensures ∙ c.if-not-has_effect.false

  made : IsMade c.self.inside.contents.items c.self.inside.rows c.args.command.now None
      c.self.inside.contents.items c.rearrange.new.rows.items
  made =
      let t = c.self.inside in
      made_rearranged t.contents.items t.rows c.self.invariant c.args.command.now c.requires
      (ap (λ ls. has_effect ls c.args.command.now) (sym (value_layers t.contents.items t.rows
      c.self.invariant c.args.self.now c.self.view_is)) ∙ can) c.rearrange.new.rows.items
      (c.in_ok-rearrange.ensures.ok
      ∙ ap (λ ls. rearranged ls c.args.command.now) c.in_ok-rows.ensures.value)

pub returns-clause-ok : goal.returns-clause-ok
returns-clause-ok g c =
    value_after c.self.inside.contents.items c.self.inside.rows c.self.invariant c.args.self.now
    c.self.view_is c.args.command.now None _ _ (can g c) (made g c)

pub invariant_of-self-2 : goal.invariant_of-self-2
invariant_of-self-2 g c =
    holding_after c.self.inside.contents.items c.self.inside.rows c.self.invariant c.args.self.now
    c.self.view_is c.args.command.now None _ _ (can g c) (made g c)
