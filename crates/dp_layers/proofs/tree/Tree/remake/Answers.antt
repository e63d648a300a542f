use Rattle.std.proofs.Common.{ap, ◌∙◌}
use Rattle.dp_layers.specs.Inside.{paired}
use Rattle.dp_layers.proofs.Pairing.{remade_contents, remade_rows, remade_inside}
use Rattle.dp_layers.proofs.tree.Tree.remake.Goals as goal

pub returns-clause-rows : goal.returns-clause-rows
returns-clause-rows g c =
    let t = c.self.inside in
    remade_rows t.contents.items t.rows c.self.invariant c.args.self.now c.self.view_is
    c.args.contents.items c.requires c.in_ok-rows.rows c.in_ok-contents.contents.items
    c.in_ok-rows.ensures
    (c.in_ok-contents.ensures ∙ ap (λ ls. paired ls c.args.contents.items) c.as_slice.ensures)

pub returns-clause-contents : goal.returns-clause-contents
returns-clause-contents g c =
    let t = c.self.inside in
    remade_contents t.contents.items t.rows c.self.invariant c.args.self.now c.self.view_is
    c.args.contents.items c.requires c.in_ok-rows.rows c.in_ok-contents.contents.items
    c.in_ok-rows.ensures
    (c.in_ok-contents.ensures ∙ ap (λ ls. paired ls c.args.contents.items) c.as_slice.ensures)

pub invariant_of-result : goal.invariant_of-result
invariant_of-result g c =
    let t = c.self.inside in
    remade_inside t.contents.items t.rows c.self.invariant c.args.self.now c.self.view_is
    c.args.contents.items c.requires c.in_ok-rows.rows c.in_ok-contents.contents.items
    c.in_ok-rows.ensures
    (c.in_ok-contents.ensures ∙ ap (λ ls. paired ls c.args.contents.items) c.as_slice.ensures)
