use Rattle.std.proofs.Common.{◌∙◌, ap, arith, sym}
use Rattle.dp_ops.specs.Lists.{Lists}
use Rattle.dp_paint.proofs.Counts.{waiting_few}
use Rattle.dp_paint.proofs.Layers.{no_lists, same_layer}
use Rattle.dp_paint.proofs.Bands.{none_waits}
use Rattle.dp_paint.proofs.Named.{by_commands, other_layer, some_name}
use Rattle.dp_paint.proofs.layer.DeferredGrid.settle_by.Goals as goal

pub invariant_of-self : goal.invariant_of-self
invariant_of-self g c =
    let inside = c.self.inside in
    let is_of = c.self.invariant.0 in
    let settled = c.settle_all.ensures in (
      settled.grid,
      settled.first,
      settled.counts,
      some_name inside.width inside.height inside.images.items inside.lists
          c.settle_all.new.lists is_of.wide is_of.high settled.some c.self.invariant.3,
    )

pub returns-clause-same : goal.returns-clause-same
returns-clause-same g c =
    let inside = c.self.inside in
    let images = c.deref.result.now in
    let left = c.new-2.result.items in
    let is_of = c.self.invariant.0 in
    other_layer c.args.self.now inside.width inside.height images left inside.lists c.new.result
    inside.grid c.settle_all.new.grid
    (by_commands c.args.self.now inside.width inside.height inside.images.items images
    inside.lists inside.grid c.deref.ensures.value c.self.view_is)
    (no_lists inside.width inside.height left c.new.result c.settle_all.new.grid
    (ap (λ (l : Lists). l.lists) c.new.ensures)
    ∙ sym (none_waits inside.width inside.height images c.settle_all.new.lists
    c.settle_all.new.grid is_of.wide is_of.high c.in_ok-settle_all.ensures.none)
    ∙ c.in_ok-settle_all.ensures.same)

pub returns-clause-few_tiles : goal.returns-clause-few_tiles
returns-clause-few_tiles g c =
    omega (arith, c.in_ok-settle_all.ensures.few_tiles, waiting_few c.self.inside.lists 4096)

pub returns-in_err-settle_all-clause-same : goal.returns-in_err-settle_all-clause-same
returns-in_err-settle_all-clause-same g c =
    let inside = c.self.inside in
    let images = c.deref.result.now in
    by_commands c.args.self.now inside.width inside.height images inside.images.items
    c.settle_all.new.lists c.settle_all.new.grid (sym c.deref.ensures.value)
    (same_layer c.args.self.now inside.width inside.height images inside.lists
    c.settle_all.new.lists inside.grid c.settle_all.new.grid
    (by_commands c.args.self.now inside.width inside.height inside.images.items images
    inside.lists inside.grid c.deref.ensures.value c.self.view_is)
    c.settle_all.ensures.same)

pub returns-in_err-settle_all-clause-few_tiles : goal.returns-in_err-settle_all-clause-few_tiles
returns-in_err-settle_all-clause-few_tiles g c =
    omega (arith, c.settle_all.ensures.few_tiles, waiting_few c.self.inside.lists 4096)
