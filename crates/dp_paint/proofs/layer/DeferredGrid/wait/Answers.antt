use Rattle.std.proofs.Common.{◌∙◌, ap, sym}
use Rattle.std.proofs.lemmas.Result.{on_err_weaker, on_ok_weaker}
use Rattle.dp_paint.specs.Layers.{LayerOf, NamesThese}
use Rattle.dp_ops.specs.Lists.{StandsOn}
use Rattle.dp_ops.proofs.Filed.{waits_stand}
use Rattle.dp_paint.proofs.Layers.{filed_layer, layer_after, same_layer, same_pixels}
use Rattle.dp_paint.proofs.Layers.{either, waits_paint}
use Rattle.dp_paint.proofs.Named.{filed_names, same_some, some_name}
use Rattle.dp_paint.proofs.layer.DeferredGrid.wait.Goals as goal

pub invariant_of-self : goal.invariant_of-self
invariant_of-self g c =
    let inside = c.self.inside in
    let images = inside.images.items in
    let is_of = c.self.invariant.0 in
    let op = c.args.command.now in
    let stands = StandsOn inside.width inside.height 0 op in
    let old = inside.lists in
    let new = c.file.new.lists in
    let Named = NamesThese inside.width inside.height images new in (
      is_of,
      c.file.ensures.first ∙ c.self.invariant.1,
      c.file.ensures.counts,
      either c.file.result Named
          (on_ok_weaker c.file.result
          (λ filed. filed_names inside.width inside.height images stands op
          c.args.area old new is_of.wide (λ col row. waits_stand _ _ 0 op _ c.requires.command)
          (λ more col row. waits_stand _ _ 0 op _ c.requires.command) filed
          c.self.invariant.3)
          c.file.ensures.filed)
          (on_err_weaker c.file.result
          (λ same. some_name inside.width inside.height images old new is_of.wide is_of.high
          (same_some old new same) c.self.invariant.3)
          c.file.ensures.same),
    )

pub returns-clause-ok : goal.returns-clause-ok
returns-clause-ok g c =
    let inside = c.self.inside in
    let op = c.args.command.now in
    let view = c.self.view_is ∙ c.in_ok-make_room.ensures.same in
    let wide = ap (λ (l : LayerOf). l.width) view in
    let high = ap (λ (l : LayerOf). l.height) view in
    let is_of = c.self.invariant.0 in
    on_ok_weaker c.file.result
    (λ filed.
    layer_after c.args.self.now inside.width inside.height inside.images.items op inside.lists
    c.file.new.lists inside.grid inside.grid view
    (filed_layer inside.width inside.height inside.images.items
    (StandsOn inside.width inside.height 0 op) op
    c.pixels_stay_outside_the_foot.ensures (waits_paint op c.requires.command)
    (λ col row. waits_stand _ _ 0 op _ c.requires.command) c.args.area inside.lists c.file.new.lists
    inside.grid is_of.wide is_of.high
    (λ x y in_x in_y f. c.requires.all x y (rw (sym wide) in_x) (rw (sym high) in_y) f) filed))
    c.file.ensures.filed

pub returns-clause-err : goal.returns-clause-err
returns-clause-err g c =
    let inside = c.self.inside in
    on_err_weaker c.file.result
    (λ same.
    same_layer c.args.self.now inside.width inside.height inside.images.items inside.lists
    c.file.new.lists inside.grid inside.grid (c.self.view_is ∙ c.in_ok-make_room.ensures.same)
    (same_pixels inside.width inside.height inside.images.items inside.lists c.file.new.lists
    inside.grid c.self.invariant.0.wide same))
    c.file.ensures.same
