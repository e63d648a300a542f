use Rattle.std.proofs.Common.{◌∙◌, List, ap, refl, subst, sym}
use Rattle.std.proofs.lemmas.Result.{on_err_weaker, on_ok_weaker}
use Rattle.dp_pixels.specs.Commands.{pixels_after}
use Rattle.dp_msg_draw.specs.declared.draw.Draw.{Draw}
use Rattle.dp_tile.specs.Areas.{IsPaintedOn}
use Rattle.dp_paint.specs.Layers.{LayerOf}
use Rattle.dp_ops.specs.Lists.{Waiting, waiting_tile}
use Rattle.dp_ops.specs.declared.lists.Finish.TheVariants.{Clear}
use Rattle.dp_shift.specs.Grids.{IsGridOf}
use Rattle.dp_paint.proofs.Layers.{always_on_err, drawn_under, either, layer_after, painted_grid}
use Rattle.dp_paint.proofs.Layers.{same_layer, settled}
use Rattle.dp_ops.proofs.Waits.{all_counts}
use Rattle.dp_paint.proofs.Named.{cleared_some, some_name}
use Rattle.dp_paint.proofs.layer.DeferredGrid.paint.Goals as goal

pub invariant_of-self-2 : goal.invariant_of-self-2
invariant_of-self-2 g c =
    let inside = c.self.inside in
    let is_of = painted_grid inside.width inside.height c.args.area _ inside.grid
    c.settle.new.grid c.self.invariant.0 c.in_ok-settle.ensures.painted in (
      either c.draw_in_place.result (IsGridOf inside.width inside.height c.draw_in_place.new.grid)
          c.draw_in_place.ensures.grid
          (on_err_weaker c.draw_in_place.result
          (λ same. subst (IsGridOf inside.width inside.height) (sym same) is_of)
          c.draw_in_place.ensures.err),
      c.in_ok-settle.ensures.none.first ∙ c.self.invariant.1,
      all_counts c.args.area Clear inside.lists c.settle.new.lists c.in_ok-settle.ensures.none
          (λ col row few out. c.self.invariant.2 col row few),
      some_name inside.width inside.height inside.images.items inside.lists c.settle.new.lists
          c.self.invariant.0.wide c.self.invariant.0.high
          (cleared_some c.args.area inside.lists c.settle.new.lists c.in_ok-settle.ensures.none)
          c.self.invariant.3,
    )

pub returns-in_err-settle-clause-err : goal.returns-in_err-settle-clause-err
returns-in_err-settle-clause-err g c =
    let inside = c.self.inside in
    let images = inside.images.items in
    always_on_err c.from_residual.result _
    (same_layer c.args.self.now inside.width inside.height images inside.lists c.settle.new.lists
    inside.grid c.settle.new.grid c.self.view_is
    (rw (c.in_err-settle.ensures.err_lists, c.in_err-settle.ensures.err) refl))

pub returns-clause-ok : goal.returns-clause-ok
returns-clause-ok g c =
    let inside = c.self.inside in
    let images = inside.images.items in
    let op = c.args.command.now in
    let wide = ap (λ (l : LayerOf). l.width) c.self.view_is in
    let high = ap (λ (l : LayerOf). l.height) c.self.view_is in
    let is_of = c.self.invariant.0 in
    let painted = subst (λ (cs : List Draw). IsPaintedOn c.args.area
    (waiting_tile inside.width inside.height cs inside.lists) inside.grid c.settle.new.grid)
    c.deref.ensures.value c.in_ok-settle.ensures.painted in
    on_ok_weaker c.draw_in_place.result
    (λ after.
    layer_after c.args.self.now inside.width inside.height images op inside.lists c.settle.new.lists
    inside.grid c.draw_in_place.new.grid c.self.view_is
    (drawn_under inside.width inside.height images op c.pixels_stay_outside_the_foot.ensures
    c.the_foot_tells_all.ensures is_of.wide is_of.high c.args.area c.settle.new.lists
    c.settle.new.grid c.draw_in_place.new.grid
    (λ x y in_x in_y f. c.requires.all x y (rw (sym wide) in_x) (rw (sym high) in_y) f)
    (λ col row i. ap (λ (w : Waiting). w.ops) (c.in_ok-settle.ensures.none.inside col row i))
    after
    ∙ ap (pixels_after inside.width inside.height op)
    (settled inside.width inside.height images c.args.area inside.lists c.settle.new.lists
    inside.grid
    c.settle.new.grid is_of painted c.in_ok-settle.ensures.none)))
    c.draw_in_place.ensures.pixels

pub returns-clause-err : goal.returns-clause-err
returns-clause-err g c =
    let inside = c.self.inside in
    let images = inside.images.items in
    let painted = subst (λ (cs : List Draw). IsPaintedOn c.args.area
    (waiting_tile inside.width inside.height cs inside.lists) inside.grid c.settle.new.grid)
    c.deref.ensures.value c.in_ok-settle.ensures.painted in
    on_err_weaker c.draw_in_place.result
    (λ same.
    same_layer c.args.self.now inside.width inside.height images inside.lists c.settle.new.lists
    inside.grid c.draw_in_place.new.grid c.self.view_is
    (rw same (settled inside.width inside.height images c.args.area inside.lists c.settle.new.lists
    inside.grid c.settle.new.grid c.self.invariant.0 painted
    c.in_ok-settle.ensures.none)))
    c.draw_in_place.ensures.err
