use Rattle.std.proofs.Common.{◌≡◌, ◌∙◌, ap, refl, subst, sym, arith, rules, true}
use Rattle.std.proofs.Common.{SFits, w32, w64}
use Rattle.std.specs.Prelude.{ℤ, pos, ◌-ℤ◌}
use Rattle.std.proofs.lemmas.Int.{to_z-of_z}
use Rattle.std.proofs.lemmas.Result.{on_ok_weaker}
use Rattle.dp_pixels.specs.Rectangles.{canvas_rect, clipped, is_in, rect_at}
use Rattle.dp_pixels.specs.Feet.{foot, on_greatest, reach, squares_of, squares_of_foot}
use Rattle.dp_shift.specs.Reading.{shifted}
use Rattle.dp_shift.proofs.FootLemmas.{rects_from, rects_to}
use Rattle.dp_shift.proofs.Moving.{fewer_squares, grid_moved, is_grid_moved, part_within}
use Rattle.dp_shift.proofs.Moving.{same_painted, same_source, target_has}
use Rattle.dp_shift.proofs.movement.paint_move.Goals as goal

pub cells_in-cleared-requires : goal.cells_in-cleared-requires
cells_in-cleared-requires g c =
    let w = c.args.old.width in
    let h = c.args.old.height in
    rw c.on_canvas.ensures.value
    (part_within c.move_rects.result.0 (canvas_rect w h) c.move_rects.ensures.from)

pub cells_in-laid-requires : goal.cells_in-laid-requires
cells_in-laid-requires g c =
    let w = c.args.old.width in
    let h = c.args.old.height in
    let to = c.move_rects.result.1 in
    let right : SFits w64 c.way.result = search rules in
    let down : SFits w64 c.way-2.result = search rules in
    let target = shifted c.on_canvas.result c.way.result c.way-2.result in
    rw (simp to_z-of_z at c.target_in.ensures)
    (part_within (clipped to target) (canvas_rect w h)
    (part_within to target c.move_rects.ensures.to))

pub returns-clause-pixels : goal.returns-clause-pixels
returns-clause-pixels g c =
    let m = c.movement_of-movement.result in
    let layer = c.movement_of-movement.ensures.0 in
    let is = c.movement_of-movement.ensures.1 in
    let w = c.args.old.width in
    let h = c.args.old.height in
    let wide = c.args.old.of.wide in
    let high = c.args.old.of.high in
    let tx : SFits w32 m.tx = search rules in
    let ty : SFits w32 m.ty = search rules in
    let right : SFits w64 c.way.result = search rules in
    let down : SFits w64 c.way-2.result = search rules in
    let source = c.on_canvas.result in
    let rect = rect_at (pos m.sx) (pos m.sy) m.w m.h in
    let from = c.move_rects.result.0 in
    let to = c.move_rects.result.1 in
    let feet = ap foot (sym is) ∙ c.move_rects.ensures.foot.1 in
    let from_is = rects_from layer m.sx m.sy m.w m.h m.tx m.ty
    c.move_rects.ensures.foot.0 from to feet in
    let to_is = rects_to layer m.sx m.sy m.w m.h m.tx m.ty
    c.move_rects.ensures.foot.0 from to feet in
    let by_right = simp to_z-of_z at c.way.ensures.value in
    let by_down = simp to_z-of_z at c.way-2.ensures.value in
    let same : (x y : ℤ) → is_in source x y ≡ is_in (clipped rect (canvas_rect w h)) x y = λ x y.
    ap (λ r. is_in r x y) (c.on_canvas.ensures.value
    ∙ ap (λ r. clipped r (canvas_rect w h)) from_is) ∙ same_source rect w h wide high x y in
    let target_is = (simp to_z-of_z at c.target_in.ensures)
    ∙ ap (λ r. clipped (clipped r (shifted source c.way.result c.way-2.result)) (canvas_rect w h))
    to_is
    ∙ ap (λ z. clipped (clipped (on_greatest (rect_at m.tx m.ty m.w m.h))
    (shifted source z c.way-2.result)) (canvas_rect w h)) by_right
    ∙ ap (λ z. clipped (clipped (on_greatest (rect_at m.tx m.ty m.w m.h))
    (shifted source (m.tx -ℤ pos m.sx) z)) (canvas_rect w h)) by_down in
    on_ok_weaker c.paint_areas.result
    (λ are. grid_moved w h layer m.sx m.sy m.w m.h m.tx m.ty c.args.command.now
    c.cells_in-cleared.result c.cells_in-laid.result source c.args.grid.now
    c.paint_areas.new.grid is
    (rw (← c.requires.same) c.args.old.of)
    same
    (λ x y in_x in_y inside. c.cells_in-cleared.ensures.all x y
    (omega (arith, in_x, c.cols-cols.ensures, c.args.old.of.cols))
    (omega (arith, in_y, c.rows-rows.ensures, c.args.old.of.rows)) inside)
    (λ x y in_x in_y inside. c.cells_in-laid.ensures.all x y
    (omega (arith, in_x, c.cols-cols.ensures, c.args.old.of.cols))
    (omega (arith, in_y, c.rows-rows.ensures, c.args.old.of.rows))
    (subst (λ r. is_in r (pos x) (pos y) ≡ true) (sym target_is)
    (target_has w h m.sx m.sy m.w m.h m.tx m.ty source wide high same x y in_x in_y inside)))
    (same_painted c.cells_in-cleared.result c.cells_in-laid.result source source c.way.result
    (m.tx -ℤ pos m.sx) c.way-2.result (m.ty -ℤ pos m.sy)
    c.args.old.grid.now c.args.grid.now w h c.args.grid.now c.paint_areas.new.grid
    refl by_right by_down c.requires.same are))
    (simp to_z-of_z at c.paint_areas.ensures.painted)

pub returns-clause-few_tiles : goal.returns-clause-few_tiles
returns-clause-few_tiles g c =
    let w = c.args.old.width in
    let h = c.args.old.height in
    let from = c.move_rects.result.0 in
    let to = c.move_rects.result.1 in
    let right : SFits w64 c.way.result = search rules in
    let down : SFits w64 c.way-2.result = search rules in
    let target = shifted c.on_canvas.result c.way.result c.way-2.result in
    let is = c.movement_of-movement.ensures.1 in
    let reached = ap reach is ∙ sym (ap (λ d. squares_of_foot (foot d)) is)
    ∙ ap squares_of_foot c.move_rects.ensures.foot.1 in
    let first = ap squares_of c.on_canvas.ensures.value in
    let second = ap squares_of (simp to_z-of_z at c.target_in.ensures) in
    omega (
      arith,
      c.paint_areas.ensures.few_tiles,
      c.cells_in-cleared.ensures.few,
      c.cells_in-laid.ensures.few,
      first,
      second,
      reached,
      fewer_squares from (canvas_rect w h) c.move_rects.ensures.from,
      fewer_squares to target c.move_rects.ensures.to,
      fewer_squares (clipped to target) (canvas_rect w h)
          (part_within to target c.move_rects.ensures.to),
    )

pub returns-clause-grid : goal.returns-clause-grid
returns-clause-grid g c =
    on_ok_weaker c.paint_areas.result
    (λ are. is_grid_moved c.args.old.width c.args.old.height c.cells_in-cleared.result
    c.cells_in-laid.result _ c.args.grid.now c.paint_areas.new.grid
    (rw (← c.requires.same) c.args.old.of) are)
    c.paint_areas.ensures.painted
