use Rattle.std.proofs.Common.{◌≡◌, ◌+◌, ◌*◌, ◌≤◌, min, List, get_or, ap, ◌∙◌, arith}
use Rattle.std.proofs.Common.{inl, inr, ⊎_elim, rules, SFits, w32, w64, to_z, of_z}
use Rattle.std.specs.Prelude.{pos}
use Rattle.std.proofs.lemmas.Int.{ints}
use Rattle.std.proofs.Math.Nat.{mul_comm, mul-le-mul_right}
use Rattle.dp_blend.specs.Color.{Channels}
use Rattle.dp_pixels.specs.declared.rect.Place.{Place}
use Rattle.dp_pixels.specs.declared.region.Region.{Region}
use Rattle.dp_pixels.specs.Commands.{moved, pixel_of}
use Rattle.dp_pixels.proofs.Moves.{moved_none, move_whole}
use Rattle.dp_pixels.proofs.move_rect.move_pixels.Goals as goal

pub returns-then-w-eq0-clause-ok : goal.returns-then-w-eq0-clause-ok
returns-then-w-eq0-clause-ok c =
    let m = c.args.movement in
    let width = c.args.width in
    let height = c.args.height in
    let pixels = c.args.pixels.now in
    let across = c.min-w.ensures ∙ ap (min m.w) c.saturating_sub.ensures in
    let down = c.min-h.ensures ∙ ap (min m.h) c.saturating_sub-2.ensures in
    c.canvas_law.ensures width height (λ x y. moved width height m.sx m.sy m.w m.h m.tx m.ty
    (pixel_of width height pixels) (pos x) (pos y)) pixels c.requires
    (λ x y in_x in_y.
    moved_none width height m.sx m.sy m.w m.h c.min-w.result c.min-h.result m.tx m.ty x y pixels
    across down
    (⊎_elim (λ (none : c.min-w.result ≡ 0). inl none) (λ none. inr none.1) c.then-w-eq0.either) in_x
    in_y)

pub copy_source-requires-clause-rows : goal.copy_source-requires-clause-rows
copy_source-requires-clause-rows c =
    let m = c.args.movement in
    let some = c.if-h-eq0.false in
    let rows : (m.sy + c.min-h.result) * c.args.width ≤ c.args.height * c.args.width =
    mul-le-mul_right c.args.width (omega arith) in
    omega (arith, rows, c.requires, mul_comm c.args.height c.args.width)

pub paint_region-requires-2-clause-long : goal.paint_region-requires-2-clause-long
paint_region-requires-2-clause-long c =
    let high = ap (λ (w : Region). w.height * c.args.width) c.whole-region.ensures in
    omega (arith, high, c.requires, c.paint_region.ensures.len, mul_comm c.args.height c.args.width)

pub returns-clause-ok : goal.returns-clause-ok
returns-clause-ok c =
    let m = c.args.movement in
    let width = c.args.width in
    let height = c.args.height in
    let pixels = c.args.pixels.now in
    let w = c.min-w.result in
    let h = c.min-h.result in
    let across = c.min-w.ensures ∙ ap (min m.w) c.saturating_sub.ensures in
    let down = c.min-h.ensures ∙ ap (min m.h) c.saturating_sub-2.ensures in
    let some_across = c.if-w-eq0.false in
    let some_down = c.if-h-eq0.false in
    let tx_fits : SFits w32 m.tx = search rules in
    let ty_fits : SFits w32 m.ty = search rules in
    let corner : Place = record {
      x = to_z w64 (of_z w64 (to_z w32 (of_z w32 m.tx)));
      y = to_z w64
          (of_z w64 (to_z w32 (of_z w32 m.ty)));
    } in
    let corner_x : corner.x ≡ m.tx = omega (arith, ints) in
    let corner_y : corner.y ≡ m.ty = omega (arith, ints) in
    move_whole c.canvas_law.ensures width height m.sx m.sy m.w m.h w h m.tx m.ty
    c.whole-region.result c.rect_of.result corner
    pixels c.paint_region.new.pixels c.paint_region-2.new.pixels c.deref.result.now
    c.whole-region.ensures c.requires across down (omega arith) (omega arith) c.rect_of.ensures
    corner_x corner_y
    (λ i j d in_w in_h. ap (λ (l : List Channels). get_or l (j * w + i) d) c.deref.ensures.value
    ∙ c.in_ok-copied.ensures.places i j d in_w in_h)
    c.paint_region.ensures c.paint_region-2.ensures
