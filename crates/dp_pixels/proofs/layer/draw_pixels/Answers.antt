use Rattle.std.proofs.Common.{◌≡◌, ap, ◌∙◌, sym, rules, SFits, w32, to_z, of_z, refl}
use Rattle.std.specs.Prelude.{ℤ}
use Rattle.std.proofs.lemmas.Int.{to_z-of_z}
use Rattle.dp_msg_draw.specs.declared.draw.Draw.{Draw}
use Rattle.dp_pixels.specs.Commands.{pixels_after, pixels_moved}
use Rattle.dp_pixels.proofs.Layers.{OnOk-map, after_other, after_move}
use Rattle.dp_pixels.proofs.layer.draw_pixels.Goals as goal

pub returns-in-MoveRect-clause-ok : goal.returns-in-MoveRect-clause-ok
returns-in-MoveRect-clause-ok c =
    let m = c.in-MoveRect in
    let width = c.args.width in
    let height = c.args.height in
    let old = c.args.pixels.now in
    let tx : SFits w32 m.tx = search rules in
    let ty : SFits w32 m.ty = search rules in
    OnOk-map c.move_pixels.result _ (c.move_pixels.new.pixels
    ≡ pixels_after width height c.args.command.now old) (λ is.
    is
    ∙ (ap (λ (z : ℤ). pixels_moved width height m.sx m.sy m.w m.h z (to_z w32 (of_z w32 m.ty)) old)
    (to_z-of_z w32 m.tx tx)
    ∙ (ap (λ (z : ℤ). pixels_moved width height m.sx m.sy m.w m.h m.tx z old)
    (to_z-of_z w32 m.ty ty)
    ∙ (after_move c.equal_canvases.ensures width height m.layer m.sx m.sy m.w m.h m.tx m.ty old
    ∙ ap (λ (d : Draw). pixels_after width height d old) (sym m.is)))))
    c.move_pixels.ensures.ok

pub returns-in_default : goal.returns-in_default
returns-in_default c = record {
  ok = c.draw_whole.ensures ∙ after_other c.equal_canvases.ensures c.args.width c.args.height
      c.args.command.now c.args.pixels.now c.in_default.not-MoveRect;
  err = tt;
  memory = λ other. refl;
}
