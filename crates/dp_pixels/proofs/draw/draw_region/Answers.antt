use Rattle.std.proofs.Common.{◌∙◌, ap, sym, subst, rules, List, ℕ}
use Rattle.std.specs.Prelude.{ℤ, pos}
use Rattle.dp_blend.specs.Color.{Channels}
use Rattle.dp_msg_draw.specs.declared.draw.Draw.{Draw}
use Rattle.dp_pixels.specs.Commands.{IsDabs, imaged, pixel_drawn}
use Rattle.dp_pixels.specs.Regions.{IsPainted, on_canvas}
use Rattle.dp_pixels.proofs.Strokes.{drawn_dabs}
use Rattle.dp_pixels.proofs.draw.draw_region.Goals as goal

pub returns-in-PutImage : goal.returns-in-PutImage
returns-in-PutImage c =
    let command = c.in-PutImage in
    let region = c.args.region.now in
    let P : (ℤ → ℤ → Channels → Channels) → Type 0 = λ change.
    IsPainted region c.args.stride change c.args.pixels.now c.image_region.new.pixels in
    let colors = ap (λ (l : List ℕ). imaged command.mode (pos command.x) (pos command.y) command.w
    command.h l) c.as_slice.ensures.value in
    subst (λ (d : Draw). P (pixel_drawn region.canvas_width region.canvas_height d))
    (sym command.is)
    (subst (λ (change : ℤ → ℤ → Channels → Channels). P (on_canvas region change))
    (c.new-image.ensures command.mode ∙ colors) c.image_region.ensures)

pub returns-in-DabsRound : goal.returns-in-DabsRound
returns-in-DabsRound c =
    let region = c.args.region.now in
    let P : (ℤ → ℤ → Channels → Channels) → Type 0 = λ change.
    IsPainted region c.args.stride change c.args.pixels.now c.dab_run_region.new.pixels in
    let is : IsDabs c.args.command.now = search rules in
    subst P (sym (drawn_dabs region c.args.command.now is))
    (subst (λ (change : ℤ → ℤ → Channels → Channels). P (on_canvas region change))
    (sym c.dabs_of-dabs.ensures.after) c.dab_run_region.ensures)
