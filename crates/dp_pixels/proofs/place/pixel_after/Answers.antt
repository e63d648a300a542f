use Rattle.std.proofs.Common.{◌≡◌, ap, ◌∙◌, sym, List, ℕ, rules, SFits, w64, to_z, of_z}
use Rattle.std.specs.Prelude.{ℤ, pos}
use Rattle.std.proofs.lemmas.Int.{to_z-of_z}
use Rattle.dp_blend.specs.Color.{Channels}
use Rattle.dp_msg_draw.specs.declared.draw.Draw.{Draw}
use Rattle.dp_pixels.specs.Dabs.{placed_dabs}
use Rattle.dp_pixels.specs.Commands.{imaged, pixel_after, stroked}
use Rattle.dp_pixels.proofs.place.pixel_after.Goals as goal

-- a change at a place, as its numbers are held
at-cast : (change : ℤ → ℤ → Channels → Channels) (x y : ℤ) (old : Channels) → SFits w64 x
    → SFits w64 y
    → change (to_z w64 (of_z w64 x)) (to_z w64 (of_z w64 y)) old ≡ change x y old
at-cast change x y old x_fits y_fits =
    ap (λ (z : ℤ). change z (to_z w64 (of_z w64 y)) old) (to_z-of_z w64 x x_fits)
    ∙ ap (λ (z : ℤ). change x z old) (to_z-of_z w64 y y_fits)

pub returns-in-PutImage : goal.returns-in-PutImage
returns-in-PutImage c =
    let command = c.in-PutImage in
    let image = c.new-image.result in
    let x : SFits w64 c.args.x = search rules in
    let y : SFits w64 c.args.y = search rules in
    let at = λ (change : ℤ → ℤ → Channels → Channels). change c.args.x c.args.y c.args.old in
    c.imaged.ensures
    ∙ (at-cast (imaged command.mode (pos image.x) (pos image.y) image.w image.h image.colors.now)
    c.args.x c.args.y c.args.old x y
    ∙ (ap at (c.new-image.ensures command.mode)
    ∙ (ap (λ (colors : List ℕ). at (imaged command.mode (pos command.x) (pos command.y) command.w
    command.h colors)) c.as_slice.ensures.value
    ∙ ap (λ (d : Draw). at (pixel_after d)) (sym command.is))))

pub returns-in-DabsRound : goal.returns-in-DabsRound
returns-in-DabsRound c =
    let dabs = c.dabs_of-dabs.result in
    let run = dabs.run in
    let x : SFits w64 c.args.x = search rules in
    let y : SFits w64 c.args.y = search rules in
    c.stroked.ensures
    ∙ (at-cast (stroked dabs.mode dabs.color run.shape
    (placed_dabs run.at.x run.at.y run.dabs.now)) c.args.x c.args.y c.args.old x y
    ∙ ap (λ (change : ℤ → ℤ → Channels → Channels). change c.args.x c.args.y c.args.old)
    (sym c.dabs_of-dabs.ensures.after))
