use Rattle.std.proofs.Common.{◌≡◌, ap, ◌∙◌, sym, rules, List, SFits, w32, to_z, of_z}
use Rattle.std.specs.Prelude.{ℤ}
use Rattle.std.proofs.lemmas.Int.{to_z-of_z}
use Rattle.dp_blend.specs.Color.{premultiplied}
use Rattle.dp_msg_draw.specs.declared.draw.Draw.{Draw}
use Rattle.dp_msg_draw.specs.declared.lists.Dab.{Dab}
use Rattle.dp_pixels.specs.declared.dabs.Shape.TheVariants.{Round, Square}
use Rattle.dp_pixels.specs.Dabs.{placed_dabs}
use Rattle.dp_pixels.specs.Commands.{covers, pixel_after}
use Rattle.dp_pixels.proofs.Strokes.{covered-same, stroked-same}
use Rattle.dp_pixels.proofs.place.dabs_of.Goals as goal

-- the place of a message, as its numbers are held
placed-cast : (x y : ℤ) (dabs : List Dab) → SFits w32 x → SFits w32 y
    → placed_dabs (to_z w32 (of_z w32 x)) (to_z w32 (of_z w32 y)) dabs ≡ placed_dabs x y dabs
placed-cast x y dabs x_fits y_fits =
    ap (λ (z : ℤ). placed_dabs z (to_z w32 (of_z w32 y)) dabs) (to_z-of_z w32 x x_fits)
    ∙ ap (λ (z : ℤ). placed_dabs x z dabs) (to_z-of_z w32 y y_fits)

pub returns-in-DabsRound-clause-after : goal.returns-in-DabsRound-clause-after
returns-in-DabsRound-clause-after c =
    let command = c.in-DabsRound in
    let run = c.dab_run_of.result in
    let made = c.dab_run_of.ensures in
    let x : SFits w32 command.x = search rules in
    let y : SFits w32 command.y = search rules in
    let dabs = made.placed ∙ placed-cast command.x command.y command.dabs x y in
    ap (λ (d : Draw). pixel_after d) command.is
    ∙ sym (stroked-same command.mode c.opaque.result
    (premultiplied command.r command.g command.b 255) run.shape Round
    (placed_dabs run.at.x run.at.y run.dabs.now) (placed_dabs command.x command.y command.dabs)
    c.opaque.ensures made.shape dabs)

pub returns-in-DabsRound-clause-covers : goal.returns-in-DabsRound-clause-covers
returns-in-DabsRound-clause-covers c =
    let command = c.in-DabsRound in
    let run = c.dab_run_of.result in
    let made = c.dab_run_of.ensures in
    let x : SFits w32 command.x = search rules in
    let y : SFits w32 command.y = search rules in
    let dabs = made.placed ∙ placed-cast command.x command.y command.dabs x y in
    ap (λ (d : Draw). covers d) command.is
    ∙ sym (covered-same run.shape Round (placed_dabs run.at.x run.at.y run.dabs.now)
    (placed_dabs command.x command.y command.dabs) made.shape dabs)

pub returns-in-DabsSquare-clause-after : goal.returns-in-DabsSquare-clause-after
returns-in-DabsSquare-clause-after c =
    let command = c.in-DabsSquare in
    let run = c.dab_run_of-in-DabsSquare.result in
    let made = c.dab_run_of-in-DabsSquare.ensures in
    let x : SFits w32 command.x = search rules in
    let y : SFits w32 command.y = search rules in
    let dabs = made.placed ∙ placed-cast command.x command.y command.dabs x y in
    ap (λ (d : Draw). pixel_after d) command.is
    ∙ sym (stroked-same command.mode c.opaque-in-DabsSquare.result
    (premultiplied command.r command.g command.b 255) run.shape Square
    (placed_dabs run.at.x run.at.y run.dabs.now) (placed_dabs command.x command.y command.dabs)
    c.opaque-in-DabsSquare.ensures made.shape dabs)

pub returns-in-DabsSquare-clause-covers : goal.returns-in-DabsSquare-clause-covers
returns-in-DabsSquare-clause-covers c =
    let command = c.in-DabsSquare in
    let run = c.dab_run_of-in-DabsSquare.result in
    let made = c.dab_run_of-in-DabsSquare.ensures in
    let x : SFits w32 command.x = search rules in
    let y : SFits w32 command.y = search rules in
    let dabs = made.placed ∙ placed-cast command.x command.y command.dabs x y in
    ap (λ (d : Draw). covers d) command.is
    ∙ sym (covered-same run.shape Square (placed_dabs run.at.x run.at.y run.dabs.now)
    (placed_dabs command.x command.y command.dabs) made.shape dabs)
