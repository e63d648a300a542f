use Rattle.std.proofs.Common.{ap, ◌∙◌, sym, Bool, rules, SFits, w64, to_z, of_z}
use Rattle.std.specs.Prelude.{ℤ}
use Rattle.std.proofs.lemmas.Int.{to_z-of_z}
use Rattle.dp_pixels.specs.Dabs.{placed_dabs}
use Rattle.dp_pixels.proofs.Strokes.{one_covers}
use Rattle.dp_pixels.proofs.place.covers.Goals as goal

pub returns-in-DabsRound : goal.returns-in-DabsRound
returns-in-DabsRound c =
    let run = c.dabs_of.result.run in
    let x : SFits w64 c.args.x = search rules in
    let y : SFits w64 c.args.y = search rules in
    let at = one_covers run.shape (placed_dabs run.at.x run.at.y run.dabs.now) in
    c.covers.ensures
    ∙ (ap (λ (z : ℤ). at z (to_z w64 (of_z w64 c.args.y))) (to_z-of_z w64 c.args.x x)
    ∙ (ap (λ (z : ℤ). at c.args.x z) (to_z-of_z w64 c.args.y y)
    ∙ ap (λ (is : ℤ → ℤ → Bool). is c.args.x c.args.y) (sym c.dabs_of.ensures.covers)))
