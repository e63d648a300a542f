use Rattle.std.proofs.Common.{◌≡◌, ◌∙◌, ap, arith, rules, SFits, w32, w64, to_z, of_z}
use Rattle.std.specs.Prelude.{ℤ}
use Rattle.std.proofs.lemmas.Int.{ints, to_z-of_z}
use Rattle.dp_pixels.specs.Feet.{on_greatest}
use Rattle.dp_pixels.proofs.feet.target_rect.Goals as goal

-- a number of 32 bits, held in 64
cast : (z : ℤ) → SFits w32 z → to_z w64 (of_z w64 (to_z w32 (of_z w32 z))) ≡ z
cast z fits = first_of (search rules, grind (arith, ints, to_z-of_z), omega (arith, ints))

pub returns : goal.returns
returns c =
    let x = cast c.args.x c.ranges.x in
    let y = cast c.args.y c.ranges.y in
    c.on_greatest.ensures ∙ ap on_greatest (simp (x, y) at c.at.ensures)
