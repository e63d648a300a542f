use Rattle.std.proofs.Common.{arith}
use Rattle.std.specs.Prelude.{ℤ, pos, ◌+ℤ◌}
use Rattle.std.proofs.lemmas.Int.{ints}
use Rattle.dp_pixels.proofs.Sides.{grown, side_from_range, none_below_side, none_above_side}
use Rattle.dp_pixels.proofs.resize.Resize.new_side.Goals as goal
use Rattle.dp_pixels.proofs.resize.Resize.new_side.Goals.{else-new-ge1-via-then-new-ge1+else-new-le-MAX_SIDE}
use Rattle.dp_pixels.proofs.resize.Resize.new_side.Goals.{else-new-ge1-via-else-new-ge1}

pub returns-then-new-le-MAX_SIDE-clause-value : goal.returns-then-new-le-MAX_SIDE-clause-value
returns-then-new-le-MAX_SIDE-clause-value c =
    let n : ℤ = pos c.args.old +ℤ c.args.before +ℤ c.args.after in
    side_from_range (grown c.args.old c.args.before c.args.after) n (omega (arith, ints))
    (omega (arith, ints)) (omega (arith, ints))

pub returns-else-new-ge1-clause-value : goal.returns-else-new-ge1-clause-value
returns-else-new-ge1-clause-value c =
    let n : ℤ = pos c.args.old +ℤ c.args.before +ℤ c.args.after in
    elim c.else-new-ge1.branch [
      | else-new-ge1-via-then-new-ge1+else-new-le-MAX_SIDE w ↦ none_above_side n
          (omega (arith, ints))
      | else-new-ge1-via-else-new-ge1 w ↦ none_below_side n (omega (arith, ints))
    ]
