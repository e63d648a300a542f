use Rattle.std.proofs.Common.{arith, rules, ◌∙◌, ◌++◌, ap, w32}
use Rattle.std.specs.Prelude.{ℤ, FitsSigned}
use Rattle.std.proofs.lemmas.Int.{ints, to_z-of_z}
use Rattle.dp_layered.specs.Moves.{row_moved}
use Rattle.dp_layered.proofs.Moves.{difference, pixels_shifted_more}
use Rattle.dp_layered.proofs.resize.moved_pixels.Goals as goal

pub loop-y-preserved : goal.loop-y-preserved
loop-y-preserved c =
    let r = c.args.resize in
    let left_fits : FitsSigned w32 r.left = search rules in
    let top_fits : FitsSigned w32 r.top = search rules in
    c.in_ok-push_moved_row.ensures
    ∙
    (ap (λ (z : ℤ). c.loop-y.moved.items ++ row_moved r.new_width c.row_at-row.result.now z)
    (to_z-of_z w32 r.left left_fits)
    ∙ pixels_shifted_more r.width r.height c.args.pixels.now c.loop-y.moved.items
    c.row_at-row.result.now
    r.new_width c.loop-y.y r.left r.top (difference c.loop-y.y r.top)
    c.loop-y.invariant (omega (arith, ints)) c.row_at-row.ensures)
