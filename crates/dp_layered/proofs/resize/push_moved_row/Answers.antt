use Rattle.std.proofs.Common.{arith, ◌∙◌, to_z, of_z, w32}
use Rattle.std.specs.Prelude.{ℤ}
use Rattle.std.proofs.lemmas.Int.{ints}
use Rattle.dp_layered.proofs.Moves.{difference, row_moved_more}
use Rattle.dp_layered.proofs.resize.push_moved_row.Goals as goal

pub loop-x-preserved : goal.loop-x-preserved
loop-x-preserved c =
    let left : ℤ = to_z w32 (of_z w32 c.args.left) in
    c.in_ok-push.ensures.items
    ∙ row_moved_more c.args.moved.now.items c.loop-x.moved.items c.args.row.now left
    (difference c.loop-x.x c.args.left) c.loop-x.x c.pixel_in_row.result
    c.loop-x.invariant c.pixel_in_row.ensures (omega (arith, ints))
