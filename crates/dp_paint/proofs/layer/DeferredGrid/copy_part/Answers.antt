use Rattle.std.proofs.Common.{◌+◌, ℕ, length, arith}
use Rattle.dp_blend.specs.Canvas.{pixel_at}
use Rattle.dp_blend.proofs.Parts.{is_part}
use Rattle.dp_paint.proofs.layer.DeferredGrid.copy_part.Goals as goal

pub returns : goal.returns
returns c =
    let layer = c.args.self.now in
    let f : ℕ → _ = λ i. pixel_at layer.width layer.pixels (c.args.x + i) c.args.y in
    is_part f (length c.args.part.now) c.loop-k.part c.loop-k.auto.part
    (λ i few. c.loop-k.invariant i (omega (arith, few, c.loop-k-test.false)))
