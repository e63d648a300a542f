use Rattle.std.proofs.Common.{◌≡◌, ◌+◌, ◌<◌, ℕ, get_or}
use Rattle.dp_blend.specs.Color.{clear}
use Rattle.dp_blend.specs.Canvas.{pixel_at}
use Rattle.dp_paint.proofs.layer.DeferredGrid.copy_part.Given as goal

-- the pixels so far are copied
abbrev pub invariant-loop-k : goal.invariant-loop-k
invariant-loop-k l = (i : ℕ) → i < l.k → get_or l.part i clear
    ≡ pixel_at l.self.width l.self.pixels (l.x + i) l.y
