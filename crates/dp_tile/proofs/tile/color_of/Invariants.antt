use Rattle.std.proofs.Common.{◌≡◌, ℕ, ◌<◌, get_or}
use Rattle.dp_blend.specs.Color.{clear}
use Rattle.dp_tile.proofs.tile.color_of.Given as goal

-- the pixels so far are of the first one's colour
abbrev pub invariant-loop-pixel : goal.invariant-loop-pixel
invariant-loop-pixel l =
    (k : ℕ) → k < l.pixel-index → get_or l.pixels k clear ≡ l.first
