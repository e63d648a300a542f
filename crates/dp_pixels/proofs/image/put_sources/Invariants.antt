use Rattle.std.proofs.Common.{◌≡◌, ℕ, ◌<◌, get_or}
use Rattle.dp_blend.specs.Color.{Channels, of_argb}
use Rattle.dp_pixels.proofs.image.put_sources.Given as goal

-- the pixels of the colours before index k stand at their places
abbrev pub invariant-loop-k : goal.invariant-loop-k
invariant-loop-k l = (k : ℕ) (d : Channels) → k < l.k → get_or l.sources k d
    ≡ of_argb (get_or l.colors k 0)
