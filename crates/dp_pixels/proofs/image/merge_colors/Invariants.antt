use Rattle.std.proofs.Common.{◌≡◌, ℕ, ◌-◌, ◌<◌, ◌≤◌, length, get_or, cond, ltb}
use Rattle.dp_blend.specs.Color.{Channels, of_argb}
use Rattle.dp_blend.specs.Blending.{blend}
use Rattle.dp_pixels.proofs.image.merge_colors.Given as goal

-- the colours before the start are blended
abbrev pub invariant-loop-start : goal.invariant-loop-start
invariant-loop-start l = record {
  chunk : length l.sources ≡ 64;
  within : l.start ≤ length l.row;
  merged : (k : ℕ) (d : Channels) → k < length l.row
      → get_or l.row k d ≡ cond (ltb k l.start) (blend l.mode (of_argb (get_or l.colors k 0))
      (get_or l.initial.row k d)) (get_or l.initial.row k d);
}

abbrev pub decreases-loop-start : goal.decreases-loop-start
decreases-loop-start l = length l.initial.row - l.start
