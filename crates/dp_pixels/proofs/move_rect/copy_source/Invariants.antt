use Rattle.std.proofs.Common.{◌≡◌, ℕ, ◌+◌, ◌*◌, ◌<◌, length, get_or}
use Rattle.dp_blend.specs.Color.{Channels}
use Rattle.dp_pixels.proofs.move_rect.copy_source.Given as goal

-- the rows above row j are copied
abbrev pub invariant-loop-j : goal.invariant-loop-j
invariant-loop-j l = record {
  len : length l.copied.items ≡ l.j * l.w;
  copied : (i k : ℕ) (d : Channels) → i < l.w → k < l.j → get_or l.copied.items (k * l.w + i) d
      ≡ get_or l.pixels ((l.y + k) * l.width + (l.x + i)) d;
}
