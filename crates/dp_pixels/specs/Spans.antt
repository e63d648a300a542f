-- Stretches of a row.
use Rattle.std.specs.Prelude.{ℕ, ◌≤◌, ◌<◌}
use Rattle.dp_pixels.specs.declared.span.Span.{Span}

-- a column is in the span
pub record IsInSpan (span : Span) (k : ℕ) : Type 0 where
  pub start : span.start ≤ k
  pub end : k < span.end
