-- Tests of columns in a span.
use Rattle.std.proofs.Common.{◌≡◌, ℕ, Bool, true, false, ◌&&◌, leb, ltb, refl, sym, arith}
use Rattle.std.specs.Prelude.{◌↔◌}
use Rattle.std.proofs.lemmas.Bool.{leb-true, ltb-true, and_parts}
use Rattle.std.proofs.lemmas.Bool.Decides.{nat_tests}
use Rattle.dp_pixels.specs.declared.span.Span.{Span}
use Rattle.dp_pixels.specs.Spans.{IsInSpan}

-- two tests that pass for the same are equal
pub same_test : (s t : Bool) → (s ≡ true → t ≡ true) → (t ≡ true → s ≡ true) → s ≡ t
same_test true t to from = sym (to refl)
same_test false true to from = from refl
same_test false false to from = refl

-- the test of a column
pub in_span : (span : Span) (k : ℕ) → ((leb span.start k && ltb k span.end) ≡ true) ↔ IsInSpan span
    k
in_span span k = (
  λ test.
      let both = and_parts (leb span.start k) (ltb k span.end) test in
      record { start = leb-true span.start k both.0; end = ltb-true k span.end both.1 },
  λ inside.
      let start = inside.start in
      let end = inside.end in
      grind (arith, nat_tests),
)
