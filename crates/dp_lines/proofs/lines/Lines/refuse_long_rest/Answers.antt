use Rattle.std.proofs.Common.{◌≡◌, ℕ, ◌+◌, ap, sym, ◌∙◌, subst}
use Rattle.std.specs.Prelude.{Err}
use Rattle.dp_lines.specs.Lines.{is_overlong}
use Rattle.dp_lines.specs.Held.{Held, NextIsLong}
use Rattle.dp_lines.specs.declared.lines.LineError.TheVariants.{Long}
use Rattle.dp_lines.proofs.Giving.{long_rest, long_in_rest}
use Rattle.dp_lines.proofs.lines.Lines.refuse_long_rest.Goals as goal

pub returns-then-is_long-clause-long : goal.returns-then-is_long-clause-long
returns-then-is_long-clause-long c n =
    let held = c.args.self.now in
    let bytes = ap (λ (h : Held). h.bytes) (sym c.self.view_is) ∙ sym c.as_slice.ensures in
    let long = ap is_overlong bytes ∙ sym c.if-is_long.ensures in
    let count = ap (λ (h : Held). h.count) c.self.view_is in (
      λ err.
          let same : c.self.inside.count + 1 ≡ n = cc (err) in
          subst (NextIsLong held) (sym (ap (λ (k : ℕ). k + 1) count) ∙ same)
          (long_rest held c.requires long),
      λ next.
          let told = (long_in_rest held c.requires n next).1 in
          ap (λ (k : ℕ). Err (Long k)) (ap (λ (k : ℕ). k + 1) count ∙ sym told),
    )

pub returns-clause-long : goal.returns-clause-long
returns-clause-long c n =
    let held = c.args.self.now in
    let bytes = ap (λ (h : Held). h.bytes) (sym c.self.view_is) ∙ sym c.as_slice.ensures in
    let short = ap is_overlong bytes ∙ sym c.if-is_long.ensures in (
      λ err. absurd (cc (err)),
      λ next. absurd (cc (short, (long_in_rest held c.requires n next).0)),
    )
