use Rattle.std.proofs.Common.{◌≡◌, ℕ, true, List, ap, sym, ◌∙◌, subst, take}
use Rattle.dp_lines.specs.Held.{Held}
use Rattle.dp_lines.specs.Taken.{Keeps, IsEnd}
use Rattle.dp_lines.specs.Lines.{is_skipped}
use Rattle.dp_lines.proofs.Numbering.{keeps_further, keeps_after_skipped}
use Rattle.dp_lines.proofs.lines.Lines.pass_over.Goals as goal

-- one more line that is passed over
pub passed-preserved : goal.passed-preserved
passed-preserved c =
    let same = sym c.first_end.ensures.same in
    let so_far = subst (λ (h : Held). Keeps c.args.self.now h) same c.passed.invariant in
    let end = subst (λ (h : Held). IsEnd h.bytes c.in-Some.len) same c.in-Some.ensures.end in
    let bytes = ap (λ (h : Held). h.bytes) (sym c.self.view_is) ∙ sym c.as_slice.ensures in
    let skipped : is_skipped (take c.in-Some.len c.first_end.new.self.bytes) ≡ true =
    ap (λ (b : List ℕ). is_skipped (take c.in-Some.len b)) bytes ∙ sym c.if-not-is_passed.ensures in
    subst (λ (h : Held). Keeps c.args.self.now h) (sym c.drop_line.ensures)
    (keeps_further c.args.self.now c.first_end.new.self _ so_far
    (keeps_after_skipped c.first_end.new.self c.in-Some.len end skipped))
