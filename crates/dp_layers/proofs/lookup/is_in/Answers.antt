use Rattle.std.proofs.Common.{◌≡◌, ◌+◌, ◌-◌, ◌==◌, ◌||◌, ℕ, zero, suc, false, arith, sym, ◌∙◌, ap}
use Rattle.std.proofs.lemmas.Bool.{ne_eqb}
use Rattle.std.proofs.Math.Bool.{or-false}
use Rattle.dp_layers.specs.Layers.{is_below}
use Rattle.dp_layers.proofs.Going.{is_below-step, is_below-none}
use Rattle.dp_layers.proofs.lookup.is_in.Goals as goal

pub loop-step-preserved : goal.loop-step-preserved
loop-step-preserved c =
    let rows = c.args.rows.now in
    let left : ℕ = 16 - (c.loop-step._step + 1) in
    let more : suc left ≡ 16 - c.loop-step._step = omega arith in
    ap (λ at. at == c.args.other || is_below left rows at c.args.other) c.parent_of-at.ensures
    ∙ sym (is_below-step left rows c.loop-step.at c.args.other)
    ∙ ap (λ n. is_below n rows c.loop-step.at c.args.other) more
    ∙ ap (λ b. b || is_below (16 - c.loop-step._step) rows c.loop-step.at c.args.other)
    (sym (ne_eqb c.loop-step.at c.args.other c.if-at-other.false))
    ∙ c.loop-step.invariant

pub returns : goal.returns
returns c =
    let rows = c.args.rows.now in
    let none : 16 - c.loop-step._step ≡ zero = omega arith in
    let ends : is_below (16 - c.loop-step._step) rows c.loop-step.at c.args.other ≡ false =
    ap (λ n. is_below n rows c.loop-step.at c.args.other) none
    ∙ is_below-none rows c.loop-step.at c.args.other in
    sym (ap (λ b. c.loop-step.at == c.args.other || b) ends
    ∙ or-false (c.loop-step.at == c.args.other)) ∙ c.loop-step.invariant
