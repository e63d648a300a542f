use Rattle.std.proofs.Common.{◌≡◌, ◌+◌, ◌-◌, ℕ, zero, suc, true, arith, sym, ◌∙◌, ap, subst}
use Rattle.dp_layers.specs.Layers.{is_within}
use Rattle.dp_layers.specs.Inside.{as_moved}
use Rattle.dp_layers.proofs.Going.{is_within-root, is_within-step, is_within-none}
use Rattle.dp_layers.proofs.lookup.is_within.Goals as goal

pub returns-then-at-eq0 : goal.returns-then-at-eq0
returns-then-at-eq0 c =
    let left : ℕ = c.args.limit - c.loop-step._step in
    let P : ℕ → Type 0 = λ at. true ≡ is_within left (as_moved c.args.rows.now c.args.moved) at in
    subst P (sym c.if-at-eq0.true) (sym (is_within-root left (as_moved c.args.rows.now
    c.args.moved)))
    ∙ c.loop-step.invariant

pub loop-step-preserved : goal.loop-step-preserved
loop-step-preserved c =
    let left : ℕ = c.args.limit - (c.loop-step._step + 1) in
    let more : suc left ≡ c.args.limit - c.loop-step._step = omega arith in
    ap (is_within left (as_moved c.args.rows.now c.args.moved)) c.parent_of-at.ensures
    ∙ sym (is_within-step left (as_moved c.args.rows.now c.args.moved) c.loop-step.at
    c.if-at-eq0.false)
    ∙ ap (λ n. is_within n (as_moved c.args.rows.now c.args.moved) c.loop-step.at) more
    ∙ c.loop-step.invariant

pub returns : goal.returns
returns c =
    let none : zero ≡ c.args.limit - c.loop-step._step = omega arith in
    sym (is_within-none (as_moved c.args.rows.now c.args.moved) c.loop-step.at)
    ∙ ap (λ n. is_within n (as_moved c.args.rows.now c.args.moved) c.loop-step.at) none
    ∙ c.loop-step.invariant
