use Rattle.std.proofs.Common.{◌+◌, ◌-◌, ◌<◌, ◌≤◌, length, is_some, sym, ap, ◌∙◌, ⊎_elim, arith}
use Rattle.std.proofs.lemmas.Bool.{cases_lt}
use Rattle.dp_epochs.specs.State.{open_in}
use Rattle.dp_history.proofs.Ranges.{find-first, find-none}
use Rattle.dp_commit.proofs.OpenLemmas.{open-index}
use Rattle.dp_commit.proofs.connections.next_open.Goals as goal

pub returns-then-is_open : goal.returns-then-is_open
returns-then-is_open c =
    let cs = c.args.connections.now in
    let i = c.loop-index.index in
    sym (find-first (λ conn. is_some (open_in cs conn)) (c.args.after + 1)
    (length cs - c.args.after) (i + 1)
    (omega arith) (omega arith)
    (open-index cs i _ c.loop-index-test.true ∙ sym c.is_open.ensures ∙ c.if-is_open.true)
    (λ j from to. c.loop-index.invariant j from (omega arith)))

pub loop-index-preserved : goal.loop-index-preserved
loop-index-preserved c = λ k from to.
    let cs = c.args.connections.now in
    let i = c.loop-index.index in
    ⊎_elim (λ (last : i < k).
    ap (λ n. is_some (open_in cs n)) (omega arith)
    ∙ open-index cs i _ c.loop-index-test.true ∙ sym c.is_open.ensures ∙ c.if-is_open.false)
    (λ (before : k ≤ i). c.loop-index.invariant k from before)
    (cases_lt i k)

pub returns : goal.returns
returns c =
    sym (find-none (λ conn. is_some (open_in c.args.connections.now conn)) (c.args.after + 1)
    (length c.args.connections.now - c.args.after) (λ j from to. c.loop-index.invariant j from
    (omega arith)))
