use Rattle.std.proofs.Common.{[], ◌∷◌, ◌++◌, ap, length, ◌∙◌}
use Rattle.dp_ops.specs.Lists.{Lists, Waiting}
use Rattle.dp_ops.proofs.Waits.{grown, pushed_same}
use Rattle.dp_ops.proofs.lists.TileLists.grow.Goals as goal

pub loop-made-preserved : goal.loop-made-preserved
loop-made-preserved c =
    let old = c.loop-made.self-inside in
    let now : Lists = record { first = old.first; lists = old.lists.items } in
    let more = c.in_ok-push.ensures.items in
    record {
      first = c.loop-made.invariant.first;
      count = ap length more
          ∙ grown old.lists.items c.new.result c.loop-made._made c.loop-made.invariant.count;
      same = λ col row few.
          pushed_same now c.push.new.self.items
          (more ∙ ap (λ (w : Waiting). old.lists.items ++ w ∷ []) c.new.ensures) col row few
          ∙ c.loop-made.invariant.same col row few;
    }
