use Rattle.std.proofs.Common.{◌≡◌}
use Rattle.std.specs.Vec.{vec_len}
use Rattle.dp_board.specs.Table.{without_settled}
use Rattle.dp_board.proofs.groups.UserGroups.forget_settled.Given as goal

-- what is left after the settled ones is the same
abbrev pub invariant-loop-self : goal.invariant-loop-self
invariant-loop-self l = record {
  done : without_settled l.window l.self-inside.done.items
      ≡ without_settled l.window l.fn.self.done;
  undone : l.self-inside.undone.items ≡ l.fn.self.undone;
}

abbrev pub decreases-loop-self : goal.decreases-loop-self
decreases-loop-self l = vec_len l.self-inside.done
