use Rattle.std.proofs.Common.{◌≡◌, length}
use Rattle.dp_ops.specs.Lists.{HaveSameLists}
use Rattle.dp_ops.proofs.lists.TileLists.grow.Given as goal

-- the list of each tile stays
abbrev pub invariant-loop-made : goal.invariant-loop-made
invariant-loop-made l =
    record {
      first : l.self-inside.first ≡ l.fn.self.first;
      count : length l.self-inside.lists.items ≡ l._made;
      same : HaveSameLists l.fn.self
          (record { first = l.self-inside.first; lists = l.self-inside.lists.items });
    }
