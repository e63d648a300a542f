use Rattle.std.proofs.Common.{◌≡◌, ℕ, ◌<◌, length, get_or}
use Rattle.dp_ops.specs.Lists.{no_list}
use Rattle.dp_ops.proofs.Waits.{counted}
use Rattle.dp_ops.proofs.lists.TileLists.share.Given as goal

-- the lists before the index are copied
abbrev pub invariant-loop-list : goal.invariant-loop-list
invariant-loop-list l =
    record {
      count : length l.lists.items ≡ l.list-index;
      each : (k : ℕ) → k < l.list-index
          → get_or l.lists.items k no_list ≡ counted (get_or l.list-items k no_list);
    }
