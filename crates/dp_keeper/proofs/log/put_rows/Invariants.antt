use Rattle.std.proofs.Common.{◌≡◌, ◌+◌, ◌++◌, drop}
use Rattle.dp_keeper.specs.Log.{rows_from}
use Rattle.dp_keeper.proofs.log.put_rows.Given as goal

abbrev pub invariant-loop-end : goal.invariant-loop-end
invariant-loop-end l = (l.index ≡ l.from + l.end-index)
    × (l.page ++ rows_from l.bytes l.numbers l.index l.start (drop l.end-index l.ends)
    ≡ l.fn.page ++ rows_from l.bytes l.numbers l.from l.at l.ends)
