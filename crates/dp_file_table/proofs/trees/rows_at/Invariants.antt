use Rattle.std.proofs.Common.{IsSome}
use Rattle.sqlite_store.specs.FileStore.{view}
use Rattle.dp_file_table.proofs.trees.rows_at.Given as goal

abbrev pub invariant-loop : goal.invariant-loop
invariant-loop g l = IsSome ((view l.store).cursors 0)
