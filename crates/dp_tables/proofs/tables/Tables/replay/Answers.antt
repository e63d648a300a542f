use Rattle.std.proofs.Common.{IfOk, subst}
use Rattle.dp_tables.specs.Replay.{Replays}
use Rattle.dp_tables.proofs.tables.Tables.replay.Goals as goal

pub returns-clause-row : goal.returns-clause-row
returns-clause-row c =
    subst (λ b. IfOk c.keep_row.result (λ stands.
    Replays c.args.self.now (record { n = c.args.row.now.n; bytes = b }) stands
    c.keep_row.new.self))
    c.as_slice.ensures c.keep_row.ensures.row
