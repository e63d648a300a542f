use Rattle.dp_tables.proofs.ReplayLemmas.{row-made}
use Rattle.dp_tables.proofs.tables.Tables.keep_next.Goals as goal

pub take-requires-clause-made : goal.take-requires-clause-made
take-requires-clause-made c =
    let made = c.in_ok-made.ensures in
    row-made c.args.self.now c.args.event c.in_ok-made.made c.args.row c.requires.row
    c.requires.room made.event made.does made.places
