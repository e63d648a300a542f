use Rattle.std.proofs.Common.{length, refl, ap, ◌∙◌}
use Rattle.dp_epochs.specs.Past.{quiet_with}
use Rattle.dp_commit.specs.Marks.{quiet_of}
use Rattle.dp_commit.proofs.QuietLemmas.{quiet-flagged}
use Rattle.dp_tables.specs.SessionLog.{state_in}
use Rattle.dp_tables.specs.Inside.{ledger_of}
use Rattle.dp_tables.proofs.TableLemmas.{ledger-is}
use Rattle.dp_tables.proofs.tables.Tables.quieten.Goals as goal

pub returns : goal.returns
returns c =
    let t = c.self.inside in
    let are = c.self.invariant in
    ledger-is _ _ (ap (λ l. l.journal) c.self.view_is) (ap (λ l. l.shut) c.self.view_is)
    (ap quiet_of c.flag.ensures.quiet
    ∙ quiet-flagged (state_in (ledger_of t)) t.roster.quiet.items c.args.conn
    (are.flags ∙ ap length are.of.table)
    ∙ ap (λ l. quiet_with (state_in l) c.args.conn l.quiet) c.self.view_is)
    refl
