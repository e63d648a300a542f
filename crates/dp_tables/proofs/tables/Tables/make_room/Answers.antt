use Rattle.std.proofs.Common.{refl, ap, ◌∙◌}
use Rattle.dp_commit.specs.Marks.{quiet_of}
use Rattle.dp_tables.proofs.TableLemmas.{ledger-is}
use Rattle.dp_tables.proofs.RoomLemmas.{tables-roomier}
use Rattle.dp_tables.proofs.tables.Tables.make_room.Goals as goal

pub invariant_of-self : goal.invariant_of-self
invariant_of-self c =
    let r = c.reserve.ensures in
    tables-roomier c.self.inside _ c.self.invariant r.journal r.shut refl r.roster r.sending
    r.live

pub returns-clause-same : goal.returns-clause-same
returns-clause-same c =
    let r = c.reserve.ensures in
    ledger-is _ _ (r.journal ∙ ap (λ l. l.journal) c.self.view_is)
    (r.shut ∙ ap (λ l. l.shut) c.self.view_is)
    (ap quiet_of r.roster.quiet ∙ ap (λ l. l.quiet) c.self.view_is)
    refl
