use Rattle.std.proofs.Common.{length, refl, sym, ap, ◌∙◌, subst}
use Rattle.dp_keeper.specs.declared.row.Row.{Row}
use Rattle.dp_epochs.specs.Resumed.{MayStand}
use Rattle.dp_epochs.specs.Rows.{has_room, row_of}
use Rattle.dp_tables.proofs.ReplayLemmas.{none-found, row-kept, on-ok}
use Rattle.dp_tables.proofs.tables.Tables.keep_row.Goals as goal

pub returns-in_default-clause-row : goal.returns-in_default-clause-row
returns-in_default-clause-row c =
    (none-found c.in_ok-next.field-0 _ _ c.in_default.not-Some c.in_ok-next.ensures, refl)

pub keep_next-requires-clause-memory : goal.keep_next-requires-clause-memory
keep_next-requires-clause-memory c =
    on-ok c.make_room.result _ (sym c.in_ok-event.ensures.done) c.make_room.ensures.room

pub keep_next-requires-clause-row : goal.keep_next-requires-clause-row
keep_next-requires-clause-row c =
    let may : MayStand c.args.self.now.journal (record { n = c.args.n; bytes = c.args.bytes.now })
    c.in-Some.next = rw c.in-Some.is at c.in_ok-next.ensures in
    c.rows_spell_events.ensures.long c.args.bytes.now c.in-Some.next may.spells
    ∙ ap (λ e. length (row_of e)) (sym c.in_ok-event.ensures.event)

pub keep_next-requires-clause-room : goal.keep_next-requires-clause-room
keep_next-requires-clause-room c =
    let may : MayStand c.args.self.now.journal (record { n = c.args.n; bytes = c.args.bytes.now })
    c.in-Some.next = rw c.in-Some.is at c.in_ok-next.ensures in
    ap (λ l. has_room l.journal c.in_ok-event.event) c.make_room.ensures.same
    ∙ ap (has_room c.args.self.now.journal) c.in_ok-event.ensures.event ∙ may.room

pub returns-clause-row : goal.returns-clause-row
returns-clause-row c =
    let row : Row = record { n = c.args.n; bytes = c.args.bytes.now } in
    let may : MayStand c.args.self.now.journal row c.in-Some.next =
    rw c.in-Some.is at c.in_ok-next.ensures in
    row-kept c.args.self.now c.make_room.new.self c.keep_next.new.self row c.in_ok-event.event
    c.make_room.ensures.same
    (subst (MayStand c.args.self.now.journal row) (sym c.in_ok-event.ensures.event) may)
    c.in_ok-keep_next.ensures.kept
