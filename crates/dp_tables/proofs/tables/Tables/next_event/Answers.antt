use Rattle.std.proofs.Common.{[], length, refl, sym, ap, ◌∙◌}
use Rattle.dp_epochs.specs.Past.{state_after}
use Rattle.dp_epochs.specs.Spelled.{RowSpells}
use Rattle.dp_tables.proofs.ReplayLemmas.{no-room, may-stand}
use Rattle.dp_tables.proofs.TableLemmas.{of-ledger}
use Rattle.dp_tables.proofs.tables.Tables.next_event.Goals as goal

pub returns-then-not-has_room : goal.returns-then-not-has_room
returns-then-not-has_room c =
    no-room c.rows_spell_events.ensures.long c.args.self.now.journal
    (record { n = c.args.n; bytes = c.args.bytes.now }) (length c.args.bytes.now) refl
    (sym c.has_room.ensures ∙ c.if-not-has_room.true)

pub returns : goal.returns
returns c =
    let l = c.args.self.now in
    let are = of-ledger c.self.inside l c.self.invariant c.self.view_is in
    let spells : RowSpells c.args.bytes.now c.in-Some.event =
    rw c.in-Some.is at c.in_ok-event.ensures in
    may-stand c.rows_spell_events.ensures.one c.rows_spell_events.ensures.long l.journal
    (record { n = c.args.n; bytes = c.args.bytes.now }) c.in-Some.event c.if_given.result
    (length c.args.bytes.now) (c.if-n-events.false ∙ c.events.ensures) refl spells
    (sym c.has_room.ensures ∙ c.if-not-has_room.false)
    (c.if_given.ensures (state_after l.journal [])
    (c.deref.ensures.value ∙ are.table
    ∙ ap (λ s. (state_after l.journal s).connections) c.requires))
