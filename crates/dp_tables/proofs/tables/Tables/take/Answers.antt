use Rattle.std.proofs.Common.{◌++◌, ◌∷◌, [], ◌-◌, refl, sym, ap, subst, ◌∙◌}
use Rattle.std.proofs.Common.{arith}
use Rattle.dp_commit.specs.Keeping.{MayBeKept, HasRoom}
use Rattle.dp_commit.specs.Marks.{quiet_of}
use Rattle.dp_commit.proofs.QuietLemmas.{quiet-stays}
use Rattle.dp_tables.specs.SessionLog.{state_in}
use Rattle.dp_tables.specs.Inside.{ledger_of}
use Rattle.dp_tables.specs.Ready.{MayKeep}
use Rattle.dp_tables.proofs.TableLemmas.{epoch-fits, live-fits, tables-kept, ledger-is}
use Rattle.dp_tables.proofs.KeepLemmas.{row-fits, may-be-kept, room-beside, room-in-journal}
use Rattle.dp_tables.proofs.tables.Tables.take.Goals as goal

pub overflow_add-self : goal.overflow_add-self
overflow_add-self c =
    omega (
      arith,
      row-fits c.self.inside c.args.made c.args.row_length c.self.invariant
          (subst (λ l. MayKeep l c.args.made c.args.row_length) (sym c.self.view_is)
          c.requires.made),
    )

pub keep_beside-event-requires-clause-may : goal.keep_beside-event-requires-clause-may
keep_beside-event-requires-clause-may c =
    let t = c.self.inside in
    let s = state_in (ledger_of t) in
    let made = c.args.made in
    let is = subst (λ l. MayKeep l made c.args.row_length) (sym c.self.view_is) c.requires.made in (
      s,
      subst (λ j. MayBeKept s j t.roster t.sending t.live made c.saturating_sub.result)
          (sym c.deref.ensures.value)
          (may-be-kept t made c.args.row_length c.saturating_sub.result c.self.invariant is
          (omega (arith, c.saturating_sub.ensures))),
    )

pub keep_beside-event-requires-clause-room : goal.keep_beside-event-requires-clause-room
keep_beside-event-requires-clause-room c =
    let t = c.self.inside in
    let made = c.args.made in
    let is = subst (λ l. MayKeep l made c.args.row_length) (sym c.self.view_is) c.requires.made in
    subst (λ j. HasRoom j t.roster t.sending t.live c.saturating_sub.result)
    (sym c.deref.ensures.value)
    (room-beside t c.saturating_sub.result c.self.invariant
    (ap (λ l. l.room) c.self.view_is ∙ c.requires.room)
    (omega (
      arith,
      c.saturating_sub.ensures,
      row-fits t made c.args.row_length c.self.invariant is,
    ))
    (epoch-fits c.epochs_are_few.ensures t c.self.invariant)
    (live-fits c.histories_are_short.ensures t c.self.invariant))

pub push_reserved-requires : goal.push_reserved-requires
push_reserved-requires c =
    room-in-journal c.self.inside (ap (λ l. l.room) c.self.view_is ∙ c.requires.room)

pub invariant_of-self : goal.invariant_of-self
invariant_of-self c =
    let t = c.self.inside in
    let made = c.args.made in
    let is = subst (λ l. MayKeep l made c.args.row_length) (sym c.self.view_is) c.requires.made in
    let keeps = rw c.deref.ensures.value at c.keep_beside-event.ensures in
    let may = may-be-kept t made c.args.row_length c.saturating_sub.result c.self.invariant is
    (omega (arith, c.saturating_sub.ensures)) in
    let s = state_in (ledger_of t) in
    tables-kept c.steps_lead_on.ensures.kept t _ made.event c.args.row_length c.self.invariant
    is.long is.room
    (c.push_reserved.ensures.items ∙ ap (λ e. t.journal.items ++ e ∷ []) keeps.event)
    refl refl (keeps.of s may) (keeps.flags c.self.invariant.flags) (keeps.frames s may)

pub returns : goal.returns
returns c =
    let keeps = c.keep_beside-event.ensures in
    ledger-is _ _
    (c.push_reserved.ensures.items
    ∙ ap (λ e. c.self.inside.journal.items ++ e ∷ []) keeps.event
    ∙ ap (λ l. l.journal ++ c.args.made.event ∷ []) c.self.view_is)
    (ap (λ l. l.shut) c.self.view_is)
    (ap quiet_of keeps.quiet
    ∙ quiet-stays c.args.made.effect c.self.inside.roster.quiet.items
    ∙ ap (λ l. l.quiet) c.self.view_is)
    refl
