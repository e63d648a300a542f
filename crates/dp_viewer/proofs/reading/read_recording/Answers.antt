use Rattle.std.proofs.Common.{refl, ◌∙◌}
use Rattle.dp_viewer.proofs.Recordings.{at_end-going, on-no-error, shows-further}
use Rattle.dp_viewer.proofs.Recordings.{shows-first, shows-done, shows-end, fault_matches-going}
use Rattle.dp_viewer.proofs.reading.read_recording.Goals as goal

pub entries-init : goal.entries-init
entries-init g c = record {
  told =
      shows-first c.args.due.now (g.I.Source.left c.args.input.now)
      c.args.board.now c.new-reader.result c.requires c.new-reader.ensures;
  going = rw c.new-reader.ensures tt;
  kept = refl;
}

pub entries-preserved : goal.entries-preserved
entries-preserved g c =
    let gives = rw c.in-Ok-Some.field-0-is at c.in-Ok-Some.ensures.pulled in
    let shown = on-no-error c.show_due.result c.is_err.result c.is_err.ensures.value
    c.if-is_err.false c.show_due.ensures.shown in
    record {
      told =
          shows-further c.args.due.now (g.I.Source.left c.args.input.now)
          (g.I.Source.left c.entries.input) (g.I.Source.left c.next.new.input)
          c.entries.board c.show_due.new.board c.entries.due c.show_due.new.due
          c.in-Ok-Some.entry c.entries.reader c.next.new.self gives.read shown
          c.show_due.ensures.left c.entries.invariant.told;
      going = gives.goes_on;
      kept = gives.kept ∙ c.entries.invariant.kept;
    }

pub entries-smaller : goal.entries-smaller
entries-smaller g c =
    let gives = rw c.in-Ok-Some.field-0-is at c.in-Ok-Some.ensures.pulled in
    gives.further

pub returns-in-Ok-None-clause-told : goal.returns-in-Ok-None-clause-told
returns-in-Ok-None-clause-told g c =
    let none = rw c.in-Ok-None.field-0-is at c.in-Ok-None.ensures.pulled in
    shows-done c.args.due.now (g.I.Source.left c.args.input.now)
    (g.I.Source.left c.entries.input) (g.I.Source.left c.next.new.input) c.entries.board
    c.entries.due c.entries.reader none.read
    c.entries.invariant.told

pub returns-in-Ok-None-clause-fault : goal.returns-in-Ok-None-clause-fault
returns-in-Ok-None-clause-fault g c =
    let none = rw c.in-Ok-None.field-0-is at c.in-Ok-None.ensures.pulled in
    none.kept ∙ c.entries.invariant.kept

pub returns-in-Ok-None-clause-to_end : goal.returns-in-Ok-None-clause-to_end
returns-in-Ok-None-clause-to_end g c =
    let none = rw c.in-Ok-None.field-0-is at c.in-Ok-None.ensures.pulled in
    λ to_end. none.at_end c.entries.invariant.going

pub returns-in-Err-clause-told : goal.returns-in-Err-clause-told
returns-in-Err-clause-told g c =
    rw c.run_end.ensures
    (shows-end c.args.due.now (g.I.Source.left c.args.input.now)
    (g.I.Source.left c.entries.input) (g.I.Source.left c.next.new.input) c.entries.board
    c.entries.due c.entries.reader c.in-Err.error
    c.in-Err.ensures.pulled.ends c.entries.invariant.told)

pub returns-in-Err-clause-fault : goal.returns-in-Err-clause-fault
returns-in-Err-clause-fault g c =
    rw c.run_end.ensures
    (fault_matches-going c.args.due.now _ _ _ c.entries.reader c.in-Err.error
    c.entries.invariant.going (rw c.entries.invariant.kept at c.in-Err.ensures.pulled.cause))

pub returns-in-Err-clause-to_end : goal.returns-in-Err-clause-to_end
returns-in-Err-clause-to_end g c =
    rw c.run_end.ensures
    (at_end-going _ _ _ c.entries.reader c.in-Err.error c.entries.invariant.going
    c.in-Err.ensures.pulled.cause)
