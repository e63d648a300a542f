use Rattle.std.proofs.Common.{◌∙◌, arith, false, refl, true}
use Rattle.dp_viewer.specs.Ways.{play_way}
use Rattle.dp_player.proofs.Batches.{ends-memory, held-further}
use Rattle.dp_viewer.proofs.Recordings.{at_end-going, shows-done, shows-end, fault_matches-going}
use Rattle.dp_player.proofs.ahead.read_batch.Goals as goal

pub entries-init : goal.entries-init
entries-init g c = record {
  shown = λ at input on shows. shows;
  going = λ goes. goes;
  kept = refl;
  within = omega arith;
}

pub entries-preserved : goal.entries-preserved
entries-preserved g c =
    let was = c.entries.invariant in
    let gives = rw c.in-Ok-Some.field-0-is at c.in-Ok-Some.ensures.pulled in
    record {
      shown = λ at input on shows. held-further _ false c.in-Ok-false.field-0-test
          (g.I.Source.left c.entries.input) (g.I.Source.left c.next.new.input)
          c.entries.ahead.board c.hold_due.new.board c.entries.ahead.due c.hold_due.new.due
          c.entries.ahead.reader c.next.new.self c.in-Ok-Some.entry gives.read
          c.in-Ok-false.ensures.shown c.hold_due.ensures.left at input on
          (was.shown at input on shows);
      going = λ goes. gives.goes_on;
      kept = gives.kept ∙ was.kept;
      within = omega (arith, gives.further, was.within);
    }

pub entries-smaller : goal.entries-smaller
entries-smaller g c =
    let gives = rw c.in-Ok-Some.field-0-is at c.in-Ok-Some.ensures.pulled in
    gives.further

pub returns-then-is_full-clause-read : goal.returns-then-is_full-clause-read
returns-then-is_full-clause-read g c =
    let was = c.entries.invariant in
    let gives = rw c.in-Ok-Some.field-0-is at c.in-Ok-Some.ensures.pulled in
    record {
      shown = λ at input on shows. held-further _ false c.in-Ok-false.field-0-test
          (g.I.Source.left c.entries.input) (g.I.Source.left c.next.new.input)
          c.entries.ahead.board c.hold_due.new.board c.entries.ahead.due c.hold_due.new.due
          c.entries.ahead.reader c.next.new.self c.in-Ok-Some.entry gives.read
          c.in-Ok-false.ensures.shown c.hold_due.ensures.left at input on
          (was.shown at input on shows);
      further = omega (arith, gives.further, was.within);
      goes_on = gives.goes_on;
      kept = gives.kept ∙ was.kept;
    }

pub returns-in-Ok-true-clause-read : goal.returns-in-Ok-true-clause-read
returns-in-Ok-true-clause-read g c =
    let was = c.entries.invariant in
    let gives = rw c.in-Ok-Some.field-0-is at c.in-Ok-Some.ensures.pulled in
    record {
      shown = λ at input on shows. held-further _ true c.in-Ok-true.field-0-test
          (g.I.Source.left c.entries.input) (g.I.Source.left c.next.new.input)
          c.entries.ahead.board c.hold_due.new.board c.entries.ahead.due c.hold_due.new.due
          c.entries.ahead.reader c.next.new.self c.in-Ok-Some.entry gives.read
          c.in-Ok-true.ensures.shown c.hold_due.ensures.left at input on
          (was.shown at input on shows);
      further = omega (arith, gives.further, was.within);
      goes_on = gives.goes_on;
      kept = gives.kept ∙ was.kept;
    }

pub returns-in-Err-hold_due-clause-read : goal.returns-in-Err-hold_due-clause-read
returns-in-Err-hold_due-clause-read g c =
    let gives = rw c.in-Ok-Some.field-0-is at c.in-Ok-Some.ensures.pulled in
    record {
      told = λ at input on shows. ends-memory (play_way at) input
          (g.I.Source.left c.next.new.input) c.hold_due.new.board;
      fault = λ at goes. gives.kept ∙ c.entries.invariant.kept;
      to_end = λ goes to_end. absurd to_end;
    }

pub returns-in-Ok-None-clause-read : goal.returns-in-Ok-None-clause-read
returns-in-Ok-None-clause-read g c =
    let was = c.entries.invariant in
    let none = rw c.in-Ok-None.field-0-is at c.in-Ok-None.ensures.pulled in
    record {
      told = λ at input on shows. shows-done at input (g.I.Source.left c.entries.input)
          (g.I.Source.left c.next.new.input) _ c.entries.ahead.due c.entries.ahead.reader none.read
          (was.shown at input on shows);
      fault = λ at goes. none.kept ∙ was.kept;
      to_end = λ goes to_end. none.at_end (was.going goes);
    }

pub returns-in-Err-clause-read : goal.returns-in-Err-clause-read
returns-in-Err-clause-read g c =
    let was = c.entries.invariant in
    rw c.run_end.ensures (record {
      told = λ at input on shows. shows-end at input (g.I.Source.left c.entries.input)
          (g.I.Source.left c.next.new.input) _ c.entries.ahead.due c.entries.ahead.reader
          c.in-Err.error c.in-Err.ensures.pulled.ends (was.shown at input on shows);
      fault = λ at goes. fault_matches-going at _ _ _ c.entries.ahead.reader c.in-Err.error
          (was.going goes) (rw was.kept at c.in-Err.ensures.pulled.cause);
      to_end = λ goes. at_end-going _ _ _ c.entries.ahead.reader c.in-Err.error (was.going goes)
          c.in-Err.ensures.pulled.cause;
    })
