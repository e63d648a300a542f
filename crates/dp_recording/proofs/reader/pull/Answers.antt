use Rattle.std.proofs.Common.{arith, inr}
use Rattle.dp_recording.specs.declared.header.Profile.TheVariants.{First, Second}
use Rattle.dp_recording.proofs.Ends.{late-done, late-ended}
use Rattle.dp_recording.proofs.Pulled.{of-call, reads-on}
use Rattle.dp_recording.proofs.reader.pull.Goals as goal

pub returns-in-Ok-Some-clause-pulled : goal.returns-in-Ok-Some-clause-pulled
returns-in-Ok-Some-clause-pulled g c =
    let given = rw c.in-Ok-Some.field-0-is at c.in-Ok-Some.ensures.given in
    let further = rw c.in-Ok-Some.field-0-is at c.in-Ok-Some.ensures.further in
    let going = rw c.in-Ok-Some.field-0-is at c.in-Ok-Some.ensures.not_ended in
    let source = c.in-Ok-Some.ensures.source in
    let within = c.in-Ok-Some.ensures.within in
    rw c.in-Lifting.is (record {
      read =
          λ bytes entries h. reads-on First bytes _ (g.I.Source.left c.next.new.input) entries
          c.in-Ok-Some.entry c.in-Lifting.reader c.next.new.self source going
          (given bytes entries) h;
      further = omega (arith, further, within, source.limit);
      within = omega (arith, source.limit);
      goes_on = going;
      kept = c.in-Ok-Some.ensures.kept;
    })

pub returns-in-Ok-Some-next-clause-pulled : goal.returns-in-Ok-Some-next-clause-pulled
returns-in-Ok-Some-next-clause-pulled g c =
    let given = rw c.in-Ok-Some-next.field-0-is at c.in-Ok-Some-next.ensures.given in
    let further = rw c.in-Ok-Some-next.field-0-is at c.in-Ok-Some-next.ensures.further in
    let going = rw c.in-Ok-Some-next.field-0-is at c.in-Ok-Some-next.ensures.not_ended in
    let source = c.in-Ok-Some-next.ensures.source in
    let within = c.in-Ok-Some-next.ensures.within in
    rw c.in-Reading.is (record {
      read =
          λ bytes entries h. reads-on Second bytes _ (g.I.Source.left c.next-in-Reading.new.input)
          entries c.in-Ok-Some-next.entry c.in-Reading.reader c.next-in-Reading.new.self source
          going (given bytes entries) h;
      further = omega (arith, further, within, source.limit);
      within = omega (arith, source.limit);
      goes_on = going;
      kept = c.in-Ok-Some-next.ensures.kept;
    })

pub returns-in-Ok-None-clause-pulled : goal.returns-in-Ok-None-clause-pulled
returns-in-Ok-None-clause-pulled g c =
    let done = rw c.in-Ok-None.field-0-is at c.in-Ok-None.ensures.done in
    let end = rw c.in-Ok-None.field-0-is at c.in-Ok-None.ensures.at_end in
    rw c.in-Lifting.is (record {
      read =
          λ bytes entries h. late-done First bytes (g.I.Source.left c.next.new.input) entries
          c.in-Lifting.reader h (done h.2 bytes entries h.3) (end h.2);
      at_end = end;
      finished = c.finish.ensures;
      kept = c.in-Ok-None.ensures.kept;
    })

pub returns-in-Ok-None-next-clause-pulled : goal.returns-in-Ok-None-next-clause-pulled
returns-in-Ok-None-next-clause-pulled g c =
    let done = rw c.in-Ok-None-next.field-0-is at c.in-Ok-None-next.ensures.done in
    let end = rw c.in-Ok-None-next.field-0-is at c.in-Ok-None-next.ensures.at_end in
    rw c.in-Reading.is (record {
      read =
          λ bytes entries h. late-done Second bytes (g.I.Source.left c.next-in-Reading.new.input)
          entries c.in-Reading.reader h (done h.2 bytes entries h.3) (end h.2);
      at_end = end;
      finished = c.finish-in-Ok-None-next.ensures;
      kept = c.in-Ok-None-next.ensures.kept;
    })

pub returns-in-Err-clause-pulled : goal.returns-in-Err-clause-pulled
returns-in-Err-clause-pulled g c =
    let failed = rw c.fail.ensures.value at c.fail.ensures.failed in
    rw c.in-Lifting.is (rw c.fail.ensures.value (record {
      ends =
          λ bytes entries h. late-ended First bytes (g.I.Source.left c.next.new.input) entries
          c.in-Lifting.reader c.in-Err.end h (c.in-Err.ensures.ends bytes entries h.3);
      failed = failed;
      cause = inr (of-call _ _ _ c.in-Err.end c.in-Err.ensures.inside c.in-Err.ensures.fault);
    }))

pub returns-in-Err-next-clause-pulled : goal.returns-in-Err-next-clause-pulled
returns-in-Err-next-clause-pulled g c =
    let failed = rw c.fail-in-Err-next.ensures.value at c.fail-in-Err-next.ensures.failed in
    rw c.in-Reading.is (rw c.fail-in-Err-next.ensures.value (record {
      ends =
          λ bytes entries h. late-ended Second bytes
          (g.I.Source.left c.next-in-Reading.new.input) entries c.in-Reading.reader
          c.in-Err-next.end h (c.in-Err-next.ensures.ends bytes entries h.3);
      failed = failed;
      cause =
          inr (of-call _ _ _ c.in-Err-next.end c.in-Err-next.ensures.inside
          c.in-Err-next.ensures.fault);
    }))
