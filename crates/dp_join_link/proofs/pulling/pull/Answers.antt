use Rattle.std.proofs.Common.{sym, ◌∙◌}
use Rattle.dp_join_link.specs.Reading.{source_at}
use Rattle.dp_join_link.proofs.Reading.{pulled_end, pulled_last, pulled_none}
use Rattle.dp_join_link.proofs.pulling.pull.Goals as goal

pub returns-then-is_disconnect-clause-err : goal.returns-then-is_disconnect-clause-err
returns-then-is_disconnect-clause-err g c =
    let e = c.in-Ok-Some.ensures in
    pulled_last
    (source_at g.R.Source.left g.R.Source.faults c.args.reader.now c.args.rx.now)
    (source_at g.R.Source.left g.R.Source.faults c.next.new.self c.next.new.input)
    c.in-Ok-Some.entry c.requires
    (rw c.in-Ok-Some.field-0-is at e.given) e.within e.source.first e.source.limit
    (rw c.in-Ok-Some.field-0-is at e.not_ended) e.kept
    (sym c.is_disconnect.ensures ∙ c.if-is_disconnect.true)

pub returns-in-Ok-None-clause-err : goal.returns-in-Ok-None-clause-err
returns-in-Ok-None-clause-err g c =
    let none = c.in-Ok-None.ensures.done c.requires.going in
    let done = rw c.in-Ok-None.field-0-is at none in
    pulled_none
    (source_at g.R.Source.left g.R.Source.faults c.args.reader.now c.args.rx.now)
    (source_at g.R.Source.left g.R.Source.faults c.next.new.self c.next.new.input)
    c.requires done c.in-Ok-None.ensures.kept

pub returns-in-Err-clause-err : goal.returns-in-Err-clause-err
returns-in-Err-clause-err g c =
    rw c.stop_of.ensures
    (pulled_end
    (source_at g.R.Source.left g.R.Source.faults c.args.reader.now c.args.rx.now)
    (source_at g.R.Source.left g.R.Source.faults c.next.new.self c.next.new.input)
    (g.R.Source.left c.next.new.input) c.in-Err.end c.requires c.in-Err.ensures.ends
    c.in-Err.ensures.later c.in-Err.ensures.fault)
