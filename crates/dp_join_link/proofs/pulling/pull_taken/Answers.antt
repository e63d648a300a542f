use Rattle.std.proofs.Common.{◌∙◌, sym}
use Rattle.std.proofs.lemmas.Result.{err_from_is_err_and}
use Rattle.dp_join_link.specs.Reading.{source_at}
use Rattle.dp_join_link.proofs.Reading.{pings_end, pings_entry, pings_more, pings_none}
use Rattle.dp_join_link.proofs.pulling.pull_taken.Goals as goal

pub pings-init : goal.pings-init
pings-init g c =
    pings_none (source_at g.R.Source.left g.R.Source.faults c.args.reader.now c.args.rx.now)
    c.requires

pub returns-in_err-entry-clause-err : goal.returns-in_err-entry-clause-err
returns-in_err-entry-clause-err g c =
    let p = err_from_is_err_and c.from_residual.result c.from_residual.ensures.1 in
    rw (p.1, p.2) (pings_end
    (source_at g.R.Source.left g.R.Source.faults c.args.reader.now c.args.rx.now)
    (source_at g.R.Source.left g.R.Source.faults c.pings.reader c.pings.rx)
    (source_at g.R.Source.left g.R.Source.faults c.pull.new.reader c.pull.new.rx) c.pings.invariant
    c.in_err-entry.field-0.0 c.in_err-entry.ensures.err)

pub returns-then-not-is_ping-clause-ok : goal.returns-then-not-is_ping-clause-ok
returns-then-not-is_ping-clause-ok g c =
    pings_entry (source_at g.R.Source.left g.R.Source.faults c.args.reader.now c.args.rx.now)
    (source_at g.R.Source.left g.R.Source.faults c.pings.reader c.pings.rx)
    (source_at g.R.Source.left g.R.Source.faults c.pull.new.reader c.pull.new.rx) c.pings.invariant
    c.in_ok-entry.entry c.in_ok-entry.ensures.ok (sym c.is_ping.ensures ∙ c.if-not-is_ping.true)

pub pings-preserved : goal.pings-preserved
pings-preserved g c =
    pings_more (source_at g.R.Source.left g.R.Source.faults c.args.reader.now c.args.rx.now)
    (source_at g.R.Source.left g.R.Source.faults c.pings.reader c.pings.rx)
    (source_at g.R.Source.left g.R.Source.faults c.pull.new.reader c.pull.new.rx) c.pings.invariant
    c.in_ok-entry.entry c.in_ok-entry.ensures.ok (sym c.is_ping.ensures ∙ c.if-not-is_ping.false)
