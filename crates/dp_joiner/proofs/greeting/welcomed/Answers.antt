use Rattle.dp_join_link.specs.Reading.{source_at}
use Rattle.dp_joiner.proofs.Welcoming.{memory_stops, no_welcome, welcomes_where}
use Rattle.dp_joiner.proofs.greeting.welcomed.Goals as goal

pub returns-in-Some-clause-ok : goal.returns-in-Some-clause-ok
returns-in-Some-clause-ok g c =
    welcomes_where c.client_of.result (g.R.Source.left c.args.rx.now)
    (source_at g.R.Source.left g.R.Source.faults c.args.reader.now c.args.rx.now)
    (source_at g.R.Source.left g.R.Source.faults c.pull.new.reader c.pull.new.rx)
    c.in_ok-first.first c.in-Some.welcome.user c.in-Some.welcome.epoch c.in-Some.welcome.at
    c.requires.begun c.in_ok-first.ensures.ok c.in-Some.ensures.some c.client_of.ensures.ok

pub returns-in-Some-clause-err : goal.returns-in-Some-clause-err
returns-in-Some-clause-err g c =
    memory_stops c.client_of.result (g.R.Source.left c.args.rx.now)
    (source_at g.R.Source.left g.R.Source.faults c.args.reader.now c.args.rx.now)
    (source_at g.R.Source.left g.R.Source.faults c.pull.new.reader c.pull.new.rx) _
    c.in_ok-first.ensures.ok c.client_of.ensures.memory

pub returns-in-None-clause-err : goal.returns-in-None-clause-err
returns-in-None-clause-err g c =
    no_welcome (g.R.Source.left c.args.rx.now)
    (source_at g.R.Source.left g.R.Source.faults c.args.reader.now c.args.rx.now)
    (source_at g.R.Source.left g.R.Source.faults c.pull.new.reader c.pull.new.rx)
    c.in_ok-first.first c.requires.begun c.in_ok-first.ensures.ok
    c.in-None.ensures.none c.in-None.ensures.other
