use Rattle.dp_joiner.proofs.Welcoming.{begun_first, hello_cut}
use Rattle.dp_joiner.proofs.greeting.greet.Goals as goal

pub returns-in-Err-clause-err : goal.returns-in-Err-clause-err
returns-in-Err-clause-err g c =
    hello_cut c.args.name.now (g.R.Source.left c.args.rx.now)
    (g.S.Sink.held c.args.tx.now) (g.S.Sink.held c.say_hello.new.tx)
    (g.R.Source.faults c.args.rx.now) (g.S.Sink.faults c.args.tx.now)
    (g.S.Sink.faults c.say_hello.new.tx) c.in-Err.stop
    c.in-Err.ensures.prefix c.in-Err.ensures.fault

pub welcomed-requires-clause-begun : goal.welcomed-requires-clause-begun
welcomed-requires-clause-begun g c =
    begun_first (g.R.Source.left c.args.rx.now) (g.R.Source.faults c.args.rx.now)
    c.new-reader.result c.new-reader.ensures.begun
