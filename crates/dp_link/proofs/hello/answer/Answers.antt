use Rattle.dp_link.proofs.Steps.{memory-answers}
use Rattle.dp_link.proofs.hello.answer.Goals as goal

pub returns-in-Ok-clause-answers : goal.returns-in-Ok-clause-answers
returns-in-Ok-clause-answers g c =
    c.answer_reply.ensures.answers c.args.seat.now.view c.args.name c.in-Ok.ensures.acts

pub returns-in-Err-clause-answers : goal.returns-in-Err-clause-answers
returns-in-Err-clause-answers g c =
    memory-answers c.args.seat.now.view c.open.new.seat.view (g.S.Sink.held c.args.tx.now)
    c.args.name c.in-Err.error c.in-Err.ensures.acts
