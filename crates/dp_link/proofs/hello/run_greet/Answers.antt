use Rattle.dp_link.proofs.Steps.{unnamed-greets, named-greets}
use Rattle.dp_link.proofs.hello.run_greet.Goals as goal

pub returns-in-Ok-clause-greets : goal.returns-in-Ok-clause-greets
returns-in-Ok-clause-greets g c =
    named-greets _ _ _ _ _ _ c.read_name.new.split c.in-Ok.name _ _ c.in-Ok.ensures.reads
    c.answer.ensures.answers

pub returns-in-Err-clause-greets : goal.returns-in-Err-clause-greets
returns-in-Err-clause-greets g c =
    unnamed-greets _ _ _ _ c.read_name.new.split c.in-Err.end
    (c.calls_add_up.ensures.none c.args.seat.now.view) c.in-Err.ensures.reads
