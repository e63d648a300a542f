use Rattle.std.proofs.Common.{◌≡◌, sym, subst, false, Ok, Some}
use Rattle.dp_epochs.specs.declared.event.Event.TheVariants.{Open}
use Rattle.dp_epochs.specs.declared.event.Reply.{Reply}
use Rattle.dp_link.specs.declared.ends.Greeting.{Greeting}
use Rattle.dp_link.specs.Acts.{ActsOnce, last_outcome}
use Rattle.dp_link.specs.Hello.{Answers}
use Rattle.dp_link.proofs.Steps.{welcome-fails, welcome-done, refused-answers, refused-fault}
use Rattle.dp_link.proofs.hello.answer_reply.Goals as goal

pub returns-in-Ok-clause-answers : goal.returns-in-Ok-clause-answers
returns-in-Ok-clause-answers g c = λ before name acts.
    let greeting : Greeting = record {
      conn = c.in-Opened.conn;
      user = c.in-Opened.user;
      epoch = c.in-Opened.epoch;
      at = c.in-Opened.at;
    } in
    let done = welcome-done before c.args.seat.now.view c.welcome.new.seat.view
    (g.S.Sink.held c.args.tx.now) (g.S.Sink.held c.welcome.new.tx) name greeting
    (c.calls_add_up.ensures.both before c.args.seat.now.view c.welcome.new.seat.view)
    (subst (λ (r : Reply). ActsOnce before (Open name false) (Ok r) c.args.seat.now.view)
    c.in-Opened.is acts) c.in-Ok.ensures.welcomes in
    subst (λ (r : Reply). (a : Answers before c.welcome.new.seat.view
    (g.S.Sink.held c.args.tx.now) (g.S.Sink.held c.welcome.new.tx) name (Ok greeting))
    × (last_outcome a.acts ≡ Some (Ok r))) (sym c.in-Opened.is) done

pub returns-in-Err-clause-answers : goal.returns-in-Err-clause-answers
returns-in-Err-clause-answers g c = λ before name acts.
    let greeting : Greeting = record {
      conn = c.in-Opened.conn;
      user = c.in-Opened.user;
      epoch = c.in-Opened.epoch;
      at = c.in-Opened.at;
    } in
    welcome-fails before c.args.seat.now.view c.welcome.new.seat.view
    (g.S.Sink.held c.args.tx.now) (g.S.Sink.held c.welcome.new.tx) name greeting c.in-Err.close
    (c.calls_add_up.ensures.both before c.args.seat.now.view c.welcome.new.seat.view)
    (subst (λ (r : Reply). ActsOnce before (Open name false) (Ok r) c.args.seat.now.view)
    c.in-Opened.is acts) c.in-Err.ensures.welcomes

pub returns-in_default : goal.returns-in_default
returns-in_default g c =
    let refuses = c.refuse.ensures.refuses in
    record {
      of = c.requires.of;
      answers = λ before name acts.
          refused-answers before c.args.seat.now.view (g.S.Sink.held c.args.tx.now)
          (g.S.Sink.held c.refuse.new.tx) name c.refuse.result c.args.reply acts refuses;
      fault =
          refused-fault c.refuse.result c.args.reply (g.S.Sink.held c.args.tx.now)
          (g.S.Sink.held c.refuse.new.tx) (g.S.Sink.faults c.args.tx.now)
          (g.S.Sink.faults c.refuse.new.tx) refuses c.refuse.ensures.fault;
    }
