use Rattle.std.proofs.Common.{◌≡◌, ◌∙◌, ap, subst, Err}
use Rattle.dp_link.specs.Hello.{Greets, FaultMatchesHello}
use Rattle.dp_link.specs.declared.ends.Greeting.{Greeting}
use Rattle.dp_link.specs.Acts.{last_outcome}
use Rattle.dp_link_run.specs.Links.{link_seen}
use Rattle.dp_link_run.proofs.LinkLemmas.{served-link, refused-link}
use Rattle.dp_link_run.proofs.link.serve_link.Goals as goal

pub talk-requires-clause-opened : goal.talk-requires-clause-opened
talk-requires-clause-opened g c κs within =
    c.greetings_are_seen.ensures.greeted c.args.seat.now.view
    (g.R.Source.left c.args.rx) (g.R.Source.left c.run_greet-end.new.rx)
    (g.S.Sink.held c.args.tx) (g.S.Sink.held c.run_greet-end.new.tx)
    c.run_greet-end.new.split c.in-Ok.greeting
    (subst (λ r. Greets c.args.seat.now.view c.run_greet-end.new.seat.view
    (g.R.Source.left c.args.rx) (g.R.Source.left c.run_greet-end.new.rx)
    (g.S.Sink.held c.args.tx) (g.S.Sink.held c.run_greet-end.new.tx)
    c.run_greet-end.new.split r) c.in-Ok.is c.run_greet-end.ensures.greets.0)

pub returns-in-Ok-clause-serves : goal.returns-in-Ok-clause-serves
returns-in-Ok-clause-serves g c =
    let u = c.args.seat.now.view in
    let v = c.run_greet-end.new.seat.view in
    let see = link_seen g.R.Source.left g.R.Source.faults g.S.Sink.held g.S.Sink.faults in
    let greets = subst (λ r. Greets u v
    (g.R.Source.left c.args.rx) (g.R.Source.left c.run_greet-end.new.rx)
    (g.S.Sink.held c.args.tx) (g.S.Sink.held c.run_greet-end.new.tx)
    c.run_greet-end.new.split r) c.in-Ok.is c.run_greet-end.ensures.greets.0 in
    let fault = subst (λ r. FaultMatchesHello {T = Greeting} r (g.R.Source.faults c.args.rx)
    (g.R.Source.faults c.run_greet-end.new.rx) (g.S.Sink.faults c.args.tx)
    (g.S.Sink.faults c.run_greet-end.new.tx)) c.in-Ok.is c.run_greet-end.ensures.fault in
    served-link _ u v c.talk.new.seat.view (see (c.args.rx, c.args.tx))
    (see (c.run_greet-end.new.rx, c.run_greet-end.new.tx))
    (see (c.talk.result.rx, c.talk.result.tx)) c.run_greet-end.new.split c.in-Ok.greeting
    c.talk.result.end
    (λ out back. c.seats_come_back.ensures.calls u v greets.acts out back greets.goes)
    greets fault c.talk.ensures.talks

pub returns-in-Err-clause-serves : goal.returns-in-Err-clause-serves
returns-in-Err-clause-serves g c =
    let u = c.args.seat.now.view in
    let v = c.run_greet-end.new.seat.view in
    let see = link_seen g.R.Source.left g.R.Source.faults g.S.Sink.held g.S.Sink.faults in
    let greets = subst (λ r. (h : Greets u v
    (g.R.Source.left c.args.rx) (g.R.Source.left c.run_greet-end.new.rx)
    (g.S.Sink.held c.args.tx) (g.S.Sink.held c.run_greet-end.new.tx)
    c.run_greet-end.new.split r) × (last_outcome h.acts ≡ c.run_greet-end.result.last))
    c.in-Err.is c.run_greet-end.ensures.greets in
    let fault = subst (λ r. FaultMatchesHello {T = Greeting} r (g.R.Source.faults c.args.rx)
    (g.R.Source.faults c.run_greet-end.new.rx) (g.S.Sink.faults c.args.tx)
    (g.S.Sink.faults c.run_greet-end.new.tx)) c.in-Err.is c.run_greet-end.ensures.fault in
    refused-link _ u v (see (c.args.rx, c.args.tx))
    (see (c.run_greet-end.new.rx, c.run_greet-end.new.tx)) c.run_greet-end.new.split
    c.in-Err.end c.run_greet-end.result.last c.refused-end.result
    (λ out back. c.seats_come_back.ensures.calls u v greets.0.acts out back greets.0.goes)
    greets fault (λ e. c.run_greet-end.ensures.at_end (c.in-Err.is ∙ ap (λ x. Err x) e))
    c.refused-end.ensures.conn c.refused-end.ensures.ends.0 c.refused-end.ensures.ends.1
    c.refused-end.ensures.memory c.refused-end.ensures.store
