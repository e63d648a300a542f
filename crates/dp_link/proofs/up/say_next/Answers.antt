use Rattle.std.proofs.Common.{sym, subst, ◌∙◌}
use Rattle.std.proofs.lemmas.Bool.{false≢true}
use Rattle.dp_link.specs.Saying.{FaultMatchesSay}
use Rattle.dp_link.proofs.Hearing.{so-far-filled, so-far-end, so-far-stops}
use Rattle.dp_link.proofs.Hearing.{up-ends, up-faults}
use Rattle.dp_link.proofs.up.say_next.Goals as goal

pub returns-in-Ok-true-clause-says : goal.returns-in-Ok-true-clause-says
returns-in-Ok-true-clause-says g c = λ v left start p.
    c.say_held.ensures.says v left (g.R.Source.left c.fill.new.input) start
    (so-far-filled v c.args.seat.now.view left (g.R.Source.left c.args.rx.now)
    (g.R.Source.left c.fill.new.input) start c.args.link.now c.args.speaker.now.conn p
    c.fill.new.self c.fill.ensures.place.limit
    (c.in-Ok-true.ensures.goes_on left start p.entries p.given))

pub returns-in-Ok-true-clause-at_end : goal.returns-in-Ok-true-clause-at_end
returns-in-Ok-true-clause-at_end g c = λ is. absurd (c.say_held.ensures.not_end is)

pub returns-in-Ok-true-clause-fault : goal.returns-in-Ok-true-clause-fault
returns-in-Ok-true-clause-fault g c =
    subst (λ n. FaultMatchesSay c.say_held.result n (g.R.Source.faults c.fill.new.input))
    c.in-Ok-true.ensures.kept
    (c.say_held.ensures.fault (g.R.Source.faults c.fill.new.input))

pub returns-in-Ok-false-clause-says : goal.returns-in-Ok-false-clause-says
returns-in-Ok-false-clause-says g c = λ v left start p.
    so-far-end v c.args.seat.now.view left (g.R.Source.left c.args.rx.now)
    (g.R.Source.left c.fill.new.input) start c.args.link.now c.args.speaker.now.conn p
    (c.in-Ok-false.ensures.goes_to_end
    (λ more. false≢true (sym c.in-Ok-false.field-0-test ∙ more)) left start p.entries p.given)

pub returns-in-Err-clause-says : goal.returns-in-Err-clause-says
returns-in-Err-clause-says g c = λ v left start p.
    rw c.up_end_of.ensures
    (so-far-stops v c.args.seat.now.view left (g.R.Source.left c.args.rx.now)
    (g.R.Source.left c.fill.new.input) start c.args.link.now c.args.speaker.now.conn p
    c.in-Err.end c.fill.new.self.stream.held c.one_answer.ensures.either
    (c.in-Err.ensures.stops left start p.entries p.given))

pub returns-in-Err-clause-fault : goal.returns-in-Err-clause-fault
returns-in-Err-clause-fault g c =
    rw c.up_end_of.ensures
    (up-faults c.in-Err.end (g.R.Source.faults c.args.rx.now)
    (g.R.Source.faults c.fill.new.input) c.in-Err.ensures.fault)

pub returns-in-Err-clause-at_end : goal.returns-in-Err-clause-at_end
returns-in-Err-clause-at_end g c = λ is.
    up-ends c.in-Err.end (g.R.Source.left c.fill.new.input) c.in-Err.ensures.inside
    (cc (c.up_end_of.ensures, is))
