use Rattle.std.proofs.Common.{◌∙◌, subst, sym}
use Rattle.std.proofs.lemmas.Bool.{false≢true}
use Rattle.dp_entries.specs.Onward.{HaltsOn}
use Rattle.dp_entries.specs.Reader.{Reader}
use Rattle.dp_entries.proofs.Onward.{few_held}
use Rattle.dp_entries.proofs.reader.EntryReader.next.Goals as goal

pub returns-in-Ok-false-clause-done : goal.returns-in-Ok-false-clause-done
returns-in-Ok-false-clause-done g c = λ not_ended bytes entries h.
    c.in-Ok-false.ensures.done (λ more. false≢true (sym c.in-Ok-false.field-0-test ∙ more)) bytes
    entries h

pub returns-in-Ok-clause-given : goal.returns-in-Ok-clause-given
returns-in-Ok-clause-given g c = λ bytes entries h.
    c.in-Ok.ensures.given bytes (g.I.Source.left c.fill.new.input) entries
    (c.in-Ok-true.ensures.read bytes entries h)

pub returns-in-Err-take-clause-ends : goal.returns-in-Err-take-clause-ends
returns-in-Err-take-clause-ends g c = λ bytes entries h.
    let filled = c.in-Ok-true.ensures in
    rw (← filled.place.first, ← filled.place.limit)
    (c.in-Err-take.ensures.ends bytes (g.I.Source.left c.fill.new.input) entries
    (filled.read bytes entries h))

pub returns-then-self-clause-few : goal.returns-then-self-clause-few
returns-then-self-clause-few g c =
    few_held c.args.self.now.stream.at c.args.self.now.stream.held

pub returns-in-Err-clause-stops : goal.returns-in-Err-clause-stops
returns-in-Err-clause-stops g c = λ source start entries h.
    subst (λ (r : Reader). HaltsOn g.S.Standing.may_stand g.S.Standing.is_cause
    c.args.self.now.limit source (g.I.Source.left c.fill.new.input) start entries r.stream.held
    c.in-Err.end) (sym c.self-2.view_is) (c.in-Err.ensures.stops source start entries h)

pub returns-in-Ok-clause-goes_on : goal.returns-in-Ok-clause-goes_on
returns-in-Ok-clause-goes_on g c = λ source start entries h.
    c.in-Ok.ensures.goes_on source (g.I.Source.left c.fill.new.input) start entries
    (c.in-Ok-true.ensures.goes_on source start entries h)

pub returns-in-Err-take-clause-stops : goal.returns-in-Err-take-clause-stops
returns-in-Err-take-clause-stops g c = λ source start entries h.
    let filled = c.in-Ok-true.ensures in
    subst (λ (r : Reader). HaltsOn g.S.Standing.may_stand g.S.Standing.is_cause
    c.args.self.now.limit source (g.I.Source.left c.fill.new.input) start entries r.stream.held
    c.in-Err-take.end) (sym c.self-3.view_is)
    (rw (← filled.place.limit)
    (c.in-Err-take.ensures.stops source (g.I.Source.left c.fill.new.input) start entries
    (filled.goes_on source start entries h)))
