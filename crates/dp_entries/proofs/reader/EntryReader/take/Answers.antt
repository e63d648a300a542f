use Rattle.std.proofs.Common.{◌+◌, refl, sym, subst, drop, length}
use Rattle.dp_frame.specs.Frames.{spelling}
use Rattle.dp_split.specs.Stream.{Stream}
use Rattle.dp_entries.specs.Ends.{refused_at}
use Rattle.dp_entries.specs.Reader.{Reader, HasRead}
use Rattle.dp_entries.specs.Reading.{EndsReading}
use Rattle.dp_entries.proofs.Reading.{reads_entry, ends_stop, takes_first, refuses_first}
use Rattle.dp_entries.specs.Onward.{ReadOn, HaltsOn}
use Rattle.dp_entries.proofs.Onward.{on_takes, on_stop}
use Rattle.dp_entries.proofs.reader.EntryReader.take.Goals as goal

pub returns-in-Ok-clause-given : goal.returns-in-Ok-clause-given
returns-in-Ok-clause-given g c = λ bytes left entries h.
    let M = g.S.Standing.may_stand in
    let inside = c.self.inside in
    let taken = takes_first M inside.count inside.splitter c.drop_frame.new.self c.in-Some.frame
    c.in-Ok.entry c.in-Some.ensures.fits c.in-Some.ensures.prefix c.drop_frame.ensures.prefix
    c.in-Ok.ensures.stands in
    reads_entry M bytes left entries _ _ c.in-Ok.entry taken refl refl refl refl
    (subst (λ (r : Reader). HasRead M bytes left entries r) (sym c.self.view_is) h)

pub returns-in-Err-clause-ends : goal.returns-in-Err-clause-ends
returns-in-Err-clause-ends g c = λ bytes left entries h.
    let M = g.S.Standing.may_stand in
    let IsCause = g.S.Standing.is_cause in
    let inside = c.self.inside in
    let frame = c.in-Some.frame in
    let after : Stream = record {
      held = drop (length (spelling frame)) inside.splitter.held;
      at = inside.splitter.at + length (spelling frame);
    } in
    let bad = refuses_first IsCause inside.count inside.splitter frame c.in-Err.why
    c.in-Some.ensures.fits c.in-Some.ensures.prefix c.in-Err.ensures.refused in
    rw c.end_of_refusal.ensures
    (subst (λ (r : Reader). EndsReading M IsCause r.first r.limit bytes left entries
    (refused_at (inside.first + c.at.result) c.in-Err.why)) c.self.view_is
    (ends_stop M IsCause c.one_standing.ensures.none bytes left entries _ after c.at.result
    c.in-Err.why bad c.at.ensures.value
    (subst (λ (r : Reader). HasRead M bytes left entries r) (sym c.self.view_is) h)))

pub returns-in-Ok-clause-goes_on : goal.returns-in-Ok-clause-goes_on
returns-in-Ok-clause-goes_on g c = λ source left start entries h.
    let M = g.S.Standing.may_stand in
    let inside = c.self.inside in
    let taken = takes_first M inside.count inside.splitter c.drop_frame.new.self c.in-Some.frame
    c.in-Ok.entry c.in-Some.ensures.fits c.in-Some.ensures.prefix c.drop_frame.ensures.prefix
    c.in-Ok.ensures.stands in
    on_takes M source left start entries _ _ c.in-Ok.entry taken refl refl refl refl
    (subst (λ (r : Reader). ReadOn M source left start entries r) (sym c.self.view_is) h)

pub returns-in-Err-clause-stops : goal.returns-in-Err-clause-stops
returns-in-Err-clause-stops g c = λ source left start entries h.
    let M = g.S.Standing.may_stand in
    let IsCause = g.S.Standing.is_cause in
    let inside = c.self.inside in
    let frame = c.in-Some.frame in
    let after : Stream = record {
      held = drop (length (spelling frame)) inside.splitter.held;
      at = inside.splitter.at + length (spelling frame);
    } in
    let bad = refuses_first IsCause inside.count inside.splitter frame c.in-Err.why
    c.in-Some.ensures.fits c.in-Some.ensures.prefix c.in-Err.ensures.refused in
    let read = subst (λ (r : Reader). ReadOn M source left start entries r) (sym c.self.view_is) h
    in
    rw c.end_of_refusal.ensures
    (subst (λ (r : Reader). HaltsOn M IsCause r.limit source left start entries r.stream.held
    (refused_at (inside.first + c.at.result) c.in-Err.why)) c.self.view_is
    (on_stop read IsCause after c.at.result c.in-Err.why bad c.at.ensures.value))
