use Rattle.std.proofs.Common.{arith, ap, subst, length, ◌≡◌, ◌+◌, ℕ}
use Rattle.dp_entries.specs.declared.ends.ReadEnd.TheVariants.{Truncated}
use Rattle.dp_entries.specs.Reader.{Reader}
use Rattle.dp_entries.specs.Reading.{EndsReading}
use Rattle.dp_entries.proofs.Reading.{ends_done, ends_inside}
use Rattle.dp_entries.proofs.Onward.{on_done}
use Rattle.dp_entries.proofs.reader.EntryReader.check_end.Goals as goal

pub returns-then-rest_len-eq0-clause-done : goal.returns-then-rest_len-eq0-clause-done
returns-then-rest_len-eq0-clause-done g c = λ bytes left entries end h.
    let none = ap (λ (r : Reader). length r.stream.held) c.self.view_is in
    ends_done g.S.Standing.may_stand bytes left entries c.args.self.now
    c.requires.none c.requires.not_over end (omega (arith, none)) h

pub returns-else-rest_len-eq0-clause-ends : goal.returns-else-rest_len-eq0-clause-ends
returns-else-rest_len-eq0-clause-ends g c = λ bytes left entries end h.
    let some = ap (λ (r : Reader). length r.stream.held) c.self.view_is in
    let place = ap (λ (r : Reader). r.first + r.stream.at) c.self.view_is in
    let at : c.args.self.now.first + c.args.self.now.stream.at ≡ c.self.inside.first + c.at.result =
    omega (arith, place, c.at.ensures.value) in
    subst (λ (n : ℕ). EndsReading g.S.Standing.may_stand g.S.Standing.is_cause
    c.args.self.now.first c.args.self.now.limit bytes left entries (Truncated n)) at
    (ends_inside g.S.Standing.may_stand g.S.Standing.is_cause bytes left entries c.args.self.now
    c.requires.none c.requires.not_over end (omega (arith, some)) h)

pub returns-then-rest_len-eq0-clause-goes_to_end : goal.returns-then-rest_len-eq0-clause-goes_to_end
returns-then-rest_len-eq0-clause-goes_to_end g c = λ source left start entries h.
    on_done h c.requires.none c.requires.not_over

pub returns-else-rest_len-eq0-clause-stops : goal.returns-else-rest_len-eq0-clause-stops
returns-else-rest_len-eq0-clause-stops g c = λ source left start entries h.
    on_done h c.requires.none c.requires.not_over
