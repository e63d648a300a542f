use Rattle.std.proofs.Common.{◌≡◌, ◌≤◌, ◌<◌, ℕ, [], length, take, ap, sym, ◌∙◌, arith}
use Rattle.std.proofs.Common.{Bool, false, IsTrue}
use Rattle.std.proofs.lemmas.Bool.{false≢true}
use Rattle.std.proofs.lemmas.List.{length-take}
use Rattle.dp_entries.specs.Reader.{Reader}
use Rattle.dp_entries.proofs.Reading.{reads_nothing, ends_fault, ends_long}
use Rattle.dp_entries.proofs.Onward.{few_held, few_more, on_lost}
use Rattle.dp_entries.proofs.Onward.{on_done, on_kept, on_long, on_nothing}
use Rattle.dp_entries.proofs.reader.EntryReader.read_piece.Goals as goal

not_over : {b over : Bool} → b ≡ false → b ≡ over → ¬ IsTrue over
not_over off is on = false≢true (sym off ∙ is ∙ on)

pub returns-then-self-clause-ends : goal.returns-then-self-clause-ends
returns-then-self-clause-ends g c = λ bytes entries h.
    ends_long g.S.Standing.may_stand g.S.Standing.is_cause bytes
    (g.I.Source.left c.args.input.now) entries c.args.self.now
    c.requires.none (rw (← c.self.view_is) c.if-self.true) h

pub returns-in-Err-clause-ends : goal.returns-in-Err-clause-ends
returns-in-Err-clause-ends g c = λ bytes entries h.
    ends_fault g.S.Standing.may_stand g.S.Standing.is_cause bytes
    (g.I.Source.left c.args.input.now) (g.I.Source.left c.read.new.self) entries c.args.self.now
    c.requires.none (not_over c.if-self.false (ap (λ (r : Reader). r.over) c.self.view_is))
    c.in-Err.ensures.bytes h

pub returns-then-count-eq0-clause-read : goal.returns-then-count-eq0-clause-read
returns-then-count-eq0-clause-read g c = λ bytes entries h.
    let none : take c.in-Ok.count c.read.new.buf ≡ [] =
    ap (λ (n : ℕ). take n c.read.new.buf) c.if-count-eq0.true in
    reads_nothing g.S.Standing.may_stand bytes
    (g.I.Source.left c.args.input.now) (g.I.Source.left c.read.new.self) entries c.args.self.now
    (take c.in-Ok.count c.read.new.buf) none
    (not_over c.if-self.false (ap (λ (r : Reader). r.over) c.self.view_is))
    c.in-Ok.ensures.bytes.0 h

pub returns-then-count-eq0-clause-at_end : goal.returns-then-count-eq0-clause-at_end
returns-then-count-eq0-clause-at_end g c = λ no.
    let some : 0 < length c.read.new.buf = omega arith in
    c.in-Ok.ensures.bytes.1 c.if-count-eq0.true some

pub returns-in-Ok-push-clause-read : goal.returns-in-Ok-push-clause-read
returns-in-Ok-push-clause-read g c = λ bytes entries h.
    let chunk = take c.in-Ok.count c.read.new.buf in
    let few : length chunk ≤ 4096 =
    omega (arith, length-take c.in-Ok.count c.read.new.buf, c.in-Ok.ensures.bound) in
    c.in-Ok-push.ensures.read bytes (g.I.Source.left c.args.input.now)
    (g.I.Source.left c.read.new.self) entries few c.in-Ok.ensures.bytes.0 h

pub returns-in-Ok-push-clause-further : goal.returns-in-Ok-push-clause-further
returns-in-Ok-push-clause-further g c = λ yes.
    c.in-Ok-push.ensures.further
    (omega (arith, length-take c.in-Ok.count c.read.new.buf, c.in-Ok.ensures.bound))

pub returns-then-self-clause-few : goal.returns-then-self-clause-few
returns-then-self-clause-few g c = λ small.
    few_held c.args.self.now.stream.at c.args.self.now.stream.held small c.requires.none

pub returns-in-Err-clause-few : goal.returns-in-Err-clause-few
returns-in-Err-clause-few g c = λ small.
    few_held c.args.self.now.stream.at c.args.self.now.stream.held small c.requires.none

pub returns-then-count-eq0-clause-few : goal.returns-then-count-eq0-clause-few
returns-then-count-eq0-clause-few g c = λ small.
    few_held c.args.self.now.stream.at c.args.self.now.stream.held small c.requires.none

pub returns-in-Ok-push-clause-few : goal.returns-in-Ok-push-clause-few
returns-in-Ok-push-clause-few g c =
    few_more (length (take c.in-Ok.count c.read.new.buf)) c.args.self.now.stream
    c.push.new.self.stream c.requires.none c.push.ensures.more
    (omega (arith, length-take c.in-Ok.count c.read.new.buf, c.in-Ok.ensures.bound))
    c.push.ensures.place.at

pub returns-in-Err-push-clause-few : goal.returns-in-Err-push-clause-few
returns-in-Err-push-clause-few g c =
    few_more (length (take c.in-Ok.count c.read.new.buf)) c.args.self.now.stream
    c.push.new.self.stream c.requires.none c.push.ensures.more
    (omega (arith, length-take c.in-Ok.count c.read.new.buf, c.in-Ok.ensures.bound))
    c.push.ensures.place.at

pub returns-in-Err-push-clause-stops : goal.returns-in-Err-push-clause-stops
returns-in-Err-push-clause-stops g c = λ source start entries h.
    on_lost h g.S.Standing.is_cause (g.I.Source.left c.read.new.self)
    (take c.in-Ok.count c.read.new.buf) c.push.new.self.stream.held
    (not_over c.if-self.false (ap (λ (r : Reader). r.over) c.self.view_is))
    c.in-Ok.ensures.bytes.0

pub returns-then-self-clause-stops : goal.returns-then-self-clause-stops
returns-then-self-clause-stops g c = λ source start entries h.
    on_long h g.S.Standing.is_cause c.requires.none (rw (← c.self.view_is) c.if-self.true)

pub returns-in-Err-clause-stops : goal.returns-in-Err-clause-stops
returns-in-Err-clause-stops g c = λ source start entries h.
    on_done (on_kept h (g.I.Source.left c.read.new.self) c.in-Err.ensures.bytes) c.requires.none
    (not_over c.if-self.false (ap (λ (r : Reader). r.over) c.self.view_is))

pub returns-then-count-eq0-clause-goes_on : goal.returns-then-count-eq0-clause-goes_on
returns-then-count-eq0-clause-goes_on g c = λ source start entries h.
    let none : take c.in-Ok.count c.read.new.buf ≡ [] =
    ap (λ (n : ℕ). take n c.read.new.buf) c.if-count-eq0.true in
    on_nothing h (g.I.Source.left c.read.new.self) (take c.in-Ok.count c.read.new.buf) none
    c.in-Ok.ensures.bytes.0
