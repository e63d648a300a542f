use Rattle.std.proofs.Common.{arith, ap, length}
use Rattle.std.proofs.lemmas.Result.{err_from_is_err_and}
use Rattle.dp_joiner.specs.Steps.{Linked, seen}
use Rattle.dp_joiner.proofs.Taking.{is_read, taking_ends, taking_fails, taking_more, taking_none}
use Rattle.dp_joiner.proofs.joiner.Joiner.take.Goals as goal

pub loop-taken-init : goal.loop-taken-init
loop-taken-init g c =
    taking_none (seen g.O.Sink.held g.O.Sink.faults c.args.self.now c.args.output.now
    c.args.draws.now c.args.tiles.now) c.requires

pub next_entry-requires : goal.next_entry-requires
next_entry-requires g c = c.loop-taken.invariant.ready.readable

pub take_given-requires : goal.take_given-requires
take_given-requires g c =
    let same = ap (λ (j : Linked). length j.client.taken) c.in_ok-entry.ensures.same in
    let few = c.loop-taken.invariant.ready.few in
    let within = c.loop-taken.invariant.ready.readable.within in
    omega arith

pub loop-taken-preserved : goal.loop-taken-preserved
loop-taken-preserved g c =
    let see = seen g.O.Sink.held g.O.Sink.faults in
    let first = see c.args.self.now c.args.output.now c.args.draws.now c.args.tiles.now in
    let before = see c.loop-taken.self c.loop-taken.output c.loop-taken.draws c.loop-taken.tiles in
    let given = see c.next_entry.new.self c.loop-taken.output c.loop-taken.draws c.loop-taken.tiles
    in
    let read = is_read g.O.Sink.held g.O.Sink.faults c.loop-taken.self c.next_entry.new.self
    c.loop-taken.output c.loop-taken.draws c.loop-taken.tiles c.in_ok-entry.ensures.same in
    taking_more first before given (see c.take_given.new.self c.take_given.new.output
    c.take_given.new.draws c.take_given.new.tiles)
    c.loop-taken._taken c.in_ok-entry.entry c.loop-taken.invariant c.in_ok-entry.ensures.ok read
    c.in_ok-take_given.ensures.changes c.in_ok-take_given.ensures.taken
    c.in_ok-take_given.ensures.source

pub returns-in_err-entry : goal.returns-in_err-entry
returns-in_err-entry g c =
    let see = seen g.O.Sink.held g.O.Sink.faults in
    let first = see c.args.self.now c.args.output.now c.args.draws.now c.args.tiles.now in
    let before = see c.loop-taken.self c.loop-taken.output c.loop-taken.draws c.loop-taken.tiles in
    let given = see c.next_entry.new.self c.loop-taken.output c.loop-taken.draws c.loop-taken.tiles
    in
    let read = is_read g.O.Sink.held g.O.Sink.faults c.loop-taken.self c.next_entry.new.self
    c.loop-taken.output c.loop-taken.draws c.loop-taken.tiles c.in_err-entry.ensures.same in
    let p = err_from_is_err_and c.from_residual.result c.from_residual.ensures.1 in
    rw (p.1, p.2) (taking_ends first before given c.args.count c.loop-taken._taken
    c.in_err-entry.field-0.0 c.loop-taken-test.true c.loop-taken.invariant
    c.in_err-entry.ensures.err read)

pub returns-in_err-take_given : goal.returns-in_err-take_given
returns-in_err-take_given g c =
    let see = seen g.O.Sink.held g.O.Sink.faults in
    let first = see c.args.self.now c.args.output.now c.args.draws.now c.args.tiles.now in
    let before = see c.loop-taken.self c.loop-taken.output c.loop-taken.draws c.loop-taken.tiles in
    let given = see c.next_entry.new.self c.loop-taken.output c.loop-taken.draws c.loop-taken.tiles
    in
    let read = is_read g.O.Sink.held g.O.Sink.faults c.loop-taken.self c.next_entry.new.self
    c.loop-taken.output c.loop-taken.draws c.loop-taken.tiles c.in_ok-entry.ensures.same in
    let p = err_from_is_err_and c.from_residual-in_err-take_given.result
    c.from_residual-in_err-take_given.ensures.1 in
    rw (p.1, p.2) (taking_fails first before given
    (see c.take_given.new.self c.take_given.new.output c.take_given.new.draws
    c.take_given.new.tiles) c.args.count c.loop-taken._taken
    c.in_ok-entry.entry c.in_err-take_given.field-0.0 c.loop-taken-test.true
    c.loop-taken.invariant c.in_ok-entry.ensures.ok read c.in_err-take_given.ensures.changes)
