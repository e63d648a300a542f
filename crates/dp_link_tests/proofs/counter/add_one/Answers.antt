use Rattle.dp_link_tests.proofs.CountLemmas.{adds-more}
use Rattle.dp_link_tests.proofs.counter.add_one.Goals as goal

pub returns-clause-adds : goal.returns-clause-adds
returns-clause-adds g c v h =
    let u = c.args.seat.now.view in
    let w = c.act-outcome.new.seat.view in
    let acted = c.act-outcome.ensures.entry in
    adds-more v u w c.args.far.now.count c.note.new.far.count c.args.far.now.memory
    c.note.new.far.memory c.args.byte c.act-outcome.result acted
    (λ xs ys p q. c.calls_add_up.ensures.both v u w xs ys p q)
    (c.calls_add_up.ensures.act u w c.args.byte c.act-outcome.result acted) c.note.ensures.count
    c.note.ensures.memory h
