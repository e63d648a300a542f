use Rattle.dp_session.proofs.SessionLemmas.{ready-later, put-later, puts-follow, counts-follow}
use Rattle.dp_session.proofs.session.put.Goals as goal

pub finish-requires-clause-ready : goal.finish-requires-clause-ready
finish-requires-clause-ready g c =
    ready-later c.args.tables.now c.make_room.new.self _ c.args.event.now c.args.ready
    c.make_room.ensures.same c.requires

pub returns-clause-rows : goal.returns-clause-rows
returns-clause-rows g c =
    puts-follow _ _ c.args.ready.row c.put-outcome.result c.finish.result c.finish.ensures.same
    c.put-outcome.ensures.rows

pub returns-clause-count : goal.returns-clause-count
returns-clause-count g c =
    counts-follow _ _ c.put-outcome.result c.finish.result c.finish.ensures.same
    c.put-outcome.ensures.count

pub returns-clause-outcome : goal.returns-clause-outcome
returns-clause-outcome g c =
    put-later c.args.tables.now c.make_room.new.self c.finish.new.tables _ c.args.event.now
    c.finish.result c.make_room.ensures.same c.finish.ensures.put
