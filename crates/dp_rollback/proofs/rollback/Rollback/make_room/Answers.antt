use Rattle.dp_rollback.proofs.ReadyLemmas.{stands-now}
use Rattle.dp_rollback.proofs.rollback.Rollback.make_room.Goals as goal

pub returns-clause-still : goal.returns-clause-still
returns-clause-still g c =
    stands-now g.B.Board.drawn c.args.self.now c.reserve.new.self c.reserve.ensures.same
