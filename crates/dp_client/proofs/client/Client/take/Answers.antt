use Rattle.std.proofs.Common.{sym}
use Rattle.dp_client.proofs.Few.{mark_counts}
use Rattle.dp_client.proofs.client.Client.take.Goals as goal

pub returns-in-Some-clause-counts : goal.returns-in-Some-clause-counts
returns-in-Some-clause-counts g c =
    mark_counts g.B.Board.weight _ _ _ _ g.B.Board.are_apart c.args.self.now c.args.entry.now
    c.in-Some.epoch (sym c.in-Some.ensures) c.take_mark.ensures.counts
