use Rattle.dp_client.proofs.Few.{other_counts}
use Rattle.dp_client.proofs.client.Client.take_other.Goals as goal

pub returns-clause-counts : goal.returns-clause-counts
returns-clause-counts g c =
    other_counts g.B.Board.weight _ _ _ _ g.B.Board.are_apart c.args.self.now c.args.entry.now
    c.own_of-own.result c.requires.other c.own_of-own.ensures.value c.take_as.ensures.counts
