use Rattle.dp_client.proofs.Few.{still_counts}
use Rattle.dp_client.proofs.client.Client.take_first.Goals as goal

pub returns-clause-counts : goal.returns-clause-counts
returns-clause-counts g c =
    still_counts g.B.Board.weight _ _ _ _ g.B.Board.are_apart c.args.self.now c.args.entry.now
    c.requires.mark c.take_as.ensures.counts
