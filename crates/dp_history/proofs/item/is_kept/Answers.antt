use Rattle.dp_history.proofs.ItemLemmas.{part-goes, joined-stays}
use Rattle.dp_history.proofs.item.is_kept.Goals as goal

pub returns-in-Joined : goal.returns-in-Joined
returns-in-Joined c =
    joined-stays c.args.journal.now c.args.item.now _ _ c.in-Joined.is c.requires

pub returns-in-Command : goal.returns-in-Command
returns-in-Command c = part-goes c.args.journal.now c.args.item.now _ c.in-Command.is
