use Rattle.dp_keep_laws.proofs.Kept.{keeping-same, keeping-more}
use Rattle.dp_keep_laws.proofs.laws.keeping_shows_the_same.Goals as goal

pub returns-clause-same : goal.returns-clause-same
returns-clause-same c = keeping-same c.kept_entries_show_the_same.ensures.openings

pub returns-clause-more : goal.returns-clause-more
returns-clause-more c = keeping-more c.kept_entries_show_the_same.ensures.openings
