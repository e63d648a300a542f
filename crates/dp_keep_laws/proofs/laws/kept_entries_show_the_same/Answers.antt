use Rattle.dp_keep_laws.proofs.Kept.{kept-shows, opening-same}
use Rattle.dp_keep_laws.proofs.laws.kept_entries_show_the_same.Goals as goal

pub returns-clause-boards : goal.returns-clause-boards
returns-clause-boards c = kept-shows c.others_do_not_count.ensures

pub returns-clause-openings : goal.returns-clause-openings
returns-clause-openings c = opening-same c.others_do_not_count.ensures c.openings_go_on.ensures
