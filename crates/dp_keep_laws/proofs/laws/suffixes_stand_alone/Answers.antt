use Rattle.dp_keep_laws.proofs.SuffixLemmas.{suffixes_stand_alone, suffixes_show_alone}
use Rattle.dp_keep_laws.proofs.laws.suffixes_stand_alone.Goals as goal

pub returns-clause-commands : goal.returns-clause-commands
returns-clause-commands g c = suffixes_stand_alone _

pub returns-clause-boards : goal.returns-clause-boards
returns-clause-boards g c = suffixes_show_alone _ _
