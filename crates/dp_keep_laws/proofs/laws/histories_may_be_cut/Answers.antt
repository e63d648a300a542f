use Rattle.dp_keep_laws.proofs.Cuts.{cut-undone, cut-end}
use Rattle.dp_keep_laws.proofs.laws.histories_may_be_cut.Goals as goal

pub returns-clause-undone : goal.returns-clause-undone
returns-clause-undone c = λ history more place nothing. cut-undone place history more nothing

pub returns-clause-end : goal.returns-clause-end
returns-clause-end c = cut-end
