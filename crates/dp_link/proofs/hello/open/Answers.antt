use Rattle.std.proofs.Common.{Ok, Err, false, List, ℕ}
use Rattle.std.specs.Prelude.{IfOk}
use Rattle.dp_epochs.specs.declared.event.Event.TheVariants.{Open}
use Rattle.dp_epochs.specs.Past.{Past, Step}
use Rattle.dp_session_laws.specs.Logs.{ReplyOrMemory}
use Rattle.dp_link.specs.Answers.{OpensWith}
use Rattle.dp_link.proofs.Steps.{opens-with}
use Rattle.dp_link.proofs.hello.open.Goals as goal

by_outcome : (name : List ℕ) (outcome : ReplyOrMemory)
    → ((old new : Past) × Step old (Open name false) outcome new) → IfOk outcome OpensWith
by_outcome name (Ok answer) step = opens-with name false answer step
by_outcome name (Err error) step = tt

pub returns-clause-answer : goal.returns-clause-answer
returns-clause-answer g c = by_outcome c.args.name c.act_once-outcome.result
    c.act_once-outcome.ensures.step
