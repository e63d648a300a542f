-- Whether two messages are equal, as a test.
use Rattle.std.specs.Prelude.{Bool}
use Rattle.dp_msg_meta.specs.declared.message.Control.{Control}
use Rattle.dp_msg_meta.specs.declared.message.Meta.{Meta}
use Rattle.dp_msg_meta.specs.contracts.message.ControlPartialEq.TheImpl as control
use Rattle.dp_msg_meta.specs.contracts.message.MetaPartialEq.TheImpl as meta

-- the control messages are of one kind, and their fields compare as equal
abbrev pub same_control : Control → Control → Bool
same_control a b = control.ghosts.eq a b

-- the meta messages are of one kind, and their fields compare as equal
abbrev pub same_meta : Meta → Meta → Bool
same_meta a b = meta.ghosts.eq a b
