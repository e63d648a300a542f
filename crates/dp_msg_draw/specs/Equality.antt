-- Whether two drawing messages are equal, as a test.
use Rattle.std.specs.Prelude.{Bool}
use Rattle.dp_msg_draw.specs.declared.draw.Draw.{Draw}
use Rattle.dp_msg_draw.specs.contracts.draw.DrawPartialEq.TheImpl as derived

-- the messages are of one kind, and their fields compare as equal
abbrev pub same_draw : Draw → Draw → Bool
same_draw a b = derived.ghosts.eq a b
