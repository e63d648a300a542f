-- What entries do to strokes, without their commands.
use Rattle.std.specs.Prelude.{⊤}
use Rattle.dp_messages.specs.declared.message.Entry.{Entry}
use Rattle.dp_board.specs.declared.act.UserAct.{UserAct}
use Rattle.dp_board.specs.Commands.{map_user_act}
use Rattle.dp_replay.specs.Replay.{user_act_of}

-- what an entry does to strokes, with nothing in place of its command
unfoldable pub kind_of_entry : Entry → UserAct ⊤
kind_of_entry entry = map_user_act (λ _. tt) (user_act_of entry)
