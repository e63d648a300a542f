-- What a message on the session does to strokes, without a command.
use Rattle.std.proofs.Common.{◌≡◌, refl}
use Rattle.dp_msg_draw.specs.declared.draw.Draw.{Draw}
use Rattle.dp_msg_meta.specs.declared.message.Meta.{Meta}
use Rattle.dp_msg_meta.specs.declared.message.Meta.TheVariants.{UndoDepth}
use Rattle.dp_board.specs.Commands.{map_act}
use Rattle.dp_replay.specs.Replay.{act_of_meta}

-- its act is the same with nothing in place of a command
pub kind_of_meta : (m : Meta)
    → act_of_meta {Op = Unit {0}} m ≡ map_act (λ (command : Draw). tt) (act_of_meta m)
kind_of_meta (UndoDepth depth) = refl
kind_of_meta m = refl
