-- Rectangles that move.
use Rattle.std.specs.Prelude.{ℕ}
use Rattle.dp_msg_draw.specs.declared.draw.Draw.{Draw}
use Rattle.dp_msg_draw.specs.declared.draw.Draw.TheVariants.{MoveRect}
use Rattle.dp_shift.specs.declared.movement.Movement.{Movement}

-- the command that moves it on a layer
abbrev pub move_of : ℕ → Movement → Draw
move_of layer m = MoveRect layer m.sx m.sy m.w m.h m.tx m.ty
