-- How many tiles a draw makes at most.
use Rattle.std.specs.Prelude.{ℕ, ◌*◌}
use Rattle.dp_msg_draw.specs.declared.draw.Draw.{Draw}
use Rattle.dp_msg_draw.specs.declared.draw.Draw.TheVariants.{CanvasResize}
use Rattle.dp_layers.specs.Layers.{row_limit}

-- a resize makes at most `resizing` for each row, and another command at most as many as its own
-- weight
abbrev pub board_weight : ℕ → (Draw → ℕ) → Draw → ℕ
board_weight resizing weight (CanvasResize top right bottom left) = row_limit * resizing
board_weight resizing weight op = weight op
