-- What a drill prints.
use Rattle.std.specs.Prelude.{ℕ, ◌+◌, ◌≤◌, List, ◌++◌, codes, decimal, length, map, sum_by}
use Rattle.dp_blend.specs.Canvas.{below}
use Rattle.dp_blend.specs.Color.{Channels, to8}
use Rattle.dp_board.specs.Commands.{drawn_commands}
use Rattle.dp_epochs.specs.Past.{state_of}
use Rattle.dp_messages.specs.declared.message.Entry.{Entry}
use Rattle.dp_msg_draw.specs.declared.draw.Draw.{Draw}
use Rattle.dp_plain.specs.Board.{Board}
use Rattle.dp_plain.specs.Picture.{picture, seen}
use Rattle.dp_replay.specs.Replay.{replay, undo_depth, user_act_of}
use Rattle.dp_sim.specs.World.{world_after}
use Rattle.dp_drill.specs.Schedule.{drill_actions}
use Rattle.dp_drill.specs.declared.summary.Sums.{Sums}

-- the history that the session has after a drill
abbrev pub drill_history : ℕ → ℕ → List Entry
drill_history seed count = (state_of (world_after (drill_actions seed count)).past).live

-- the commands that are drawn of it, each once
abbrev pub drill_due : ℕ → ℕ → List Draw
drill_due seed count = drawn_commands undo_depth (map user_act_of (drill_history seed count))

-- the sums of the bytes of each colour over a picture
abbrev pub sums_of : List Channels → Sums
sums_of pixels = record {
  red = sum_by (λ p. to8 p.r) pixels;
  green = sum_by (λ p. to8 p.g) pixels;
  blue = sum_by (λ p. to8 p.b) pixels;
}

-- the sums of two pictures together
abbrev pub plus : Sums → Sums → Sums
plus a b = record { red = a.red + b.red; green = a.green + b.green; blue = a.blue + b.blue }

-- each sum is at most this
pub record AreAtMost (most : ℕ) (s : Sums) : Type 0 where
  pub red : s.red ≤ most
  pub green : s.green ≤ most
  pub blue : s.blue ≤ most

-- a row of the picture of a board
abbrev pub picture_row : Board → ℕ → List Channels
picture_row board y = map (λ x. seen board x y) (below board.width)

-- the lines of a drill's number and count of rounds, of the history's length, and of the sums
abbrev pub summary : ℕ → ℕ → ℕ → Sums → List ℕ
summary seed count entries sums =
    codes "drill " ++ decimal seed ++ codes " " ++ decimal count
    ++ codes "\nentries " ++ decimal entries
    ++ codes "\nred " ++ decimal sums.red ++ codes " green " ++ decimal sums.green
    ++ codes " blue " ++ decimal sums.blue ++ codes "\n"

-- what a drill prints, of whatever number of workers
unfoldable pub drill_text : ℕ → ℕ → List ℕ
drill_text seed count =
    let history = drill_history seed count in
    summary seed count (length history) (sums_of (picture (replay history)))
