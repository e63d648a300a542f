-- The replay of a history: the commands that are drawn after undo and redo, on an empty board.
use Rattle.std.specs.Prelude.{ℕ, ◌==◌, Bool, true, false, List, map, if◌then◌else◌}
use Rattle.std.specs.List.{after_last}
use Rattle.dp_msg_draw.specs.declared.draw.Draw.{Draw}
use Rattle.dp_msg_meta.specs.declared.message.Meta.{Meta}
use Rattle.dp_msg_meta.specs.declared.message.Meta.TheVariants.{UndoDepth}
use Rattle.dp_messages.specs.declared.message.Msg.{Msg}
use Rattle.dp_messages.specs.declared.message.Msg.TheVariants as msg
use Rattle.dp_messages.specs.declared.message.Entry.{Entry}
use Rattle.dp_messages.specs.Properties.{is_reset_mark}
use Rattle.dp_board.specs.declared.act.Act.{Act}
use Rattle.dp_board.specs.declared.act.Act.TheVariants as act
use Rattle.dp_board.specs.declared.act.UserAct.{UserAct}
use Rattle.dp_board.specs.Laws.{depth_after}
use Rattle.dp_board.specs.Replay as strokes
use Rattle.dp_plain.specs.Board.{Board, empty_board}
use Rattle.dp_plain.specs.Commands.{draw}

-- the user whose group an undo or a redo moves: the target, or the sender if it is 0
abbrev pub moved_user : ℕ → ℕ → ℕ
moved_user sender target = if target == 0 then sender else target

-- what a message on the session does to strokes: that of the undo depth sets the depth
abbrev pub act_of_meta : {Op : Type 0} → Meta → Act Op
act_of_meta (UndoDepth depth) = act.Depth depth
act_of_meta m = act.Other

-- what a message of a sender does to strokes
abbrev pub act_of_message : ℕ → Msg → Act Draw
act_of_message sender msg.Point = act.Point
act_of_message sender (msg.Undo target false) = act.Undo (moved_user sender target)
act_of_message sender (msg.Undo target true) = act.Redo (moved_user sender target)
act_of_message sender (msg.Draw command) = act.Draw command
act_of_message sender (msg.Control m) = act.Other
act_of_message sender (msg.Meta m) = act_of_meta m
act_of_message sender (msg.Part command) = act.Other
act_of_message sender (msg.Opaque kind body) = act.Other

-- what an entry does to strokes
abbrev pub act_of : Entry → Act Draw
act_of entry = act_of_message entry.user entry.msg

-- what an entry does to strokes, with the user who sent it
abbrev pub user_act_of : Entry → UserAct Draw
user_act_of entry = record { user = entry.user; act = act_of entry }

-- how many of the last points undo and redo reach at the start of a history
abbrev pub undo_depth : ℕ
undo_depth = 30

-- the depth in force after a history: the last that was set, or that of the start
abbrev pub depth_in_force : List Entry → ℕ
depth_in_force entries = depth_after undo_depth (map user_act_of entries)

-- the commands of entries that are drawn at their end, in their order, from a board of any kind and
-- a depth on
abbrev pub replay_from : {B : Type 0} → (B → Draw → B) → B → ℕ → List Entry → B
replay_from draw board depth entries = strokes.replay draw board depth (map user_act_of entries)

-- those of a history, from a blank board on
abbrev pub replay_on : {B : Type 0} → (B → Draw → B) → B → List Entry → B
replay_on draw blank entries = replay_from draw blank undo_depth entries

-- these commands on an empty board
abbrev pub replay : List Entry → Board
replay = replay_on draw empty_board

-- the entry is a mark, which begins an epoch
abbrev pub is_mark : Entry → Bool
is_mark entry = is_reset_mark entry.msg

-- what a history shows on a board of any kind: the replay of its entries after the last mark, of
-- all if there is none
abbrev pub shown_on : {B : Type 0} → (B → Draw → B) → B → List Entry → B
shown_on draw blank entries = replay_on draw blank (after_last is_mark entries)

-- what a history shows
abbrev pub shown : List Entry → Board
shown = shown_on draw empty_board

-- the message is a command
abbrev pub is_command : Msg → Bool
is_command (msg.Draw command) = true
is_command m = false
