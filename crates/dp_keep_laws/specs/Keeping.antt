-- Histories that may be cut at a place, and resets that keep what comes after it.
use Rattle.std.specs.Prelude.{◌≡◌, ℕ, Bool, true, false, Some, List, ◌++◌, map, take, drop}
use Rattle.std.specs.List.{AllByRecursion}
use Rattle.dp_msg_meta.specs.declared.message.Control.TheVariants.{ResetEnd}
use Rattle.dp_msg_meta.specs.declared.message.Meta.TheVariants.{UndoDepth}
use Rattle.dp_messages.specs.declared.message.Msg.{Msg}
use Rattle.dp_messages.specs.declared.message.Msg.TheVariants as msg
use Rattle.dp_messages.specs.declared.message.Entry.{Entry}
use Rattle.dp_board.specs.Laws.{HasNoDepth}
use Rattle.dp_plain.specs.Board.{empty_board}
use Rattle.dp_plain.specs.Commands.{draw_all}
use Rattle.dp_replay.specs.Replay.{undo_depth, replay, user_act_of}
use Rattle.dp_epochs.specs.declared.connection.Connection.{Connection}
use Rattle.dp_epochs.specs.declared.decision.Decision.TheVariants.{OpenEpoch}
use Rattle.dp_epochs.specs.State.{State, Stream, open_connection, decided}
use Rattle.dp_keep_laws.specs.Suffixes.{StandAlone}

-- A history that is followed by more may be cut at this place: of what comes after the place no
-- Undo or Redo moves a group that was opened before it, and the history sets no depth there.
pub record MayBeCut (place : ℕ) (history more : List Entry) : Type 0 where
  pub moves : StandAlone undo_depth (map user_act_of (take place history))
      (map user_act_of (drop place history ++ more))
  pub depths : HasNoDepth (map user_act_of (drop place history))

-- the message is no undo, no redo, and sets no depth of undo
abbrev pub undoes_nothing : Msg → Bool
undoes_nothing (msg.Undo target redo) = false
undoes_nothing (msg.Meta (UndoDepth depth)) = false
undoes_nothing m = true

-- each of the entries has such a message
abbrev pub UndoNothing : List Entry → Type 0
UndoNothing entries = AllByRecursion (λ e. undoes_nothing e.msg ≡ true) entries

-- the message that ends a reset
abbrev pub reset_end : Msg
reset_end = msg.Control ResetEnd

-- By the end of a reset that the connection of this number says, the next epoch opens. The reset
-- keeps entries from the place on, and its commands draw what the live history showed there.
pub record EndsKeeping (s : State) (conn place : ℕ) : Type 0 where
  pub connection : Connection
  pub is_open : open_connection s conn ≡ Some connection
  pub opens : decided s conn connection reset_end ≡ OpenEpoch
  pub stream : Stream
  pub sent : s.stream ≡ Some stream
  pub keeps : stream.place ≡ Some place
  pub draws : draw_all empty_board stream.commands ≡ replay (take place s.live)
