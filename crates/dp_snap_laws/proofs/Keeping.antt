-- What a history replays to is a board, and has pixels if its messages have a spelling.
use Rattle.std.proofs.Common.{arith, ℕ, Bool, true, false, List, [], ◌∷◌, map}
use Rattle.std.specs.Prelude.{All}
use Rattle.std.specs.Option.{ForSome}
use Rattle.std.specs.List.{fold}
use Rattle.std.proofs.lemmas.List.Elements.{All-nil, All-cons, All-head, All-tail, All-append}
use Rattle.dp_blend.specs.Color.{Channels, IsPixel}
use Rattle.dp_board.specs.Commands.{command_of, commands}
use Rattle.dp_msg_meta.specs.declared.message.Meta.{Meta}
use Rattle.dp_msg_meta.specs.declared.message.Meta.TheVariants.{UndoDepth}
use Rattle.dp_messages.specs.declared.message.Entry.{Entry}
use Rattle.dp_messages.specs.declared.message.Msg.{Msg}
use Rattle.dp_messages.specs.declared.message.Msg.TheVariants as msg
use Rattle.dp_messages.specs.Messages.{HasSpelling}
use Rattle.dp_msg_draw.specs.declared.draw.Draw.{Draw}
use Rattle.dp_msg_draw.specs.Payloads.{DrawHasSpelling}
use Rattle.dp_layers.specs.Rows.{Row}
use Rattle.dp_layers.specs.Tree.{IsTree}
use Rattle.dp_plain.specs.Board.{Board, Covers, HasPixels, IsBoard, empty_board}
use Rattle.dp_plain.specs.Commands.{draw}
use Rattle.dp_replay.specs.Replay.{act_of_meta, act_of_message, user_act_of}

-- a message on the session has no command
meta_spelled : (m : Meta) (flag : Bool)
    → All DrawHasSpelling (command_of (act_of_meta {Op = Draw} m) flag)
meta_spelled (UndoDepth depth) flag = All-nil DrawHasSpelling
meta_spelled m flag = All-nil DrawHasSpelling

-- a command that is drawn is that of a message
command_spelled : (user : ℕ) (m : Msg) (flag : Bool) → HasSpelling m
    → All DrawHasSpelling (command_of (act_of_message user m) flag)
command_spelled user (msg.Draw command) true spelled =
    All-cons DrawHasSpelling command [] spelled (All-nil DrawHasSpelling)
command_spelled user (msg.Draw command) false spelled = All-nil DrawHasSpelling
command_spelled user msg.Point flag spelled = All-nil DrawHasSpelling
command_spelled user (msg.Undo target true) flag spelled = All-nil DrawHasSpelling
command_spelled user (msg.Undo target false) flag spelled = All-nil DrawHasSpelling
command_spelled user (msg.Control m) flag spelled = All-nil DrawHasSpelling
command_spelled user (msg.Meta m) flag spelled = meta_spelled m flag
command_spelled user (msg.Part command) flag spelled = All-nil DrawHasSpelling
command_spelled user (msg.Opaque kind body) flag spelled = All-nil DrawHasSpelling

pub commands_spelled : (entries : List Entry) (flags : List Bool)
    → All (λ (e : Entry). HasSpelling e.msg) entries
    → All DrawHasSpelling (commands (map user_act_of entries) flags)
commands_spelled [] flags each = All-nil DrawHasSpelling
commands_spelled (e ∷ entries) [] each = All-nil DrawHasSpelling
commands_spelled (e ∷ entries) (flag ∷ flags) each =
    let P : Entry → Type 0 = λ x. HasSpelling x.msg in
    All-append DrawHasSpelling (command_of (act_of_message e.user e.msg) flag)
    (commands (map user_act_of entries) flags)
    (command_spelled e.user e.msg flag (All-head P e entries each))
    (commands_spelled entries flags (All-tail P e entries each))

module _ (law : (board : Board) (op : Draw) → DrawHasSpelling op → HasPixels board
    → HasPixels (draw board op)) where
  pub drawn_all : (ops : List Draw) (board : Board) → All DrawHasSpelling ops → HasPixels board
      → HasPixels (fold draw board ops)
  drawn_all [] board each has = has
  drawn_all (op ∷ ops) board each has =
      drawn_all ops (draw board op) (All-tail DrawHasSpelling op ops each)
      (law board op (All-head DrawHasSpelling op ops each) has)

pub empty_has : HasPixels empty_board
empty_has = All-nil (λ (row : Row (List Channels)). ForSome row.content (All IsPixel))

-- ---- boards

module _ (law : (board : Board) (op : Draw) → IsBoard board → IsBoard (draw board op)) where
  pub boards_all : (ops : List Draw) (board : Board) → IsBoard board
      → IsBoard (fold draw board ops)
  boards_all [] board whole = whole
  boards_all (op ∷ ops) board whole = boards_all ops (draw board op) (law board op whole)

pub empty_whole : IsTree {X = List Channels} [] → IsBoard empty_board
empty_whole tree = record {
  width = omega arith;
  height = omega arith;
  both = ((λ e. e), (λ e. e));
  tree = tree;
  each = All-nil (Covers 0 0);
}
