use Rattle.std.proofs.Common.{◌≡◌, ◌+◌, ◌≤◌, length, map, drop}
use Rattle.std.specs.Prelude.{sum_by}
use Rattle.std.specs.List.{fold}
use Rattle.dp_board.specs.Commands.{commands}
use Rattle.dp_replay.specs.Replay.{user_act_of}
use Rattle.dp_plain_replay.proofs.replay.draw_flagged.Given as goal

-- what is drawn and what is left to draw is all
abbrev pub invariant-loop-k : goal.invariant-loop-k
invariant-loop-k g l =
    record {
      board : fold g.B.Board.drawn l.board
          (commands (map user_act_of (drop l.k l.entries)) (drop l.k l.flags))
          ≡ fold g.B.Board.drawn l.initial.board (commands (map user_act_of l.entries) l.flags);
      draws : l.draws + length (commands (map user_act_of (drop l.k l.entries)) (drop l.k l.flags))
          ≡ l.initial.draws + length (commands (map user_act_of l.entries) l.flags);
      draws_rise : l.initial.draws ≤ l.draws;
      tiles_rise : l.initial.tiles ≤ l.tiles;
      few_tiles : l.tiles + sum_by g.B.Board.weight
          (commands (map user_act_of (drop l.k l.entries)) (drop l.k l.flags))
          ≤ l.initial.tiles + sum_by g.B.Board.weight
          (commands (map user_act_of l.entries) l.flags);
    }
