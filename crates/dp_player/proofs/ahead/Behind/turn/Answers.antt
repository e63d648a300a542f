use Rattle.std.proofs.Common.{map, ◌∙◌}
use Rattle.std.specs.List.{after_last}
use Rattle.dp_plain.specs.Board.{empty_board}
use Rattle.dp_replay.specs.Replay.{is_mark, undo_depth, user_act_of}
use Rattle.dp_player.proofs.Batches.{goes-marked}
use Rattle.dp_player.proofs.ahead.Behind.turn.Goals as goal

pub returns-then-marked : goal.returns-then-marked
returns-then-marked c =
    rw c.if-marked.true (goes-marked c.args.board.now c.put_board-held.new.self _
    c.replace.new.dest _ c.put_board-held.ensures.new
    (c.replace.ensures.after ∙ c.put_board-held.ensures.old) c.clear.ensures.items)

pub returns-in_ok-ready : goal.returns-in_ok-ready
returns-in_ok-ready c =
    rw c.if-marked.false (rw c.replace-else-marked.ensures.after (λ entries trails.
    c.in_ok-ready.ensures.trails c.args.self.now.board empty_board undo_depth
    (map user_act_of (after_last is_mark entries)) trails))
