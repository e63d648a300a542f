use Rattle.std.proofs.Common.{subst, sym}
use Rattle.std.proofs.lemmas.Result.{on_ok_weaker}
use Rattle.dp_plain.specs.Board.{Board}
use Rattle.dp_player.specs.Ahead.{board_after, on_board}
use Rattle.dp_viewer.specs.Reading.{TrailsShown}
use Rattle.dp_player.proofs.ahead.Behind.go_on.Goals as goal

pub returns-then-drawn : goal.returns-then-drawn
returns-then-drawn c =
    let was = c.args.board.now in
    on_ok_weaker c.turn.result (λ goes on entries is trails.
    goes entries (subst (λ (b : Board).
    TrailsShown (on_board (board_after c.args.marked b was) was) entries)
    (sym (is c.if-drawn.true)) trails))
    c.turn.ensures
