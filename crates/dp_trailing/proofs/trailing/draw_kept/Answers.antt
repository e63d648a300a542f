use Rattle.std.proofs.Common.{◌+◌, ap, arith, drop, length, length-append, true}
use Rattle.dp_board.specs.Commands.{command_of}
use Rattle.dp_savepoints.specs.Kept.{commands_among}
use Rattle.dp_savepoints.proofs.KeptLemmas.{commands_among-at}
use Rattle.dp_trailing.proofs.TrailingLemmas.{board-next}
use Rattle.dp_trailing.proofs.trailing.draw_kept.Goals as goal

pub loop-next-preserved : goal.loop-next-preserved
loop-next-preserved g c =
    let kept = c.args.kept.now in
    let i = c.loop-next.next-index in
    let k = c.next-item.result in
    let was = c.loop-next.invariant in
    let drew = c.in_ok-draw_act.ensures in
    let own = command_of k.act.act true in
    let rest = commands_among (drop (i + 1) kept) in
    let left = commands_among-at kept i k c.loop-next-test.true c.next-item.is in
    record {
      board = board-next g.B.Board.drawn c.args.board.now c.loop-next.board c.draw_act.new.board
          kept i k c.loop-next-test.true c.next-item.is drew.board was.board;
      draws_rise = omega (arith, was.draws_rise, drew.counts.draws_rise);
      few_draws = omega (
        arith,
        was.few_draws,
        drew.counts.few_draws,
        ap length left,
        length-append own rest,
      );
      tiles_rise = omega (arith, was.tiles_rise, drew.counts.tiles_rise);
    }
