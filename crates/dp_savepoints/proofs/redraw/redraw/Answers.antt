use Rattle.std.proofs.Common.{◌+◌, ◌∙◌, ap, arith, drop, length, length-append, true}
use Rattle.std.specs.List.{sum_by}
use Rattle.std.proofs.lemmas.List.Sums.{sum_by-append}
use Rattle.dp_board.specs.Commands.{command_of}
use Rattle.dp_savepoints.specs.Kept.{commands_among}
use Rattle.dp_savepoints.proofs.KeptLemmas.{commands_among-at}
use Rattle.dp_savepoints.proofs.RunLemmas.{redraw-more}
use Rattle.dp_savepoints.proofs.redraw.redraw.Goals as goal

pub loop-next-preserved : goal.loop-next-preserved
loop-next-preserved g c =
    let kept = c.args.kept.now in
    let i = c.loop-next.next-index in
    let k = c.next-item.result in
    let was = c.loop-next.invariant in
    let drew = c.in_ok-draw_act.ensures in
    let own = command_of k.act.act true in
    let rest = commands_among (drop (i + 1) kept) in
    let left = commands_among-at kept i k c.loop-next-test.true c.next-item.is in
    record {
      left = redraw-more g.B.Board.drawn kept c.args.mark i k c.flag-drawn.result c.loop-next.board
          c.draw_act.new.board c.loop-next-test.true c.next-item.is c.flag-drawn.ensures drew.board
          ∙ was.left;
      draws_rise = omega (arith, was.draws_rise, drew.counts.draws_rise);
      few_draws = omega (
        arith,
        was.few_draws,
        drew.counts.few_draws,
        ap length left,
        length-append own rest,
      );
      tiles_rise = omega (arith, was.tiles_rise, drew.counts.tiles_rise);
      few_tiles = omega (
        arith,
        was.few_tiles,
        drew.counts.few_tiles,
        ap (sum_by g.B.Board.weight) left,
        sum_by-append g.B.Board.weight own rest,
      );
    }

pub returns-in_err-draw_act-clause-counts : goal.returns-in_err-draw_act-clause-counts
returns-in_err-draw_act-clause-counts g c =
    let kept = c.args.kept.now in
    let i = c.loop-next.next-index in
    let k = c.next-item.result in
    let was = c.loop-next.invariant in
    let drew = c.draw_act.ensures.counts in
    let own = command_of k.act.act true in
    let rest = commands_among (drop (i + 1) kept) in
    let left = commands_among-at kept i k c.loop-next-test.true c.next-item.is in
    record {
      draws_rise = omega (arith, was.draws_rise, drew.draws_rise);
      few_draws = omega (
        arith,
        was.few_draws,
        drew.few_draws,
        ap length left,
        length-append own rest,
      );
      tiles_rise = omega (arith, was.tiles_rise, drew.tiles_rise);
      few_tiles = omega (
        arith,
        was.few_tiles,
        drew.few_tiles,
        ap (sum_by g.B.Board.weight) left,
        sum_by-append g.B.Board.weight own rest,
      );
    }
