use Rattle.std.proofs.Common.{◌∙◌, List, length, take, ap, arith}
use Rattle.std.specs.Prelude.{sum_by}
use Rattle.std.proofs.lemmas.List.{length-drop}
use Rattle.dp_msg_draw.specs.declared.draw.Draw.{Draw}
use Rattle.dp_pixels.specs.Feet.{reach}
use Rattle.dp_plain.specs.Commands.{draw_all}
use Rattle.dp_canvas.proofs.Batches.{drawn_further, rest_is, weighed_further, weighed_rest}
use Rattle.dp_canvas.proofs.batch.draw_in_order.Goals as goal

pub returns-in_err-from-clause-counts : goal.returns-in_err-from-clause-counts
returns-in_err-from-clause-counts g c =
    let so_far = c.runs.invariant in
    record {
      draws_rise = omega (arith, so_far.draws, c.in_err-from.ensures.err_draws);
      few_draws = omega (arith, so_far.draws, so_far.within, c.in_err-from.ensures.err_draws);
      tiles_rise = omega (arith, so_far.rise, c.draw_next.ensures.tiles_rise);
      few_tiles =
          omega (
            arith,
            so_far.few,
            c.in_err-from.ensures.err_tiles,
            ap (sum_by reach) (rest_is c.args.ops.now c.runs.from),
            weighed_rest c.args.ops.now c.runs.from,
          );
    }

pub runs-preserved : goal.runs-preserved
runs-preserved g c =
    let so_far = c.runs.invariant in
    let ops = c.args.ops.now in
    let n = c.runs.from in
    let m = c.in_ok-from.field-0 in
    let rest = rest_is ops n in
    record {
      within =
          omega (
            arith,
            so_far.within,
            c.in_ok-from.ensures.within.1,
            ap (λ (xs : List Draw). length xs) rest,
            length-drop n ops,
          );
      board =
          drawn_further c.args.canvas.now c.runs.canvas c.draw_next.new.canvas ops n m so_far.board
          (c.in_ok-from.ensures.board
          ∙ ap (λ (xs : List Draw). draw_all c.runs.canvas (take m xs)) rest);
      draws = omega (arith, so_far.draws, c.in_ok-from.ensures.draws);
      rise = omega (arith, so_far.rise, c.draw_next.ensures.tiles_rise);
      few =
          omega (
            arith,
            so_far.few,
            c.in_ok-from.ensures.few_tiles,
            ap (λ (xs : List Draw). sum_by reach (take m xs)) rest,
            weighed_further ops n m,
          );
    }
