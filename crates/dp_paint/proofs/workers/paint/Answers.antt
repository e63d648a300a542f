use Rattle.std.proofs.Common.{◌+◌, ◌-◌, ap, sym, arith, subst, take}
use Rattle.std.proofs.Common.{drop}
use Rattle.std.specs.List.{sum_by}
use Rattle.std.proofs.lemmas.List.Sums.{sum_by-append, sum_by-take-le}
use Rattle.dp_pixels.specs.Feet.{reach}
use Rattle.dp_tile.specs.Tiles.{grid_pixels}
use Rattle.dp_shift.specs.Grids.{IsGridOf}
use Rattle.dp_paint.proofs.Bands.{part_more, take_part}
use Rattle.dp_paint.proofs.workers.paint.Goals as goal

pub loop-done-init : goal.loop-done-init
loop-done-init g c = record {
  inside = omega arith;
  grid = subst (IsGridOf c.args.width c.args.height) (sym c.in_ok-painted.ensures) c.requires.grid;
  pixels = ap (grid_pixels c.args.width c.args.height) c.in_ok-painted.ensures;
  rise = omega arith;
  few = omega arith;
}

pub loop-done-preserved : goal.loop-done-preserved
loop-done-preserved g c =
    let inv = c.loop-done.invariant in
    let all = c.args.ops.now in
    let done = c.loop-done.done in
    let next = done + c.min.result in
    let part = take (next - done) (drop done all) in
    let are = take_part all done next (omega arith) inv.inside in
    let painted = c.in-Ok.ensures in
    record {
      inside = omega arith;
      grid = painted.grid;
      pixels = part_more c.args.width c.args.height (take done all) part (take next all) _ _ _ are
          inv.pixels painted.pixels;
      rise = omega (arith, inv.rise, painted.tiles_rise);
      few = omega (
        arith,
        inv.few,
        painted.few_tiles,
        ap (sum_by reach) are,
        sum_by-append reach (take done all) part,
      );
    }

pub returns-in-Err-clause-few_tiles : goal.returns-in-Err-clause-few_tiles
returns-in-Err-clause-few_tiles g c =
    let all = c.args.ops.now in
    let done = c.loop-done.done in
    let next = done + c.min.result in
    let part = take (next - done) (drop done all) in
    omega (
      arith,
      c.loop-done.invariant.few,
      c.paint_part.ensures.few_tiles,
      ap (sum_by reach) (take_part all done next (omega arith) c.loop-done.invariant.inside),
      sum_by-append reach (take done all) part,
      sum_by-take-le reach all next,
    )
