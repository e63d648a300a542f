use Rattle.std.proofs.Common.{◌∙◌, ◌+◌, ◌*◌, arith, refl}
use Rattle.dp_ops.specs.declared.lists.Finish.TheVariants.{Clear}
use Rattle.dp_paint.specs.Jobs.{band_at}
use Rattle.dp_paint.proofs.Counts.{waiting_to}
use Rattle.dp_paint.proofs.Layers.{painted_grid, settled}
use Rattle.dp_ops.proofs.Waits.{all_counts}
use Rattle.dp_paint.proofs.Named.{done_some}
use Rattle.dp_paint.proofs.Bands.{band_count, band_empty, band_rest}
use Rattle.dp_paint.proofs.workers.settle_all.Goals as goal

pub loop-band-init : goal.loop-band-init
loop-band-init g c = record {
  grid = c.requires.grid;
  first = c.requires.first;
  counts = c.requires.counts;
  same = refl;
  none = λ col row few below. absurd (omega (arith, below));
  rest = λ col row few below. refl;
  rise = omega arith;
  few = omega arith;
}

pub loop-band-preserved : goal.loop-band-preserved
loop-band-preserved g c =
    let inv = c.loop-band.invariant in
    let band = c.loop-band.band in
    let on = c.args.on in
    let area = band_at (band * 8) in
    let before = c.loop-band.lists in
    let after = c.finish.new.self in
    let old = c.loop-band.grid in
    let new = c.in_ok-grid.field-0 in
    let painted = c.in_ok-grid.ensures.painted in
    record {
      grid = painted_grid on.width on.height area _ old new inv.grid painted;
      first = c.finish.ensures.first ∙ inv.first;
      counts = all_counts area Clear before after c.finish.ensures
          (λ col row few out. inv.counts col row few);
      same = settled on.width on.height on.commands.now area before after old new inv.grid painted
          c.finish.ensures ∙ inv.same;
      none = band_empty band before after c.finish.ensures inv.none;
      rest = band_rest band before after c.finish.ensures c.args.lists.now inv.rest;
      rise = omega (arith, inv.rise, c.in_ok-grid.ensures.tiles_rise);
      few = band_count band c.args.lists.now before c.args.tiles.now c.loop-band.tiles _ inv.rest
          inv.few c.in_ok-grid.ensures.few_tiles;
    }

pub returns-in_err-grid-clause-few_tiles : goal.returns-in_err-grid-clause-few_tiles
returns-in_err-grid-clause-few_tiles g c =
    let inv = c.loop-band.invariant in
    let band = c.loop-band.band in
    let initial = c.args.lists.now in
    let up = waiting_to initial ((band + 1) * 512) 4096 (omega (arith, c.loop-band-test.true)) in
    omega (
      arith,
      up,
      band_count band initial c.loop-band.lists c.args.tiles.now c.loop-band.tiles _ inv.rest
          inv.few c.band_painted.ensures.few_tiles,
    )

pub returns-in_err-grid-clause-some : goal.returns-in_err-grid-clause-some
returns-in_err-grid-clause-some g c =
    let inv = c.loop-band.invariant in
    done_some (c.loop-band.band * 8) c.args.lists.now c.loop-band.lists inv.none inv.rest

pub returns-clause-some : goal.returns-clause-some
returns-clause-some g c =
    let inv = c.loop-band.invariant in
    done_some (c.loop-band.band * 8) c.args.lists.now c.loop-band.lists inv.none inv.rest
