use Rattle.std.proofs.Common.{◌+◌, arith}
use Rattle.dp_paint.proofs.Counts.{waiting_more, waiting_next, waiting_to}
use Rattle.dp_paint.proofs.Made.{made_none}
use Rattle.dp_paint.proofs.jobs.make_jobs.Goals as goal

pub loop-number-init : goal.loop-number-init
loop-number-init g c = record {
  made = made_none _ c.args.first c.args.grid.now _ _ c.in_ok-share.ensures c.new.ensures.items;
  rise = omega arith;
  few = omega arith;
}

pub loop-number-preserved : goal.loop-number-preserved
loop-number-preserved g c =
    let inv = c.loop-number.invariant in
    let lists = c.args.painter.lists.now in record {
      made = c.in_default.ensures.made c.args.first (omega (arith, c.loop-number.auto.number))
          inv.made;
      rise = omega (arith, inv.rise, c.in_default.ensures.tiles_rise);
      few = omega (
        arith,
        inv.few,
        c.in_default.ensures.few_tiles,
        waiting_next lists c.loop-number.number,
      );
    }

pub returns-in_err-share-clause-few_tiles : goal.returns-in_err-share-clause-few_tiles
returns-in_err-share-clause-few_tiles g c =
    omega (arith, waiting_more c.args.painter.lists.now c.args.first 512)

pub returns-in-Err-clause-few_tiles : goal.returns-in-Err-clause-few_tiles
returns-in-Err-clause-few_tiles g c =
    let lists = c.args.painter.lists.now in
    let number = c.loop-number.number in
    omega (
      arith,
      c.loop-number.invariant.few,
      c.make_next.ensures.few_tiles,
      waiting_next lists number,
      waiting_to lists (number + 1) (c.args.first + 512) (omega (arith, c.loop-number-test.true)),
    )
