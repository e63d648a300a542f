use Rattle.std.proofs.Common.{◌%◌, ◌/◌, arith}
use Rattle.std.proofs.lemmas.Result.{on_ok_weaker}
use Rattle.dp_ops.specs.Lists.{listed_at, waiting_tile}
use Rattle.dp_ops.proofs.Ops.{tile_none}
use Rattle.dp_paint.proofs.Made.{cell_long, made_cell, made_job, made_nothing}
use Rattle.dp_paint.proofs.jobs.make_next.Goals as goal

pub returns-then-not-has_work-clause-made : goal.returns-then-not-has_work-clause-made
returns-then-not-has_work-clause-made g c = λ first order made.
    let p = c.args.painter in
    let old = c.args.grid.now in
    made_nothing (waiting_tile p.on.width p.on.height p.on.commands.now p.lists.now) first
    c.args.number old _ _ c.known.ensures order made
    (λ col row in_cols in_rows same.
    tile_none _ (listed_at p.lists.now col row) _
    (c.has_work.ensures.none c.if-not-has_work.true col row in_cols in_rows same)
    (cell_long old c.known.ensures col row in_cols in_rows))

pub returns-in_ok-push-in-Unknown-clause-made : goal.returns-in_ok-push-in-Unknown-clause-made
returns-in_ok-push-in-Unknown-clause-made g c = λ first order made.
    let p = c.args.painter in
    let old = c.args.grid.now in
    let job = c.in_ok-job-in-Unknown.job in
    let is = c.in_ok-job-in-Unknown.ensures in
    let col = c.has_work.ensures.col c.if-not-has_work.false in
    let row = c.has_work.ensures.row c.if-not-has_work.false in
    made_job (waiting_tile p.on.width p.on.height p.on.commands.now p.lists.now) first
    c.args.number old _ _ c.known.ensures order made job _ c.in_ok-push-in-Unknown.ensures.items
    (omega (arith, is.col, col)) (omega (arith, is.row, row)) (omega (arith, is.col, is.row))
    (rw (is.col, is.row) is.wanted) is.pixels

pub returns-in_default : goal.returns-in_default
returns-in_default g c =
    let p = c.args.painter in
    let old = c.args.grid.now in
    let has = c.has_work.ensures in
    let yes = c.if-not-has_work.false in
    record {
      made = λ first order made.
          on_ok_weaker c.paint.result
          (λ painting.
          made_cell (waiting_tile p.on.width p.on.height p.on.commands.now p.lists.now) first
          c.args.number old _ _ c.known.ensures order made (c.args.number % 64)
          (c.args.number / 64) _ c.known-in_default.ensures (has.col yes) (has.row yes)
          (omega arith) painting)
          c.paint.ensures.painted;
      tiles_rise = c.paint.ensures.tiles_rise;
      few_tiles = omega (arith, c.paint.ensures.one_tile, has.some yes);
    }
