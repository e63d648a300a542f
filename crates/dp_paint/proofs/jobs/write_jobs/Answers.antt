use Rattle.std.proofs.Common.{◌∙◌, ap, arith, refl, sym, Some, List}
use Rattle.std.proofs.lemmas.List.{nil_from_length}
use Rattle.std.proofs.lemmas.List.Elements.{All-pop}
use Rattle.dp_tile.specs.Tiles.{TileGrid, cell_at}
use Rattle.dp_paint.specs.Jobs.{IsDone, TileWork, work_at}
use Rattle.dp_paint.proofs.Made.{job_written, work_nil}
use Rattle.dp_paint.proofs.jobs.write_jobs.Goals as goal

pub jobs-init : goal.jobs-init
jobs-init c = record {
  cols = refl;
  rows = refl;
  each = c.requires;
  cells = λ col row in_cols in_rows. refl;
}

pub write-requires-clause-col : goal.write-requires-clause-col
write-requires-clause-col c =
    let inv = c.jobs.invariant in
    let popped = All-pop (IsDone c.args.work.grid) c.jobs.jobs.items c.pop.new.self.items
    (Some c.in-Some.job) c.in-Some.ensures.items inv.each in
    omega (arith, popped.1.col, inv.cols)

pub write-requires-clause-row : goal.write-requires-clause-row
write-requires-clause-row c =
    let inv = c.jobs.invariant in
    let popped = All-pop (IsDone c.args.work.grid) c.jobs.jobs.items c.pop.new.self.items
    (Some c.in-Some.job) c.in-Some.ensures.items inv.each in
    omega (arith, popped.1.row, inv.rows)

pub jobs-preserved : goal.jobs-preserved
jobs-preserved c =
    let inv = c.jobs.invariant in
    let start = c.args.work.grid in
    let cut = c.in-Some.ensures.items in
    let job = c.in-Some.job in
    let popped = All-pop (IsDone start) c.jobs.jobs.items c.pop.new.self.items (Some job) cut
    inv.each in
    record {
      cols = ap (λ (g : TileGrid). g.cols) c.in_ok-write.ensures ∙ inv.cols;
      rows = ap (λ (g : TileGrid). g.rows) c.in_ok-write.ensures ∙ inv.rows;
      each = popped.0;
      cells = λ col row in_cols in_rows.
          job_written start c.jobs.grid c.write.new.grid c.jobs.jobs.items c.pop.new.self.items job
          c.known.ensures cut inv.cols inv.rows popped.1 c.in_ok-write.ensures col row in_cols
          ∙ inv.cells col row in_cols in_rows;
    }

pub returns : goal.returns
returns c =
    let inv = c.jobs.invariant in
    let none = nil_from_length c.jobs.jobs.items
    (omega (arith, c.in_default.ensures.cases.0, c.jobs.jobs.ok)) in
    record {
      cols = inv.cols;
      rows = inv.rows;
      cells = λ col row in_cols in_rows.
          sym (work_nil col row (cell_at c.jobs.grid col row))
          ∙ ap (λ (l : List TileWork). work_at l col row (cell_at c.jobs.grid col row)) (sym none)
          ∙ inv.cells col row in_cols in_rows;
    }
