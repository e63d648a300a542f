use Rattle.std.proofs.Common.{◌≡◌, ◌<◌, ℕ, vec_len}
use Rattle.std.specs.Prelude.{All}
use Rattle.dp_tile.specs.Tiles.{cell_at}
use Rattle.dp_paint.specs.Jobs.{IsDone, work_at}
use Rattle.dp_paint.proofs.jobs.write_jobs.Given as goal

-- what the jobs that are left make of the grid is what all of them make of the first one
abbrev pub invariant-jobs : goal.invariant-jobs
invariant-jobs l =
    record {
      cols : l.grid.cols ≡ l.initial.grid.cols;
      rows : l.grid.rows ≡ l.initial.grid.rows;
      each : All (IsDone l.initial.grid) l.jobs.items;
      cells : (col row : ℕ) → col < l.initial.grid.cols → row < l.initial.grid.rows
          → work_at l.jobs.items col row (cell_at l.grid col row)
          ≡ work_at l.initial.jobs.items col row (cell_at l.initial.grid col row);
    }

abbrev pub decreases-jobs : goal.decreases-jobs
decreases-jobs l = vec_len l.jobs
