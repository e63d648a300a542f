-- Tiles that are painted by jobs.
use Rattle.std.specs.Prelude.{◌≡◌, ◌==◌, ℕ, zero, suc, ◌+◌, ◌-◌, ◌*◌, ◌/◌, ◌%◌, ◌<◌, ◌≤◌, Bool, ◌&&◌}
use Rattle.std.specs.Prelude.{nat_le, nat_lt, if◌then◌else◌, List, [], ◌∷◌, length, All}
use Rattle.dp_blend.specs.Color.{Channels, clear}
use Rattle.dp_tile.specs.declared.area.CellArea.{CellArea}
use Rattle.dp_tile.specs.Areas.{Painted}
use Rattle.dp_tile.specs.Tiles.{TileGrid, cell_at, tile_of}
use Rattle.dp_ops.specs.Lists.{Lists, listed_at}

-- a job: where its tile stands, the pixels that it is to have, and those of the new tile
pub record TileWork : Type 0 where
  pub col : ℕ
  pub row : ℕ
  pub wanted : List Channels
  pub pixels : List Channels

-- a job was run: its new tile has the pixels that it is to have
pub record HasRun (old new : TileWork) : Type 0 where
  pub col : new.col ≡ old.col
  pub row : new.row ≡ old.row
  pub wanted : new.wanted ≡ old.wanted
  pub pixels : new.pixels ≡ old.wanted

-- the pixels of the cell at a column and a row after jobs, of which the first one there counts
unfoldable pub work_at : List TileWork → ℕ → ℕ → List Channels → List Channels
work_at [] col row pixels = pixels
work_at (job ∷ jobs) col row pixels =
    if job.col == col && job.row == row then job.wanted else work_at jobs col row pixels

-- 1 if operations wait on the tile of a number, if those of each row have 64 numbers, and else 0
abbrev pub waits_on : Lists → ℕ → ℕ
waits_on l number = if length (listed_at l (number % 64) (number / 64)) == 0 then 0 else 1

-- on how many of the tiles before the one of a number operations wait
unfoldable pub tiles_waiting : Lists → ℕ → ℕ
tiles_waiting l zero = 0
tiles_waiting l (suc number) = tiles_waiting l number + waits_on l number

-- ---- in the words of the code

-- a job for a tile of a grid, of a number below this one, whose new tile is clear
pub record IsJobFor (next : ℕ) (g : TileGrid) (job : TileWork) : Type 0 where
  pub col : job.col < g.cols
  pub row : job.row < g.rows
  pub before : job.row * 64 + job.col < next
  pub pixels : job.pixels ≡ tile_of clear

-- a job that was run, for a tile of a grid
pub record IsDone (g : TileGrid) (job : TileWork) : Type 0 where
  pub col : job.col < g.cols
  pub row : job.row < g.rows
  pub pixels : job.pixels ≡ job.wanted

-- the cell at a column and a row has a number from one on before another
abbrev pub is_numbered : ℕ → ℕ → ℕ → ℕ → Bool
is_numbered first next col row = nat_le first (row * 64 + col) && nat_lt (row * 64 + col) next

-- the cells of a grid of these numbers are painted, on another grid or by jobs
pub record AreMade (painted : Painted) (first next : ℕ) (old now : TileGrid) (jobs : List TileWork)
    : Type 0 where
  pub cols : now.cols ≡ old.cols
  pub rows : now.rows ≡ old.rows
  pub few : length jobs ≤ next - first
  pub each : All (IsJobFor next old) jobs
  pub cells : (col row : ℕ) → col < old.cols → row < old.rows
      → work_at jobs col row (cell_at now col row)
      ≡ (if is_numbered first next col row
      then painted col row (cell_at old col row)
      else cell_at old col row)

-- the tiles of jobs were put on a grid
pub record AreOnGrid (jobs : List TileWork) (old new : TileGrid) : Type 0 where
  pub cols : new.cols ≡ old.cols
  pub rows : new.rows ≡ old.rows
  pub cells : (col row : ℕ) → col < old.cols → row < old.rows
      → cell_at new col row ≡ work_at jobs col row (cell_at old col row)

-- eight rows of cells from one on
abbrev pub band_at : ℕ → CellArea
band_at top = record { left = 0; right = 64; top = top; bottom = top + 8 }
