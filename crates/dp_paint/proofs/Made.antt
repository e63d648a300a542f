-- Tiles that are painted by jobs.
use Rattle.std.proofs.Common.{◌≡◌, ℕ, suc, ◌+◌, ◌*◌, ◌<◌, ◌≤◌, List, [], ◌∷◌}
use Rattle.std.proofs.Common.{◌++◌, length, get_or, take, drop, ap, sym, ◌∙◌, refl, arith, ⊎_elim}
use Rattle.std.proofs.Common.{cond, true, false, ◌&&◌, leb, ltb, eqb, length-append}
use Rattle.std.specs.Prelude.{All}
use Rattle.std.proofs.lemmas.Bool.{and_parts, cases_eq, cond-false, cond-true, eq-eqb, eqb-true}
use Rattle.std.proofs.lemmas.Bool.{false_from_ne_true, le-leb, leb-true, lt-ltb, ltb-true}
use Rattle.std.proofs.lemmas.List.{append-nil, drop_all, take_all}
use Rattle.std.proofs.lemmas.List.Elements.{All-head, All-push, All-tail, All-weaker}
use Rattle.dp_blend.specs.Color.{Channels, clear}
use Rattle.dp_pixels.proofs.SpanLemmas.{same_test}
use Rattle.dp_tile.specs.Areas.{IsPaintedOn, Painted, is_in_cells}
use Rattle.dp_tile.specs.Tiles.{IsGrid, TileGrid, cell_at, tile_of, with_cell}
use Rattle.dp_tile.proofs.CellByCell.{cell_beside, cell_elsewhere, cell_same}
use Rattle.dp_tile.proofs.CellByCell.{place_inside}
use Rattle.dp_paint.specs.Jobs.{AreMade, AreOnGrid, IsDone, IsJobFor, HasRun, TileWork, band_at, is_numbered}
use Rattle.dp_paint.specs.Jobs.{work_at}
use Rattle.dp_ops.proofs.Waits.{inside_by, inside_facts}

-- ---- one cell

-- two columns and two rows are the same
both_same : (a b col row : ℕ) → a ≡ col → b ≡ row → (eqb a col && eqb b row) ≡ true
both_same a b col row same_col same_row = rw (eq-eqb a col same_col, eq-eqb b row same_row) refl

-- a cell of a grid of which one cell was changed
pub cell_with : (g : TileGrid) → IsGrid g → (at_col at_row : ℕ) (v : List Channels)
    → at_col < g.cols → at_row < g.rows → (col row : ℕ) → col < g.cols
    → cell_at (with_cell g at_col at_row v) col row
    ≡ cond (eqb at_col col && eqb at_row row) v (cell_at g col row)
cell_with g is at_col at_row v in_cols in_rows col row col_in =
    let cell = cell_at g col row in
    let test = eqb at_col col && eqb at_row row in
    ⊎_elim (λ (same_row : at_row ≡ row).
    ⊎_elim (λ (same_col : at_col ≡ col).
    let here : cell_at (with_cell g at_col at_row v) col row ≡ v =
    rw (← same_row, ← same_col) (cell_same g is at_col at_row v in_cols in_rows) in
    here ∙ sym (cond-true test v cell (both_same at_col at_row col row same_col same_row)))
    (λ (other : at_col ≡ col → ⊥).
    let beside : cell_at (with_cell g at_col at_row v) col row ≡ cell_at g col row =
    rw (← same_row) (cell_beside g is at_col at_row v in_cols col (λ same. other (sym same))) in
    beside ∙ sym (cond-false test v cell (false_from_ne_true test
    (λ both. other (eqb-true at_col col (and_parts (eqb at_col col) (eqb at_row row) both).0)))))
    (cases_eq at_col col))
    (λ (other : at_row ≡ row → ⊥).
    cell_elsewhere g is at_col at_row v in_cols col row col_in (λ same. other (sym same))
    ∙ sym (cond-false test v cell (false_from_ne_true test
    (λ both. other (eqb-true at_row row (and_parts (eqb at_col col) (eqb at_row row) both).1)))))
    (cases_eq at_row row)

-- ---- jobs

-- no job
pub work_nil : (col row : ℕ) (pixels : List Channels) → work_at [] col row pixels ≡ pixels
unfolding work_at
work_nil col row pixels = refl

-- one job more
pub work_more : (jobs : List TileWork) (job : TileWork) (col row : ℕ) (pixels : List Channels)
    → work_at (jobs ++ job ∷ []) col row pixels
    ≡ work_at jobs col row (cond (eqb job.col col && eqb job.row row) job.wanted pixels)
unfolding work_at
work_more [] job col row pixels = refl
work_more (x ∷ jobs) job col row pixels =
    ap (λ (ps : List Channels). cond (eqb x.col col && eqb x.row row) x.wanted ps)
    (work_more jobs job col row pixels)

-- a job at the cell
job_here : (job : TileWork) (col row : ℕ) (a b : List Channels) → job.col ≡ col → job.row ≡ row
    → cond (eqb job.col col && eqb job.row row) a b ≡ a
job_here job col row a b same_col same_row =
    cond-true (eqb job.col col && eqb job.row row) a b
    (both_same job.col job.row col row same_col same_row)

-- a job at another cell
not_here : (job : TileWork) (col row : ℕ) (a b : List Channels)
    → (job.col ≡ col → job.row ≡ row → ⊥)
    → cond (eqb job.col col && eqb job.row row) a b ≡ b
not_here job col row a b other =
    let test = eqb job.col col && eqb job.row row in
    cond-false test a b (false_from_ne_true test (λ both.
    let parts = and_parts (eqb job.col col) (eqb job.row row) both in
    other (eqb-true job.col col parts.0) (eqb-true job.row row parts.1)))

-- jobs for cells of lower numbers
pub work_none : (next : ℕ) (g : TileGrid) (jobs : List TileWork) (col row : ℕ)
    (pixels : List Channels) → All (IsJobFor next g) jobs → next ≤ row * 64 + col
    → work_at jobs col row pixels ≡ pixels
unfolding work_at
work_none next g [] col row pixels each up = refl
work_none next g (job ∷ jobs) col row pixels each up =
    let made = All-head (IsJobFor next g) job jobs each in
    let before = made.before in
    not_here job col row job.wanted (work_at jobs col row pixels)
    (λ same_col same_row. absurd (omega (arith, before, up, same_col, same_row)))
    ∙ work_none next g jobs col row pixels (All-tail (IsJobFor next g) job jobs each) up

-- ---- numbers

module _ (first number col row : ℕ) where
  pub numbered_here : first ≤ number → row * 64 + col ≡ number
      → is_numbered first (number + 1) col row ≡ true
  numbered_here order same =
      rw (
        le-leb first (row * 64 + col) (omega (arith, order, same)),
        lt-ltb (row * 64 + col) (number + 1) (omega (arith, same)),
      ) refl

  pub numbered_later : row * 64 + col ≡ number → is_numbered first number col row ≡ false
  numbered_later same =
      let test = is_numbered first number col row in
      false_from_ne_true test (λ t.
      let parts = and_parts (leb first (row * 64 + col)) (ltb (row * 64 + col) number) t in
      absurd (omega (arith, ltb-true (row * 64 + col) number parts.1, same)))

  pub numbered_other : (row * 64 + col ≡ number → ⊥)
      → is_numbered first (number + 1) col row ≡ is_numbered first number col row
  numbered_other other =
      let n = row * 64 + col in
      same_test (is_numbered first (number + 1) col row) (is_numbered first number col row)
      (λ t.
      let parts = and_parts (leb first n) (ltb n (number + 1)) t in
      let below = ltb-true n (number + 1) parts.1 in
      rw (parts.0, lt-ltb n number (omega (arith, below, other))) refl)
      (λ t.
      let parts = and_parts (leb first n) (ltb n number) t in
      let below = ltb-true n number parts.1 in
      rw (parts.0, lt-ltb n (number + 1) (omega (arith, below))) refl)

-- ---- one number more

-- a job stays one
still_made : (number : ℕ) (g : TileGrid) (job : TileWork) → IsJobFor number g job
    → IsJobFor (number + 1) g job
still_made number g job is =
    let before = is.before in record {
      col = is.col;
      row = is.row;
      before = omega (arith, before);
      pixels = is.pixels;
    }

module _ (painted : Painted) (first number : ℕ) (old now : TileGrid) (jobs : List TileWork)
    (grid : IsGrid old) (order : first ≤ number)
    (is : AreMade painted first number old now jobs) where
  -- the cell of the number, as it was
  pub cell_of_number : (col row : ℕ) → col < old.cols → row < old.rows → row * 64 + col ≡ number
      → cell_at now col row ≡ cell_at old col row
  cell_of_number col row in_cols in_rows same =
      sym (work_none number old jobs col row (cell_at now col row) is.each (omega (arith, same)))
      ∙ is.cells col row in_cols in_rows
      ∙ cond-false (is_numbered first number col row) (painted col row (cell_at old col row))
      (cell_at old col row) (numbered_later first number col row same)

  -- what is to be shown at another cell stays
  beside : (col row : ℕ) → (row * 64 + col ≡ number → ⊥)
      → cond (is_numbered first number col row) (painted col row (cell_at old col row))
      (cell_at old col row)
      ≡ cond (is_numbered first (number + 1) col row) (painted col row (cell_at old col row))
      (cell_at old col row)
  beside col row other =
      ap (λ t. cond t (painted col row (cell_at old col row)) (cell_at old col row))
      (sym (numbered_other first number col row other))

  here : (col row : ℕ) → row * 64 + col ≡ number
      → painted col row (cell_at old col row)
      ≡ cond (is_numbered first (number + 1) col row) (painted col row (cell_at old col row))
      (cell_at old col row)
  here col row same =
      sym (cond-true (is_numbered first (number + 1) col row)
      (painted col row (cell_at old col row)) (cell_at old col row)
      (numbered_here first number col row order same))

  -- the cell of the number isn't there, or stays
  pub made_nothing : ((col row : ℕ) → col < old.cols → row < old.rows → row * 64 + col ≡ number
      → painted col row (cell_at old col row) ≡ cell_at old col row)
      → AreMade painted first (number + 1) old now jobs
  made_nothing stays =
      let few = is.few in record {
        cols = is.cols;
        rows = is.rows;
        few = omega (arith, few);
        each = All-weaker (IsJobFor number old) (IsJobFor (number + 1) old) (still_made number old)
            jobs is.each;
        cells = λ col row in_cols in_rows.
            ⊎_elim (λ (same : row * 64 + col ≡ number).
            work_none number old jobs col row (cell_at now col row) is.each (omega (arith, same))
            ∙ cell_of_number col row in_cols in_rows same
            ∙ sym (stays col row in_cols in_rows same)
            ∙ here col row same)
            (λ other. is.cells col row in_cols in_rows ∙ beside col row other)
            (cases_eq (row * 64 + col) number);
      }

  -- a job for it was made
  pub made_job : (job : TileWork) (more : List TileWork) → more ≡ jobs ++ job ∷ []
      → job.col < old.cols → job.row < old.rows → job.row * 64 + job.col ≡ number
      → job.wanted ≡ painted job.col job.row (cell_at old job.col job.row)
      → job.pixels ≡ tile_of clear
      → AreMade painted first (number + 1) old now more
  made_job job more are in_cols in_rows at wanted blank =
      let few = is.few in
      let wide = grid.cols in rw are (record {
        cols = is.cols;
        rows = is.rows;
        few = omega (arith, few, order, length-append jobs (job ∷ []));
        each = All-push (IsJobFor (number + 1) old) jobs job
            (All-weaker (IsJobFor number old) (IsJobFor (number + 1) old) (still_made number old)
            jobs is.each)
            (record {
              col = in_cols;
              row = in_rows;
              before = omega (arith, at);
              pixels = blank;
            });
        cells = λ col row col_in row_in.
            let old_cell = cell_at now col row in
            work_more jobs job col row old_cell
            ∙ ⊎_elim (λ (same : row * 64 + col ≡ number).
            let same_row : job.row ≡ row = omega (arith, same, at, in_cols, col_in, wide) in
            let same_col : job.col ≡ col = omega (arith, same, at, same_row) in
            let becomes : painted job.col job.row (cell_at old job.col job.row)
            ≡ painted col row (cell_at old col row) = rw (same_col, same_row) refl in
            ap (work_at jobs col row) (job_here job col row job.wanted old_cell same_col same_row)
            ∙ work_none number old jobs col row job.wanted is.each (omega (arith, same))
            ∙ wanted ∙ becomes ∙ here col row same)
            (λ other.
            ap (work_at jobs col row) (not_here job col row job.wanted old_cell
            (λ same_col same_row. other (omega (arith, at, same_col, same_row))))
            ∙ is.cells col row col_in row_in ∙ beside col row other)
            (cases_eq (row * 64 + col) number);
      })

  -- it was painted
  pub made_cell : (at_col at_row : ℕ) (new : TileGrid) → IsGrid now → at_col < old.cols
      → at_row < old.rows → at_row * 64 + at_col ≡ number
      → new ≡ with_cell now at_col at_row (painted at_col at_row (cell_at now at_col at_row))
      → AreMade painted first (number + 1) old new jobs
  made_cell at_col at_row new now_grid in_cols in_rows at painting =
      let few = is.few in
      let wide = grid.cols in
      let same_cols = is.cols in
      let same_rows = is.rows in
      let v = painted at_col at_row (cell_at now at_col at_row) in
      let in_now : at_col < now.cols = omega (arith, in_cols, same_cols) in
      let down_now : at_row < now.rows = omega (arith, in_rows, same_rows) in
      rw painting (record {
        cols = is.cols;
        rows = is.rows;
        few = omega (arith, few);
        each = All-weaker (IsJobFor number old) (IsJobFor (number + 1) old) (still_made number old)
            jobs is.each;
        cells = λ col row col_in row_in.
            let test = eqb at_col col && eqb at_row row in
            let old_cell = cell_at now col row in
            ap (work_at jobs col row)
            (cell_with now now_grid at_col at_row v in_now down_now col row
            (omega (arith, col_in, same_cols)))
            ∙ ⊎_elim (λ (same : row * 64 + col ≡ number).
            let same_row : at_row ≡ row = omega (arith, same, at, in_cols, col_in, wide) in
            let same_col : at_col ≡ col = omega (arith, same, at, same_row) in
            let becomes : painted at_col at_row (cell_at old at_col at_row)
            ≡ painted col row (cell_at old col row) = rw (same_col, same_row) refl in
            work_none number old jobs col row (cond test v old_cell) is.each (omega (arith, same))
            ∙ cond-true test v old_cell (both_same at_col at_row col row same_col same_row)
            ∙ ap (painted at_col at_row) (cell_of_number at_col at_row in_cols in_rows at)
            ∙ becomes ∙ here col row same)
            (λ other.
            ap (work_at jobs col row)
            (cond-false test v old_cell (false_from_ne_true test (λ both.
            let parts = and_parts (eqb at_col col) (eqb at_row row) both in
            let same_col = eqb-true at_col col parts.0 in
            let same_row = eqb-true at_row row parts.1 in
            other (omega (arith, at, same_col, same_row)))))
            ∙ is.cells col row col_in row_in ∙ beside col row other)
            (cases_eq (row * 64 + col) number);
      })

-- nothing is made at first
pub made_none : (painted : Painted) (first : ℕ) (old now : TileGrid) (jobs : List TileWork)
    → now ≡ old → jobs ≡ [] → AreMade painted first first old now jobs
made_none painted first old now jobs same none =
    rw none (record {
      cols = ap (λ (g : TileGrid). g.cols) same;
      rows = ap (λ (g : TileGrid). g.rows) same;
      few = omega arith;
      each = λ k d inside. absurd (omega (arith, inside));
      cells = λ col row in_cols in_rows.
          work_nil col row (cell_at now col row)
          ∙ ap (λ (g : TileGrid). cell_at g col row) same
          ∙ sym (cond-false (is_numbered first first col row)
          (painted col row (cell_at old col row)) (cell_at old col row)
          (false_from_ne_true (is_numbered first first col row) (λ t.
          let n = row * 64 + col in
          let parts = and_parts (leb first n) (ltb n first) t in
          absurd (omega (arith, leb-true first n parts.0, ltb-true n first parts.1)))));
    })

-- ---- jobs that were run

-- they make the same of a cell
pub ran_same : (old new : List TileWork) → length new ≡ length old
    → ((k : ℕ) (d : TileWork) → k < length old → HasRun (get_or old k d) (get_or new k d))
    → (col row : ℕ) (pixels : List Channels)
    → work_at new col row pixels ≡ work_at old col row pixels
unfolding work_at
ran_same [] [] as_many ran col row pixels = refl
ran_same [] (y ∷ ys) as_many ran col row pixels = absurd (omega (arith, as_many))
ran_same (x ∷ xs) [] as_many ran col row pixels = absurd (omega (arith, as_many))
ran_same (x ∷ xs) (y ∷ ys) as_many ran col row pixels =
    let one = ran 0 x (omega arith) in
    let rest = ran_same xs ys (omega (arith, as_many))
    (λ k d inside. ran (suc k) d (omega (arith, inside))) col row pixels in
    ap (λ (ps : List Channels). cond (eqb y.col col && eqb y.row row) y.wanted ps) rest
    ∙ (rw (one.col, one.row, one.wanted) refl)

-- they are done
pub ran_done : (next : ℕ) (g now : TileGrid) (old new : List TileWork) → now.cols ≡ g.cols
    → now.rows ≡ g.rows → length new ≡ length old
    → ((k : ℕ) (d : TileWork) → k < length old → HasRun (get_or old k d) (get_or new k d))
    → All (IsJobFor next g) old → All (IsDone now) new
ran_done next g now old new cols rows as_many ran each = λ k d inside.
    let in_old : k < length old = omega (arith, inside, as_many) in
    let one = ran k d in_old in
    let made = each k d in_old in
    let at_col = one.col in
    let at_row = one.row in
    let in_cols = made.col in
    let in_rows = made.row in
    record {
      col = omega (arith, at_col, in_cols, cols);
      row = omega (arith, at_row, in_rows, rows);
      pixels = one.pixels ∙ sym one.wanted;
    }

-- the cells of a band of rows
pub in_band : (top col row : ℕ) → col < 64
    → is_numbered (top * 64) (top * 64 + 512) col row ≡ is_in_cells (band_at top) col row
in_band top col row in_cols =
    let n = row * 64 + col in
    let first = top * 64 in
    same_test (is_numbered first (first + 512) col row) (is_in_cells (band_at top) col row)
    (λ t.
    let parts = and_parts (leb first n) (ltb n (first + 512)) t in
    let from = leb-true first n parts.0 in
    let to = ltb-true n (first + 512) parts.1 in
    inside_by (band_at top) col row (record {
      left = omega arith;
      right = in_cols;
      top = omega (arith, from, in_cols);
      bottom = omega (arith, to);
    }))
    (λ t.
    let is = inside_facts (band_at top) col row t in
    let top_to = is.top in
    let bottom_to = is.bottom in
    rw (
      le-leb first n (omega (arith, top_to)),
      lt-ltb n (first + 512) (omega (arith, bottom_to, in_cols)),
    ) refl)

-- the grid after the jobs of a band of rows
pub band_done : (painted : Painted) (top : ℕ) (old now new : TileGrid)
    (made from ran : List TileWork) → from ≡ made → IsGrid old
    → AreMade painted (top * 64) (top * 64 + 512) old now made → length ran ≡ length from
    → ((k : ℕ) (d : TileWork) → k < length from → HasRun (get_or from k d) (get_or ran k d))
    → AreOnGrid ran now new → IsPaintedOn (band_at top) painted old new
band_done painted top old now new made from ran same grid are as_many each written =
    let now_cols = are.cols in
    let now_rows = are.rows in
    let wide = grid.cols in record {
      cols = written.cols ∙ are.cols;
      rows = written.rows ∙ are.rows;
      cells = λ col row in_cols in_rows.
          written.cells col row (omega (arith, in_cols, now_cols))
          (omega (arith, in_rows, now_rows))
          ∙ ran_same from ran as_many each col row (cell_at now col row)
          ∙ ap (λ (jobs : List TileWork). work_at jobs col row (cell_at now col row)) same
          ∙ are.cells col row in_cols in_rows
          ∙ ap (λ t. cond t (painted col row (cell_at old col row)) (cell_at old col row))
          (in_band top col row (omega (arith, in_cols, wide)));
    }

-- the tile of the last job was put on the grid
pub job_written : (start now new : TileGrid) (all rest : List TileWork) (job : TileWork)
    → IsGrid now → all ≡ rest ++ job ∷ [] → now.cols ≡ start.cols → now.rows ≡ start.rows
    → IsDone start job → new ≡ with_cell now job.col job.row job.pixels
    → (col row : ℕ) → col < start.cols
    → work_at rest col row (cell_at new col row) ≡ work_at all col row (cell_at now col row)
job_written start now new all rest job grid are cols rows done is col row in_cols =
    let at_col = done.col in
    let at_row = done.row in
    let test = eqb job.col col && eqb job.row row in
    let cell = cell_at now col row in
    let written : cell_at new col row ≡ cond test job.wanted cell =
    ap (λ (g : TileGrid). cell_at g col row) is
    ∙ cell_with now grid job.col job.row job.pixels (omega (arith, at_col, cols))
    (omega (arith, at_row, rows)) col row (omega (arith, in_cols, cols))
    ∙ ap (λ (ps : List Channels). cond test ps cell) done.pixels in
    ap (work_at rest col row) written
    ∙ sym (work_more rest job col row cell)
    ∙ ap (λ (l : List TileWork). work_at l col row cell) (sym are)

-- the cell of a grid has 4096 pixels
pub cell_long : (g : TileGrid) → IsGrid g → (col row : ℕ) → col < g.cols → row < g.rows
    → length (cell_at g col row) ≡ 4096
cell_long g is col row in_cols in_rows =
    is.pixels (row * g.cols + col) (tile_of clear) (place_inside g is col row in_cols in_rows)

-- a list that was lent as a slice and came back
pub lent_back : (old new : List TileWork) (len : ℕ) → length new ≡ length old
    → len ≡ length old → take len (new ++ drop (length new) old) ≡ new
lent_back old new len as_many is =
    ap (λ (rest : List TileWork). take len (new ++ rest))
    (drop_all (length new) old (omega (arith, as_many)))
    ∙ ap (take len) (append-nil new)
    ∙ take_all len new (omega (arith, as_many, is))
