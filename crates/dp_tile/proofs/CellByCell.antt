-- Areas that are painted cell by cell, and how many of their cells show something.
use Rattle.std.proofs.Common.{◌≡◌, ℕ, zero, suc, ◌+◌, ◌-◌, ◌*◌, ◌<◌, ◌≤◌, ◌≢◌, List, length}
use Rattle.std.proofs.Common.{get_or, take, ap, sym, ◌∙◌, subst, refl, arith}
use Rattle.std.proofs.Common.{Bool, true, false, cond, ◌&&◌, ◌⊎◌, inl, inr, ⊎_elim}
use Rattle.std.specs.Prelude.{nat_le, nat_lt, Result, OnOk}
use Rattle.std.proofs.Common.{Ok, Err}
use Rattle.std.specs.List.{range_with_len, sum_by}
use Rattle.std.proofs.Math.Nat.{mul-le-mul_right}
use Rattle.std.proofs.lemmas.Bool.{cases_lt, leb-true, ltb-true, le-leb, lt-ltb, and_parts}
use Rattle.std.proofs.lemmas.Bool.{false≢true}
use Rattle.std.proofs.lemmas.List.{get_or-set_same, get_or-set_other}
use Rattle.std.proofs.lemmas.List.Sums.{sum_by-cons, sum_by_more, sum_by-take-le}
use Rattle.dp_blend.specs.Color.{Channels, clear}
use Rattle.dp_tile.specs.declared.area.CellArea.{CellArea}
use Rattle.dp_tile.specs.Tiles.{IsGrid, TileGrid, cell_at, cells_shown, tile_of, tiles_for}
use Rattle.dp_tile.specs.Tiles.{with_cell}
use Rattle.dp_tile.specs.Areas.{Painted, IsPaintedOn, IsRowPainted, IsUpTo, is_in_cells}
use Rattle.dp_tile.specs.Areas.{shown_in, shown_in_row}

-- what follows from two facts on `Ok`
pub both_ok : {T E : Type 0} {P Q R : Type 0} (r : Result T E) → (P → Q → R) → OnOk r P → OnOk r Q
    → OnOk r R
both_ok (Ok x) both p q = both p q
both_ok (Err e) both p q = tt

-- ---- sums over numbers

pub sum_next : (f : ℕ → ℕ) (a n : ℕ)
    → sum_by f (range_with_len a (suc n)) ≡ sum_by f (range_with_len a n) + f (a + n)
sum_next f a zero =
    let same : a + zero ≡ a = omega arith in rw same (omega arith)
sum_next f a (suc n) =
    let later : a + suc n ≡ a + 1 + n = omega arith in
    let last = ap f later in
    let all = sum_by-cons f a (range_with_len (a + 1) (suc n)) in
    let some = sum_by-cons f a (range_with_len (a + 1) n) in
    let rest = sum_next f (a + 1) n in
    omega (arith, all, some, rest, last)

pub sum_same : (f g : ℕ → ℕ) (a n : ℕ) → ((k : ℕ) → a ≤ k → k < a + n → f k ≡ g k)
    → sum_by f (range_with_len a n) ≡ sum_by g (range_with_len a n)
sum_same f g a zero same = refl
sum_same f g a (suc n) same =
    let first = same a (omega arith) (omega arith) in
    let rest = sum_same f g (a + 1) n
    (λ k after below. same k (omega (arith, after)) (omega (arith, below))) in
    let left = sum_by-cons f a (range_with_len (a + 1) n) in
    let right = sum_by-cons g a (range_with_len (a + 1) n) in
    left ∙ ap (λ k. k + sum_by f (range_with_len (a + 1) n)) first ∙ ap (λ k. g a + k) rest
    ∙ sym right

-- a sum up to a number, by the number after it
next_sum : (f : ℕ → ℕ) (from to : ℕ) → from ≤ to
    → sum_by f (range_with_len from (to + 1 - from))
    ≡ sum_by f (range_with_len from (to - from)) + f to
next_sum f from to order =
    let more : to + 1 - from ≡ suc (to - from) = omega (arith, order) in
    let back : from + (to - from) ≡ to = omega (arith, order) in
    rw more (sum_next f from (to - from)
    ∙ ap (λ k. sum_by f (range_with_len from (to - from)) + f k) back)

-- ---- cells

module _ (g : TileGrid) (is : IsGrid g) where
  pub place_inside : (col row : ℕ) → col < g.cols → row < g.rows
      → row * g.cols + col < length g.cells
  place_inside col row in_cols in_rows =
      let up : row + 1 ≤ g.rows = omega (arith, in_rows) in
      omega (arith, is.cells, mul-le-mul_right g.cols up, in_cols)

  module _ (col row : ℕ) (v : List Channels) (in_cols : col < g.cols) where
    pub cell_same : row < g.rows → cell_at (with_cell g col row v) col row ≡ v
    cell_same in_rows =
        get_or-set_same g.cells (row * g.cols + col) v (tile_of clear)
        (place_inside col row in_cols in_rows)

    pub cell_beside : (k : ℕ) → k ≢ col → cell_at (with_cell g col row v) k row ≡ cell_at g k row
    cell_beside k other =
        get_or-set_other g.cells (row * g.cols + col) (row * g.cols + k) v (tile_of clear)
        (λ same. other (omega (arith, same)))

    pub cell_elsewhere : (k other : ℕ) → k < g.cols → other ≢ row
        → cell_at (with_cell g col row v) k other ≡ cell_at g k other
    cell_elsewhere k other k_in differs =
        get_or-set_other g.cells (row * g.cols + col) (other * g.cols + k) v (tile_of clear)
        (λ same. ⊎_elim
        (λ (less : other < row).
        let up : other + 1 ≤ row = omega (arith, less) in
        absurd (omega (arith, same, mul-le-mul_right g.cols up, k_in)))
        (λ (at_least : row ≤ other).
        let up : row + 1 ≤ other = omega (arith, at_least, differs) in
        absurd (omega (arith, same, mul-le-mul_right g.cols up, in_cols)))
        (cases_lt other row))

equal_or : (j k : ℕ) → (j ≡ k) ⊎ (j ≢ k)
equal_or j k =
    ⊎_elim (λ less. inr (λ same. absurd (omega (arith, less, same))))
    (λ at_least. ⊎_elim (λ more. inr (λ same. absurd (omega (arith, more, same))))
    (λ at_most. inl (omega (arith, at_least, at_most))) (cases_lt k j))
    (cases_lt j k)

-- ---- a row

module _ (painted : Painted) (row left : ℕ) (old : TileGrid) where
  pub row_begins : IsRowPainted painted row left left old old
  row_begins =
      record {
        cols = refl;
        rows = refl;
        inside = λ col after below. absurd (omega (arith, after, below));
        before = λ col below. refl;
        after = λ col after in_cols. refl;
        others = λ col other differs in_cols. refl;
      }

  module _ (col : ℕ) (g new : TileGrid) (order : left ≤ col) (is : IsGrid g)
      (in_cols : col < g.cols) (in_rows : row < g.rows)
      (so_far : IsRowPainted painted row left col old g)
      (put : new ≡ with_cell g col row (painted col row (cell_at g col row))) where
    abbrev v : List Channels
    v = painted col row (cell_at g col row)

    -- a cell of the new grid, by the one with the cell put
    by_put : (k other : ℕ) → cell_at new k other ≡ cell_at (with_cell g col row v) k other
    by_put k other = ap (λ h. cell_at h k other) put

    pub here : cell_at new col row ≡ painted col row (cell_at old col row)
    here =
        by_put col row ∙ cell_same g is col row v in_cols in_rows
        ∙ ap (painted col row)
        (so_far.after col (omega arith) (omega (arith, in_cols, so_far.cols)))

    pub beside : (k : ℕ) → k ≢ col → cell_at new k row ≡ cell_at g k row
    beside k other = by_put k row ∙ cell_beside g is col row v in_cols k other

    pub row_next : IsRowPainted painted row left (col + 1) old new
    row_next =
        record {
          cols = ap (λ h. h.cols) put ∙ so_far.cols;
          rows = ap (λ h. h.rows) put ∙ so_far.rows;
          inside = λ k after below.
              ⊎_elim
              (λ (same : k ≡ col). subst
              (λ i. cell_at new i row ≡ painted i row (cell_at old i row)) (sym same) here)
              (λ differs. beside k differs ∙ so_far.inside k after (omega (arith, below, differs)))
              (equal_or k col);
          before = λ k below.
              beside k (λ same. absurd (omega (arith, same, below, order)))
              ∙ so_far.before k below;
          after = λ k after k_in.
              beside k (λ same. absurd (omega (arith, same, after)))
              ∙ so_far.after k (omega (arith, after)) k_in;
          others = λ k other differs k_in.
              by_put k other
              ∙ cell_elsewhere g is col row v in_cols k other
              (omega (arith, k_in, so_far.cols)) differs
              ∙ so_far.others k other differs k_in;
        }

    -- the count goes on
    pub shown_next : shown_in_row left (col + 1) row new
        ≡ shown_in_row left col row g + tiles_for (cell_at new col row)
    shown_next =
        next_sum (λ k. tiles_for (cell_at new k row)) left col order
        ∙ ap (λ n. n + tiles_for (cell_at new col row))
        (sum_same (λ k. tiles_for (cell_at new k row)) (λ k. tiles_for (cell_at g k row)) left
        (col - left)
        (λ k after below. ap tiles_for
        (beside k (λ same. absurd (omega (arith, same, below, order))))))

-- ---- an area

module _ (painted : Painted) (area : CellArea) (old : TileGrid) where
  pub area_begins : IsUpTo painted area area.top old old
  area_begins =
      record {
        cols = refl;
        rows = refl;
        inside = λ col k from to top bottom. absurd (omega (arith, top, bottom));
        before = λ col k below. refl;
        after = λ col k after in_cols. refl;
        above = λ col k over in_cols. refl;
        below = λ col k under in_cols. refl;
      }

  module _ (row : ℕ) (g new : TileGrid) (order : area.top ≤ row) (across : area.left ≤ area.right)
      (wide : area.right ≤ old.cols) (so_far : IsUpTo painted area row old g)
      (next : IsRowPainted painted row area.left area.right g new) where
    -- a cell of another row stays
    other_row : (col k : ℕ) → k ≢ row → col < old.cols → cell_at new col k ≡ cell_at g col k
    other_row col k differs in_cols =
        next.others col k differs (omega (arith, in_cols, so_far.cols))

    pub area_next : IsUpTo painted area (row + 1) old new
    area_next =
        record {
          cols = next.cols ∙ so_far.cols;
          rows = next.rows ∙ so_far.rows;
          inside = λ col k from to top below.
              ⊎_elim
              (λ (same : k ≡ row). subst
              (λ i. cell_at new col i ≡ painted col i (cell_at old col i)) (sym same)
              (next.inside col from to
              ∙ ap (painted col row)
              (so_far.below col row (omega arith) (omega (arith, to, wide)))))
              (λ differs. other_row col k differs (omega (arith, to, wide))
              ∙ so_far.inside col k from to top (omega (arith, below, differs)))
              (equal_or k row);
          before = λ col k less.
              ⊎_elim
              (λ (same : k ≡ row). subst (λ i. cell_at new col i ≡ cell_at g col i) (sym same)
              (next.before col less))
              (λ differs. other_row col k differs (omega (arith, less, across, wide)))
              (equal_or k row)
              ∙ so_far.before col k less;
          after = λ col k past in_cols.
              ⊎_elim
              (λ (same : k ≡ row). subst (λ i. cell_at new col i ≡ cell_at g col i) (sym same)
              (next.after col past (omega (arith, in_cols, so_far.cols))))
              (λ differs. other_row col k differs in_cols)
              (equal_or k row)
              ∙ so_far.after col k past in_cols;
          above = λ col k over in_cols.
              other_row col k (λ same. absurd (omega (arith, same, over, order))) in_cols
              ∙ so_far.above col k over in_cols;
          below = λ col k under in_cols.
              other_row col k (λ same. absurd (omega (arith, same, under))) in_cols
              ∙ so_far.below col k (omega (arith, under)) in_cols;
        }

    pub area_shown_next : shown_in (record area { bottom = row + 1 }) new
        ≡ shown_in (record area { bottom = row }) g
        + shown_in_row area.left area.right row new
    area_shown_next =
        next_sum (λ k. shown_in_row area.left area.right k new) area.top row order
        ∙ ap (λ n. n + shown_in_row area.left area.right row new)
        (sum_same (λ k. shown_in_row area.left area.right k new)
        (λ k. shown_in_row area.left area.right k g) area.top (row - area.top)
        (λ k from to.
        sum_same (λ col. tiles_for (cell_at new col k)) (λ col. tiles_for (cell_at g col k))
        area.left (area.right - area.left)
        (λ col after below. ap tiles_for
        (other_row col k (λ same. absurd (omega (arith, same, to, order)))
        (omega (arith, below, across, wide))))))

-- ---- equal cells

pub shown_same : (area : CellArea) (g other : TileGrid)
    → ((col row : ℕ) → is_in_cells area col row ≡ true → cell_at g col row ≡ cell_at other col row)
    → shown_in area g ≡ shown_in area other
shown_same area g other same =
    sum_same (λ row. shown_in_row area.left area.right row g)
    (λ row. shown_in_row area.left area.right row other) area.top (area.bottom - area.top)
    (λ row from to.
    sum_same (λ col. tiles_for (cell_at g col row)) (λ col. tiles_for (cell_at other col row))
    area.left (area.right - area.left)
    (λ col after below. ap tiles_for (same col row (rw (
      le-leb area.left col after,
      lt-ltb col area.right (omega (arith, after, below)),
      le-leb area.top row from,
      lt-ltb row area.bottom (omega (arith, from, to)),
    ) refl))))

-- ---- as many as the grid has at most

module _ (g : TileGrid) (is : IsGrid g) where
  abbrev up_to : ℕ → ℕ
  up_to n = sum_by tiles_for (take n g.cells)

  more_up_to : (n : ℕ) → n < length g.cells
      → up_to (n + 1) ≡ up_to n + tiles_for (get_or g.cells n (tile_of clear))
  more_up_to n inside = sum_by_more tiles_for g.cells n (tile_of clear) inside

  rises : (n k : ℕ) → n + k ≤ length g.cells → up_to n ≤ up_to (n + k)
  rises n zero inside = let same : n + zero ≡ n = omega arith in rw same (omega arith)
  rises n (suc k) inside =
      let next : n + suc k ≡ n + k + 1 = omega arith in
      let rest = rises n k (omega (arith, inside)) in
      rw next (omega (arith, rest, more_up_to (n + k) (omega (arith, inside))))

  -- some cells of a row, on top of all cells before it
  row_shown : (row left n : ℕ) → left + n ≤ g.cols → row < g.rows
      → up_to (row * g.cols) + sum_by (λ col. tiles_for (cell_at g col row)) (range_with_len left n)
      ≤ up_to (row * g.cols + left + n)
  row_shown row left zero inside in_rows =
      let same : row * g.cols + left + zero ≡ row * g.cols + left = omega arith in
      let up : row + 1 ≤ g.rows = omega (arith, in_rows) in
      let lower = rises (row * g.cols) left
      (omega (arith, is.cells, mul-le-mul_right g.cols up, inside)) in
      rw same (omega (arith, lower))
  row_shown row left (suc n) inside in_rows =
      let next : row * g.cols + left + suc n ≡ row * g.cols + left + n + 1 = omega arith in
      let rest = row_shown row left n (omega (arith, inside)) in_rows in
      let place : row * g.cols + left + n ≡ row * g.cols + (left + n) = omega arith in
      let here = place_inside g is (left + n) row (omega (arith, inside)) in_rows in
      let step = more_up_to (row * g.cols + left + n) (rw place here) in
      let sum = sum_next (λ col. tiles_for (cell_at g col row)) left n in
      let last = ap (λ k. tiles_for (get_or g.cells k (tile_of clear))) place in
      rw next (omega (arith, rest, step, sum, last))

  pub shown_at_most : (area : CellArea) → area.left ≤ area.right → area.top ≤ area.bottom
      → area.right ≤ g.cols → area.bottom ≤ g.rows → shown_in area g ≤ cells_shown g
  shown_at_most area across down in_cols in_rows =
      let last = rows_shown area.top (area.bottom - area.top)
      (omega (arith, down, in_rows)) in
      let least = sum_by-take-le tiles_for g.cells
      ((area.top + (area.bottom - area.top)) * g.cols) in
      omega (arith, last, least) where
        rows_shown : (top n : ℕ) → top + n ≤ g.rows
            → sum_by (λ row. shown_in_row area.left area.right row g) (range_with_len top n)
            ≤ up_to ((top + n) * g.cols)
        rows_shown top zero inside = omega arith
        rows_shown top (suc n) inside =
            let rest = rows_shown top n (omega (arith, inside)) in
            let sum = sum_next (λ row. shown_in_row area.left area.right row g) top n in
            let width : area.left + (area.right - area.left) ≤ g.cols =
            omega (arith, across, in_cols) in
            let row = row_shown (top + n) area.left (area.right - area.left) width
            (omega (arith, inside)) in
            let up : top + n + 1 ≤ g.rows = omega (arith, inside) in
            let fits = mul-le-mul_right g.cols up in
            let past : (top + n) * g.cols + area.left + (area.right - area.left)
            + (g.cols - area.right) ≡ (top + suc n) * g.cols = omega (arith, across, in_cols) in
            let end = rises ((top + n) * g.cols + area.left + (area.right - area.left))
            (g.cols - area.right) (omega (arith, is.cells, fits, across, in_cols)) in
            let at_end = ap up_to past in
            omega (arith, rest, sum, row, end, at_end)
