-- Rows of cells, joined.
use Rattle.std.proofs.Common.{◌≡◌, ℕ, zero, suc, ◌+◌, ◌-◌, ◌*◌, ◌<◌, ◌≤◌, List, [], ◌∷◌, ◌++◌}
use Rattle.std.proofs.Common.{length, get_or, set, replicate, ap, sym, ◌∙◌, subst, refl, arith}
use Rattle.std.proofs.Common.{zero-mul, zero-add, suc-mul, length-append}
use Rattle.std.specs.Prelude.{All, slice_index_or}
use Rattle.std.proofs.Math.Nat.{mul_comm, mul-suc}
use Rattle.std.specs.List.{flat_map}
use Rattle.std.proofs.lemmas.List.{set-append_left, set-append_right, get_or_append_left}
use Rattle.std.proofs.lemmas.List.{get_or-append-add, length-replicate}
use Rattle.std.proofs.lemmas.List.{replicate-append-replicate}
use Rattle.std.proofs.lemmas.List.Elements.{All-replicate, All-append, All-nil, All-head, All-tail}
use Rattle.std.proofs.lemmas.List.Elements.{All-weaker}
use Rattle.dp_blend.specs.Color.{Channels, clear}
use Rattle.dp_tile.specs.Tiles.{IsGrid, IsCellRow, IsCellRows, grid_of_rows, with_cell_in_rows}
use Rattle.dp_tile.specs.Tiles.{tile_of, TileGrid, cell_at, with_cell, clear_grid}
use Rattle.dp_tile.proofs.Tiles.{length-tile_of}

abbrev pub joined : {X : Type 0} → List (List X) → List X
joined rows = flat_map (λ row. row) rows

abbrev pub AllLong : {X : Type 0} → ℕ → List (List X) → Type 0
AllLong size rows = All (λ row. length row ≡ size) rows

module _ {X : Type 0} (size : ℕ) where
  -- how many elements rows of one length have
  pub length-joined : (rows : List (List X)) → AllLong size rows
      → length (joined rows) ≡ length rows * size
  length-joined [] long = sym (zero-mul size)
  length-joined (row ∷ rows) long =
      let rest = length-joined rows (All-tail (λ row. length row ≡ size) row rows long) in
      let first = All-head (λ row. length row ≡ size) row rows long in
      rw (length-append row (joined rows), rest, first)
      (omega (arith, suc-mul (length rows) size))

  -- an element of one of them
  pub get_or-joined : (rows : List (List X)) (i j : ℕ) (d : X) (e : List X) → AllLong size rows
      → i < length rows → j < size
      → get_or (joined rows) (i * size + j) d ≡ get_or (get_or rows i e) j d
  get_or-joined [] i j d e long inside below = absurd (omega arith)
  get_or-joined (row ∷ rows) zero j d e long inside below =
      let first = All-head (λ row. length row ≡ size) row rows long in
      let fits : j < length row = rw first below in
      rw (zero-mul, zero-add) (get_or_append_left row (joined rows) d j fits)
  get_or-joined (row ∷ rows) (suc i) j d e long inside below =
      let first = All-head (λ row. length row ≡ size) row rows long in
      let rest = All-tail (λ row. length row ≡ size) row rows long in
      let at : suc i * size + j ≡ length row + (i * size + j) = omega (arith, first, suc-mul i size)
      in
      rw at
      (get_or-append-add row (joined rows) (i * size + j) d
      ∙ get_or-joined rows i j d e rest (omega arith) below)

  -- a write in one of them
  pub set-joined : (rows : List (List X)) (i j : ℕ) (v : X) (e : List X) → AllLong size rows
      → i < length rows → j < size
      → joined (set rows i (set (get_or rows i e) j v)) ≡ set (joined rows) (i * size + j) v
  set-joined [] i j v e long inside below = absurd (omega arith)
  set-joined (row ∷ rows) zero j v e long inside below =
      let first = All-head (λ row. length row ≡ size) row rows long in
      let fits : j < length row = rw first below in
      rw (zero-mul, zero-add, set-append_left row (joined rows) j v fits) refl
  set-joined (row ∷ rows) (suc i) j v e long inside below =
      let first = All-head (λ row. length row ≡ size) row rows long in
      let rest = All-tail (λ row. length row ≡ size) row rows long in
      let at : suc i * size + j - size ≡ i * size + j = omega (arith, suc-mul i size) in
      let past : size ≤ suc i * size + j = omega (arith, suc-mul i size) in
      rw (set-append_right row (joined rows) size (suc i * size + j) v first past, at)
      (ap (λ t. row ++ t) (set-joined rows i j v e rest (omega arith) below))

-- rows of one element are a list of it
pub joined-replicate : {X : Type 0} (x : X) (cols rows : ℕ)
    → joined (replicate rows (replicate cols x)) ≡ replicate (cols * rows) x
joined-replicate x cols zero =
    let none : cols * zero ≡ 0 = omega arith in rw none refl
joined-replicate x cols (suc rows) =
    let more : cols * suc rows ≡ cols + cols * rows = omega (arith, mul-suc cols rows) in
    rw (more, ← replicate-append-replicate cols (cols * rows) x)
    (ap (λ t. replicate cols x ++ t) (joined-replicate x cols rows))

-- what holds of all elements of each row
pub All-joined : {X : Type 0} (P : X → Type 0) (rows : List (List X)) → All (All P) rows
    → All P (joined rows)
All-joined P [] each = All-nil P
All-joined P (row ∷ rows) each =
    All-append P row (joined rows) (All-head (All P) row rows each)
    (All-joined P rows (All-tail (All P) row rows each))

-- ---- the rows of a grid

rows_long : (cols rows : ℕ) (all : List (List (List Channels))) → IsCellRows cols rows all
    → AllLong cols all
rows_long cols rows all is = All-weaker (IsCellRow cols) (λ row. length row ≡ cols)
    (λ row is_row. is_row.cells) all is.each

-- they make a grid
pub is_grid_of_rows : (cols rows : ℕ) (all : List (List (List Channels))) → IsCellRows cols rows all
    → IsGrid (grid_of_rows cols rows all)
is_grid_of_rows cols rows all is =
    let count = length-joined cols all (rows_long cols rows all is) in
    record {
      cols = is.few_cols;
      rows = is.few_rows;
      cells = count ∙ (rw is.count (mul_comm rows cols));
      pixels =
          All-joined (λ (cell : List Channels). length cell ≡ 4096) all
          (All-weaker (IsCellRow cols) (All (λ (cell : List Channels). length cell ≡ 4096))
          (λ row is_row. is_row.pixels) all is.each);
    }

-- a cell of it
pub cell_of_rows : (cols rows : ℕ) (all : List (List (List Channels))) (col row : ℕ)
    → IsCellRows cols rows all → col < cols → row < rows
    → slice_index_or (slice_index_or all row []) col (tile_of clear)
    ≡ cell_at (grid_of_rows cols rows all) col row
cell_of_rows cols rows all col row is in_cols in_rows =
    sym (get_or-joined cols all row col (tile_of clear) [] (rows_long cols rows all is)
    (omega (arith, is.count)) in_cols)

-- it with other pixels in a cell
pub with_cell_of_rows : (cols rows : ℕ) (all : List (List (List Channels))) (col row : ℕ)
    (pixels : List Channels) → IsCellRows cols rows all → col < cols → row < rows
    → grid_of_rows cols rows (with_cell_in_rows all col row pixels)
    ≡ with_cell (grid_of_rows cols rows all) col row pixels
with_cell_of_rows cols rows all col row pixels is in_cols in_rows =
    ap (λ (cells : List (List Channels)). record { cols = cols; rows = rows; cells = cells })
    (set-joined cols all row col pixels [] (rows_long cols rows all is)
    (omega (arith, is.count)) in_cols)

-- rows that show nothing
pub is_rows-clear : (cols rows : ℕ) → cols ≤ 64 → rows ≤ 64
    → IsCellRows cols rows (replicate rows (replicate cols (tile_of clear)))
is_rows-clear cols rows few_cols few_rows =
    record {
      few_cols = few_cols;
      few_rows = few_rows;
      count = length-replicate rows (replicate cols (tile_of clear));
      each =
          All-replicate (IsCellRow cols) rows (replicate cols (tile_of clear))
          (record {
            cells = length-replicate cols (tile_of clear);
            pixels =
                All-replicate (λ (cell : List Channels). length cell ≡ 4096) cols (tile_of clear)
                (length-tile_of clear);
          });
    }

pub grid_of_clear_rows : (cols rows : ℕ)
    → grid_of_rows cols rows (replicate rows (replicate cols (tile_of clear)))
    ≡ clear_grid cols rows
grid_of_clear_rows cols rows =
    ap (λ (cells : List (List Channels)). record { cols = cols; rows = rows; cells = cells })
    (joined-replicate (tile_of clear) cols rows)

-- ---- through the view of a grid

pub cell_of_view : (cols rows : ℕ) (all : List (List (List Channels))) (g : TileGrid) (col row : ℕ)
    → grid_of_rows cols rows all ≡ g → IsCellRows cols rows all → col < g.cols → row < g.rows
    → slice_index_or (slice_index_or all row []) col (tile_of clear) ≡ cell_at g col row
cell_of_view cols rows all g col row view is =
    subst (λ (h : TileGrid). col < h.cols → row < h.rows
    → slice_index_or (slice_index_or all row []) col (tile_of clear) ≡ cell_at h col row) view
    (λ in_cols in_rows. cell_of_rows cols rows all col row is in_cols in_rows)

pub with_cell_of_view : (cols rows : ℕ) (all : List (List (List Channels))) (g : TileGrid)
    (col row : ℕ) (pixels : List Channels) → grid_of_rows cols rows all ≡ g
    → IsCellRows cols rows all → col < g.cols → row < g.rows
    → grid_of_rows cols rows (with_cell_in_rows all col row pixels) ≡ with_cell g col row pixels
with_cell_of_view cols rows all g col row pixels view is =
    subst (λ (h : TileGrid). col < h.cols → row < h.rows
    → grid_of_rows cols rows (with_cell_in_rows all col row pixels) ≡ with_cell h col row pixels)
    view
    (λ in_cols in_rows. with_cell_of_rows cols rows all col row pixels is in_cols in_rows)
