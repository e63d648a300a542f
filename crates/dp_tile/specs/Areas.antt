-- Rectangles of cells, and what is painted on them.
use Rattle.std.specs.Prelude.{◌≡◌, ℕ, ◌+◌, ◌-◌, ◌<◌, List, [], ◌∷◌, ◌++◌, take, drop}
use Rattle.std.specs.Prelude.{Bool, ◌&&◌, nat_le, nat_lt, if◌then◌else◌, ◌≤◌, ◌≢◌, Result}
use Rattle.std.specs.Prelude.{MatchResult}
use Rattle.std.specs.List.{range_with_len, sum_by}
use Rattle.dp_blend.specs.Color.{Channels}
use Rattle.dp_tile.specs.declared.area.CellArea.{CellArea}
use Rattle.dp_tile.specs.Tiles.{TileGrid, cell_at, tiles_for}

-- a painter by columns and rows: the pixels after it, of the tile there that has these pixels
abbrev pub Painted : Type 0
Painted = ℕ → ℕ → List Channels → List Channels

-- the cell at a column and a row is in the area
abbrev pub is_in_cells : CellArea → ℕ → ℕ → Bool
is_in_cells area col row =
    nat_le area.left col && nat_lt col area.right && nat_le area.top row && nat_lt row area.bottom

-- the grid was painted on an area: each cell there is what the painter makes of the old one, and
-- all others stay
pub record IsPaintedOn (area : CellArea) (painted : Painted) (old new : TileGrid) : Type 0 where
  pub cols : new.cols ≡ old.cols
  pub rows : new.rows ≡ old.rows
  pub cells : (col row : ℕ) → col < old.cols → row < old.rows
      → cell_at new col row
      ≡ (if is_in_cells area col row
      then painted col row (cell_at old col row)
      else cell_at old col row)

-- how many cells of a row show something, from a column on before another
abbrev pub shown_in_row : ℕ → ℕ → ℕ → TileGrid → ℕ
shown_in_row left right row g =
    sum_by (λ col. tiles_for (cell_at g col row)) (range_with_len left (right - left))

-- how many cells of an area show something
abbrev pub shown_in : CellArea → TileGrid → ℕ
shown_in area g =
    sum_by (λ row. shown_in_row area.left area.right row g)
    (range_with_len area.top (area.bottom - area.top))

-- ---- in the words of the code

-- the cells of a row from one column on before another were painted, and no others
pub record IsRowPainted (painted : Painted) (row left right : ℕ) (old new : TileGrid)
    : Type 0 where
  pub cols : new.cols ≡ old.cols
  pub rows : new.rows ≡ old.rows
  pub inside : (col : ℕ) → left ≤ col → col < right
      → cell_at new col row ≡ painted col row (cell_at old col row)
  pub before : (col : ℕ) → col < left → cell_at new col row ≡ cell_at old col row
  pub after : (col : ℕ) → right ≤ col → col < old.cols → cell_at new col row ≡ cell_at old col row
  pub others : (col other : ℕ) → other ≢ row → col < old.cols
      → cell_at new col other ≡ cell_at old col other

-- the rows of an area before a row were painted, and no other cells
pub record IsUpTo (painted : Painted) (area : CellArea) (row : ℕ) (old new : TileGrid)
    : Type 0 where
  pub cols : new.cols ≡ old.cols
  pub rows : new.rows ≡ old.rows
  pub inside : (col k : ℕ) → area.left ≤ col → col < area.right → area.top ≤ k → k < row
      → cell_at new col k ≡ painted col k (cell_at old col k)
  pub before : (col k : ℕ) → col < area.left → cell_at new col k ≡ cell_at old col k
  pub after : (col k : ℕ) → area.right ≤ col → col < old.cols
      → cell_at new col k ≡ cell_at old col k
  pub above : (col k : ℕ) → k < area.top → col < old.cols → cell_at new col k ≡ cell_at old col k
  pub below : (col k : ℕ) → row ≤ k → col < old.cols → cell_at new col k ≡ cell_at old col k

-- after a call that went well a value is the wanted one, and after one that failed it stayed
abbrev pub BecameOrStayed : {X T E : Type 0} → Result T E → X → X → X → Type 0
BecameOrStayed result old new wanted = MatchResult result (λ _. new ≡ wanted) (λ _. new ≡ old)

-- the elements of a list from one index on before another
abbrev pub part : {X : Type 0} → ℕ → ℕ → List X → List X
part from to xs = take (to - from) (drop from xs)

-- the list with others in the place of these
abbrev pub with_part : {X : Type 0} → ℕ → ℕ → List X → List X → List X
with_part from to xs others = take from xs ++ (others ++ drop (to - from) (drop from xs))

-- cells of a row, which begin at a column, each painted
abbrev pub cells_painted : Painted → ℕ → ℕ → List (List Channels) → List (List Channels)
cells_painted painted col row [] = []
cells_painted painted col row (cell ∷ cells) =
    painted col row cell ∷ cells_painted painted (col + 1) row cells

-- the row with its cells from column left on before right painted
abbrev pub row_painted : Painted → ℕ → ℕ → ℕ → List (List Channels) → List (List Channels)
row_painted painted left right row cells =
    with_part left right cells (cells_painted painted left row (part left right cells))

-- rows, which begin at a number, each painted
abbrev pub rows_painted : Painted → ℕ → ℕ → ℕ → List (List (List Channels))
    → List (List (List Channels))
rows_painted painted left right row [] = []
rows_painted painted left right row (cells ∷ rows) =
    row_painted painted left right row cells ∷ rows_painted painted left right (row + 1) rows

-- all rows, those of the area painted
abbrev pub area_painted : Painted → CellArea → List (List (List Channels))
    → List (List (List Channels))
area_painted painted area rows =
    with_part area.top area.bottom rows
    (rows_painted painted area.left area.right area.top (part area.top area.bottom rows))
