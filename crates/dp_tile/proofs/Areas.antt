-- Areas of cells that were painted, by their places.
use Rattle.std.proofs.Common.{◌≡◌, ℕ, zero, suc, ◌+◌, ◌-◌, ◌<◌, ◌≤◌, List, [], ◌∷◌, ◌++◌}
use Rattle.std.proofs.Common.{length, get_or, take, drop, ap, sym, ◌∙◌, subst, refl, arith}
use Rattle.std.proofs.Common.{length-append, length-drop, Bool, true, false, cond, ◌&&◌, ⊎_elim}
use Rattle.std.proofs.Common.{Ok, Err}
use Rattle.std.proofs.Math.Seq.{drop-length, take-length}
use Rattle.std.specs.Prelude.{All, replicate, nat_le, nat_lt, Result, OnOk, OnErr}
use Rattle.std.proofs.lemmas.Bool.{cases_lt, leb-true, ltb-true, le-leb, lt-ltb, and_parts}
use Rattle.std.proofs.lemmas.Bool.{false≢true}
use Rattle.std.proofs.lemmas.List.{get_or_append_left, get_or-append-add, length-take-le}
use Rattle.std.proofs.lemmas.List.{get_or-take, get_or-drop, append-nil, take-append-drop}
use Rattle.std.proofs.lemmas.List.Elements.{All-append, All-take, All-drop, All-nil, All-cons}
use Rattle.std.proofs.lemmas.List.Elements.{All-head, All-tail}
use Rattle.dp_blend.specs.Color.{Channels, clear}
use Rattle.dp_tile.specs.declared.area.CellArea.{CellArea}
use Rattle.dp_tile.specs.Tiles.{IsCellRow, IsCellRows, grid_of_rows, tile_of}
use Rattle.dp_tile.specs.Areas.{Painted, IsPaintedOn, is_in_cells, part, with_part}
use Rattle.dp_tile.specs.Areas.{cells_painted, row_painted, rows_painted, area_painted}
use Rattle.dp_tile.proofs.Rows.{cell_of_rows}

-- ---- a part of a list, and others in its place

module _ {X : Type 0} (from to : ℕ) (xs : List X) (order : from ≤ to)
    (within : to ≤ length xs) where
  pub length-part : length (part from to xs) ≡ to - from
  length-part =
      length-take-le (to - from) (drop from xs) (omega (arith, length-drop from xs, order, within))

  pub get_or-part : (j : ℕ) (d : X) → j < to - from
      → get_or (part from to xs) j d ≡ get_or xs (from + j) d
  get_or-part j d below =
      get_or-take (to - from) (drop from xs) j d below ∙ get_or-drop from xs j d

  module _ (others : List X) (long : length others ≡ to - from) where
    first_long : length (take from xs) ≡ from
    first_long = length-take-le from xs (omega (arith, order, within))

    pub length-with_part : length (with_part from to xs others) ≡ length xs
    length-with_part =
        let a = length-append (take from xs) (others ++ drop (to - from) (drop from xs)) in
        let b = length-append others (drop (to - from) (drop from xs)) in
        let k = length-drop (to - from) (drop from xs) in
        let l = length-drop from xs in
        omega (arith, a, b, k, l, first_long, long, order, within)

    pub get_or-before : (i : ℕ) (d : X) → i < from
        → get_or (with_part from to xs others) i d ≡ get_or xs i d
    get_or-before i d below =
        get_or_append_left (take from xs) (others ++ drop (to - from) (drop from xs)) d i
        (omega (arith, first_long, below)) ∙ get_or-take from xs i d below

    after_first : (i : ℕ) (d : X) → from ≤ i
        → get_or (with_part from to xs others) i d
        ≡ get_or (others ++ drop (to - from) (drop from xs)) (i - from) d
    after_first i d after =
        let back : i ≡ length (take from xs) + (i - from) = omega (arith, first_long, after) in
        ap (λ k. get_or (with_part from to xs others) k d) back
        ∙ get_or-append-add (take from xs) (others ++ drop (to - from) (drop from xs)) (i - from) d

    pub get_or-inside : (i : ℕ) (d : X) → from ≤ i → i < to
        → get_or (with_part from to xs others) i d ≡ get_or others (i - from) d
    get_or-inside i d after below =
        after_first i d after
        ∙ get_or_append_left others (drop (to - from) (drop from xs)) d (i - from)
        (omega (arith, long, after, below))

    pub get_or-after : (i : ℕ) (d : X) → to ≤ i
        → get_or (with_part from to xs others) i d ≡ get_or xs i d
    get_or-after i d after =
        let past : i - from ≡ length others + (i - to) = omega (arith, long, order, after) in
        let back : from + (to - from + (i - to)) ≡ i = omega (arith, order, after) in
        after_first i d (omega (arith, order, after))
        ∙ ap (λ k. get_or (others ++ drop (to - from) (drop from xs)) k d) past
        ∙ get_or-append-add others (drop (to - from) (drop from xs)) (i - to) d
        ∙ get_or-drop (to - from) (drop from xs) (i - to) d
        ∙ get_or-drop from xs (to - from + (i - to)) d
        ∙ ap (λ k. get_or xs k d) back

-- a list with its own part in its place
pub with_own_part : {X : Type 0} (from to : ℕ) (xs : List X)
    → with_part from to xs (part from to xs) ≡ xs
with_own_part from to xs =
    ap (λ rest. take from xs ++ rest) (take-append-drop (to - from) (drop from xs))
    ∙ take-append-drop from xs

-- ---- painted cells and rows

module _ (painted : Painted) where
  pub length-cells_painted : (col row : ℕ) (cells : List (List Channels))
      → length (cells_painted painted col row cells) ≡ length cells
  length-cells_painted col row [] = refl
  length-cells_painted col row (cell ∷ cells) =
      let rest = length-cells_painted (col + 1) row cells in omega (arith, rest)

  pub get_or-cells_painted : (col row : ℕ) (cells : List (List Channels)) (k : ℕ)
      (d : List Channels) → k < length cells
      → get_or (cells_painted painted col row cells) k d ≡ painted (col + k) row (get_or cells k d)
  get_or-cells_painted col row [] k d inside = absurd (omega arith)
  get_or-cells_painted col row (cell ∷ cells) zero d inside =
      let same : col + zero ≡ col = omega arith in rw same refl
  get_or-cells_painted col row (cell ∷ cells) (suc k) d inside =
      let next : col + suc k ≡ col + 1 + k = omega arith in
      rw next (get_or-cells_painted (col + 1) row cells k d (omega arith))

  pub length-rows_painted : (left right row : ℕ) (rows : List (List (List Channels)))
      → length (rows_painted painted left right row rows) ≡ length rows
  length-rows_painted left right row [] = refl
  length-rows_painted left right row (cells ∷ rows) =
      let rest = length-rows_painted left right (row + 1) rows in omega (arith, rest)

  pub get_or-rows_painted : (left right row : ℕ) (rows : List (List (List Channels))) (k : ℕ)
      (e : List (List Channels)) → k < length rows
      → get_or (rows_painted painted left right row rows) k e
      ≡ row_painted painted left right (row + k) (get_or rows k e)
  get_or-rows_painted left right row [] k e inside = absurd (omega arith)
  get_or-rows_painted left right row (cells ∷ rows) zero e inside =
      let same : row + zero ≡ row = omega arith in rw same refl
  get_or-rows_painted left right row (cells ∷ rows) (suc k) e inside =
      let next : row + suc k ≡ row + 1 + k = omega arith in
      rw next (get_or-rows_painted left right (row + 1) rows k e (omega arith))

  -- ---- a row

  module _ (left right row : ℕ) (cells : List (List Channels)) (order : left ≤ right)
      (within : right ≤ length cells) where
    long : length (cells_painted painted left row (part left right cells)) ≡ right - left
    long = length-cells_painted left row (part left right cells)
        ∙ length-part left right cells order within

    pub length-row_painted : length (row_painted painted left right row cells) ≡ length cells
    length-row_painted =
        length-with_part left right cells order within
        (cells_painted painted left row (part left right cells)) long

    pub cell-painted : (col : ℕ) (d : List Channels) → left ≤ col → col < right
        → get_or (row_painted painted left right row cells) col d
        ≡ painted col row (get_or cells col d)
    cell-painted col d after below =
        let inside = get_or-inside left right cells order within
        (cells_painted painted left row (part left right cells)) long col d after below in
        let few = length-part left right cells order within in
        let at = get_or-cells_painted left row (part left right cells) (col - left) d
        (omega (arith, few, after, below)) in
        let old = get_or-part left right cells order within (col - left) d
        (omega (arith, after, below)) in
        let back : left + (col - left) ≡ col = omega (arith, after) in
        inside ∙ at ∙ (rw (old, back) refl)

    pub cell-before : (col : ℕ) (d : List Channels) → col < left
        → get_or (row_painted painted left right row cells) col d ≡ get_or cells col d
    cell-before col d below =
        get_or-before left right cells order within
        (cells_painted painted left row (part left right cells)) long col d below

    pub cell-after : (col : ℕ) (d : List Channels) → right ≤ col
        → get_or (row_painted painted left right row cells) col d ≡ get_or cells col d
    cell-after col d after =
        get_or-after left right cells order within
        (cells_painted painted left row (part left right cells)) long col d after

  -- ---- an area

  module _ (area : CellArea) (rows : List (List (List Channels))) (down : area.top ≤ area.bottom)
      (within : area.bottom ≤ length rows) where
    new_long : length (rows_painted painted area.left area.right area.top
        (part area.top area.bottom rows)) ≡ area.bottom - area.top
    new_long =
        length-rows_painted area.left area.right area.top (part area.top area.bottom rows)
        ∙ length-part area.top area.bottom rows down within

    pub length-area_painted : length (area_painted painted area rows) ≡ length rows
    length-area_painted =
        length-with_part area.top area.bottom rows down within
        (rows_painted painted area.left area.right area.top (part area.top area.bottom rows))
        new_long

    pub row-painted : (row : ℕ) (e : List (List Channels)) → area.top ≤ row → row < area.bottom
        → get_or (area_painted painted area rows) row e
        ≡ row_painted painted area.left area.right row (get_or rows row e)
    row-painted row e after below =
        let inside = get_or-inside area.top area.bottom rows down within
        (rows_painted painted area.left area.right area.top (part area.top area.bottom rows))
        new_long row e after below in
        let few = length-part area.top area.bottom rows down within in
        let at = get_or-rows_painted area.left area.right area.top (part area.top area.bottom rows)
        (row - area.top) e (omega (arith, few, after, below)) in
        let old = get_or-part area.top area.bottom rows down within (row - area.top) e
        (omega (arith, after, below)) in
        let back : area.top + (row - area.top) ≡ row = omega (arith, after) in
        inside ∙ at ∙ (rw (old, back) refl)

    pub row-before : (row : ℕ) (e : List (List Channels)) → row < area.top
        → get_or (area_painted painted area rows) row e ≡ get_or rows row e
    row-before row e below =
        get_or-before area.top area.bottom rows down within
        (rows_painted painted area.left area.right area.top (part area.top area.bottom rows))
        new_long row e below

    pub row-after : (row : ℕ) (e : List (List Channels)) → area.bottom ≤ row
        → get_or (area_painted painted area rows) row e ≡ get_or rows row e
    row-after row e after =
        get_or-after area.top area.bottom rows down within
        (rows_painted painted area.left area.right area.top (part area.top area.bottom rows))
        new_long row e after

-- ---- a row of one colour

-- all elements of a list, and others in the place of all
pub part_of_all : {X : Type 0} (xs : List X) → part 0 (length xs) xs ≡ xs
part_of_all xs =
    let none : length xs - 0 ≡ length xs = omega arith in rw none (take-length xs)

pub with_all : {X : Type 0} (xs others : List X) → with_part 0 (length xs) xs others ≡ others
with_all xs others =
    let none : length xs - 0 ≡ length xs = omega arith in
    rw (none, drop-length xs) (append-nil others)

module _ (painted : Painted) (row : ℕ) (p q : Channels) where
  -- cells of one colour, each of which becomes of another
  pub cells_become : (col n : ℕ) → ((k : ℕ) → col ≤ k → k < col + n
      → painted k row (tile_of p) ≡ tile_of q)
      → cells_painted painted col row (replicate n (tile_of p)) ≡ replicate n (tile_of q)
  cells_become col zero each = refl
  cells_become col (suc n) each =
      let first = each col (omega arith) (omega arith) in
      let rest = cells_become (col + 1) n
      (λ k after below. each k (omega (arith, after)) (omega (arith, below))) in
      rw (first, rest) refl

  -- a row whose cells are all of one colour and become of another
  pub row_becomes : (n : ℕ) (cells : List (List Channels)) → length cells ≡ n
      → cells ≡ replicate n (tile_of p)
      → ((k : ℕ) → k < n → painted k row (tile_of p) ≡ tile_of q)
      → row_painted painted 0 n row cells ≡ replicate n (tile_of q)
  row_becomes n cells long plain each =
      subst (λ k. row_painted painted 0 k row cells ≡ replicate n (tile_of q)) long
      (with_all cells (cells_painted painted 0 row (part 0 (length cells) cells))
      ∙ ap (cells_painted painted 0 row) (part_of_all cells ∙ plain)
      ∙ cells_become 0 n (λ k after below. each k (omega (arith, below))))

-- ---- the rows stay rows of cells

abbrev Long : List Channels → Type 0
Long cell = length cell ≡ 4096

abbrev pub KeepsCount : Painted → Type 0
KeepsCount painted = (col row : ℕ) (pixels : List Channels) → length pixels ≡ 4096
    → length (painted col row pixels) ≡ 4096

module _ (painted : Painted) (keeps : KeepsCount painted) where
  All-cells_painted : (col row : ℕ) (cells : List (List Channels)) → All Long cells
      → All Long (cells_painted painted col row cells)
  All-cells_painted col row [] each = All-nil Long
  All-cells_painted col row (cell ∷ cells) each =
      All-cons Long (painted col row cell) (cells_painted painted (col + 1) row cells)
      (keeps col row cell (All-head Long cell cells each))
      (All-cells_painted (col + 1) row cells (All-tail Long cell cells each))

  module _ (cols left right : ℕ) (order : left ≤ right) (within : right ≤ cols) where
    is_row-painted : (row : ℕ) (cells : List (List Channels)) → IsCellRow cols cells
        → IsCellRow cols (row_painted painted left right row cells)
    is_row-painted row cells is =
        let inside : right ≤ length cells = omega (arith, is.cells, within) in
        record {
          cells = length-row_painted painted left right row cells order inside ∙ is.cells;
          pixels =
              All-append Long (take left cells) _ (All-take Long left cells is.pixels)
              (All-append Long (cells_painted painted left row (part left right cells)) _
              (All-cells_painted left row (part left right cells)
              (All-take Long (right - left) (drop left cells) (All-drop Long left cells is.pixels)))
              (All-drop Long (right - left) (drop left cells)
              (All-drop Long left cells is.pixels)));
        }

    All-rows_painted : (row : ℕ) (rows : List (List (List Channels))) → All (IsCellRow cols) rows
        → All (IsCellRow cols) (rows_painted painted left right row rows)
    All-rows_painted row [] each = All-nil (IsCellRow cols)
    All-rows_painted row (cells ∷ rows) each =
        All-cons (IsCellRow cols) (row_painted painted left right row cells)
        (rows_painted painted left right (row + 1) rows)
        (is_row-painted row cells (All-head (IsCellRow cols) cells rows each))
        (All-rows_painted (row + 1) rows (All-tail (IsCellRow cols) cells rows each))

  pub is_rows-area : (cols count : ℕ) (area : CellArea) (rows : List (List (List Channels)))
      → IsCellRows cols count rows → area.left ≤ area.right → area.top ≤ area.bottom
      → area.right ≤ cols → area.bottom ≤ count
      → IsCellRows cols count (area_painted painted area rows)
  is_rows-area cols count area rows is across down in_cols in_rows =
      let Row = IsCellRow cols in
      let inside : area.bottom ≤ length rows = omega (arith, is.count, in_rows) in
      record {
        few_cols = is.few_cols;
        few_rows = is.few_rows;
        count = length-area_painted painted area rows down inside ∙ is.count;
        each =
            All-append Row (take area.top rows) _ (All-take Row area.top rows is.each)
            (All-append Row
            (rows_painted painted area.left area.right area.top (part area.top area.bottom rows)) _
            (All-rows_painted cols area.left area.right across in_cols area.top
            (part area.top area.bottom rows)
            (All-take Row (area.bottom - area.top) (drop area.top rows)
            (All-drop Row area.top rows is.each)))
            (All-drop Row (area.bottom - area.top) (drop area.top rows)
            (All-drop Row area.top rows is.each)));
      }

-- ---- the grid was painted

either : {X : Type 0} (b : Bool) (x y z : X) → (b ≡ true → x ≡ y) → (b ≡ false → x ≡ z)
    → x ≡ cond b y z
either true x y z is_true is_false = is_true refl
either false x y z is_true is_false = is_false refl

inside_all : (area : CellArea) (col row : ℕ) → area.left ≤ col → col < area.right → area.top ≤ row
    → row < area.bottom → is_in_cells area col row ≡ true
inside_all area col row a b c d =
    rw (
      le-leb area.left col a,
      lt-ltb col area.right b,
      le-leb area.top row c,
      lt-ltb row area.bottom d,
    ) refl

module _ (painted : Painted) (cols count : ℕ) (area : CellArea)
    (rows : List (List (List Channels))) (is : IsCellRows cols count rows)
    (across : area.left ≤ area.right) (down : area.top ≤ area.bottom)
    (in_cols : area.right ≤ cols) (in_rows : area.bottom ≤ count) where
  inside : area.bottom ≤ length rows
  inside = omega (arith, is.count, in_rows)

  wide : (row : ℕ) → row < area.bottom → area.right ≤ length (get_or rows row [])
  wide row below =
      let long = (is.each row [] (omega (arith, is.count, in_rows, below))).cells in
      omega (arith, long, in_cols)

  cell_in : (col row : ℕ) → is_in_cells area col row ≡ true
      → get_or (get_or (area_painted painted area rows) row []) col (tile_of clear)
      ≡ painted col row (get_or (get_or rows row []) col (tile_of clear))
  cell_in col row is_true =
      let all = and_parts (nat_le area.left col && nat_lt col area.right && nat_le area.top row)
      (nat_lt row area.bottom) is_true in
      let three = and_parts (nat_le area.left col && nat_lt col area.right) (nat_le area.top row)
      all.0 in
      let two = and_parts (nat_le area.left col) (nat_lt col area.right) three.0 in
      let below = ltb-true row area.bottom all.1 in
      ap (λ cells. get_or cells col (tile_of clear))
      (row-painted painted area rows down inside row [] (leb-true area.top row three.1) below)
      ∙ cell-painted painted area.left area.right row (get_or rows row []) across (wide row below)
      col (tile_of clear) (leb-true area.left col two.0) (ltb-true col area.right two.1)

  cell_out : (col row : ℕ) → is_in_cells area col row ≡ false
      → get_or (get_or (area_painted painted area rows) row []) col (tile_of clear)
      ≡ get_or (get_or rows row []) col (tile_of clear)
  cell_out col row is_false =
      let first = λ (cells : List (List Channels)). get_or cells col (tile_of clear) in
      ⊎_elim
      (λ (above : row < area.top). ap first
      (row-before painted area rows down inside row [] above))
      (λ (after : area.top ≤ row). ⊎_elim
      (λ (below : row < area.bottom). ap first
      (row-painted painted area rows down inside row [] after below)
      ∙ ⊎_elim
      (λ (left : col < area.left). cell-before painted area.left area.right row
      (get_or rows row []) across (wide row below) col (tile_of clear) left)
      (λ (from : area.left ≤ col). ⊎_elim
      (λ (to : col < area.right). absurd
      (false≢true (sym is_false ∙ inside_all area col row from to after below)))
      (λ (right : area.right ≤ col). cell-after painted area.left area.right row
      (get_or rows row []) across (wide row below) col (tile_of clear) right)
      (cases_lt col area.right))
      (cases_lt col area.left))
      (λ (under : area.bottom ≤ row). ap first
      (row-after painted area rows down inside row [] under))
      (cases_lt row area.bottom))
      (cases_lt row area.top)

  pub painted_on : IsCellRows cols count (area_painted painted area rows)
      → IsPaintedOn area painted (grid_of_rows cols count rows)
      (grid_of_rows cols count (area_painted painted area rows))
  painted_on is_new =
      record {
        cols = refl;
        rows = refl;
        cells = λ col row col_in row_in.
            rw (
              ← cell_of_rows cols count rows col row is col_in row_in,
              ← cell_of_rows cols count (area_painted painted area rows) col row is_new col_in
                  row_in,
            )
            (either (is_in_cells area col row) _ _ _ (cell_in col row) (cell_out col row));
      }

-- what holds at `Ok` and at `Err`
pub at_both : {X T E : Type 0} (P : X → Type 0) (r : Result T E) (new a b : X)
    → OnOk r (new ≡ a) → OnErr r (new ≡ b) → P a → P b → P new
at_both P (Ok x) new a b ok err p q = subst P (sym ok) p
at_both P (Err e) new a b ok err p q = subst P (sym err) q
