-- The pixels of a layer on which operations wait.
use Rattle.std.proofs.Common.{◌≡◌, ℕ, ◌+◌, ◌*◌, ◌/◌, ◌%◌, ◌<◌, ◌≤◌, List, [], length}
use Rattle.std.proofs.Common.{take, ap, sym, ◌∙◌, refl, true, false, arith, slice_index_or, subst}
use Rattle.std.proofs.Common.{Ok, Err, ⊎_elim, cond, leb}
use Rattle.std.specs.Prelude.{ℤ, pos, negsuc, Bool, Option, Some, None, IfNone, IfSome}
use Rattle.std.specs.Prelude.{Result, OnOk, OnErr, IsTrue}
use Rattle.std.specs.Option.{ForSome}
use Rattle.std.proofs.lemmas.Bool.{cases_Bool, false≢true, lt-ltb}
use Rattle.std.proofs.lemmas.Int.{ints}
use Rattle.std.proofs.lemmas.List.{get_or-replicate, take_all}
use Rattle.std.proofs.Math.Nat.{mul-le-mul_left}
use Rattle.dp_blend.specs.Color.{Channels, clear}
use Rattle.dp_blend.specs.Canvas.{canvas_of, pixel_at}
use Rattle.dp_blend.proofs.Canvas.{canvas_of-same, length-canvas_of, pixel_at-canvas_of}
use Rattle.dp_msg_draw.specs.declared.draw.Draw.{Draw}
use Rattle.dp_msg_draw.specs.declared.draw.Draw.TheVariants as draws
use Rattle.dp_pixels.specs.Commands.{IsDabs, drawn, pixel_of}
use Rattle.dp_pixels.specs.Commands.{pixels_after}
use Rattle.dp_pixels.specs.Feet.{foot, is_in_foot}
use Rattle.dp_pixels.specs.Rectangles.{canvas_rect, is_in}
use Rattle.dp_pixels.specs.Tiles.{ShowsTile, tile_pixel, tiles_along}
use Rattle.dp_pixels.specs.declared.resize.Resize.{Resize}
use Rattle.dp_pixels.specs.Resizes.{pixels_resized}
use Rattle.dp_pixels.proofs.Rectangles.{is_in-true}
use Rattle.dp_tile.specs.declared.area.CellArea.{CellArea}
use Rattle.dp_tile.specs.Areas.{IsPaintedOn, is_in_cells}
use Rattle.dp_tile.specs.Tiles.{TileGrid, cell_at, clear_grid, grid_pixel, grid_pixels}
use Rattle.dp_tile.specs.Tiles.{tile_of, tile_pixels}
use Rattle.dp_tile.proofs.Tiles.{pixel-tile_of}
use Rattle.dp_ops.specs.declared.op.TileOp.{TileOp}
use Rattle.dp_ops.specs.declared.lists.Finish.TheVariants.{Clear}
use Rattle.dp_shift.specs.Grids.{IsGridOf}
use Rattle.dp_paint.specs.Painting.{IsPainting}
use Rattle.dp_shift.specs.Reading.{IsResized}
use Rattle.dp_ops.specs.Ops.{MayWait, OnTile, on_tile, ops_at, tile_after}
use Rattle.dp_ops.specs.Lists.{HaveSame, IsChangedOn, IsFiled, IsFinished, IsInside}
use Rattle.dp_paint.specs.Layers.{LayerOf}
use Rattle.dp_ops.specs.Lists.{Lists, Waiting, listed_at, no_list}
use Rattle.dp_paint.specs.Layers.{layer_pixels}
use Rattle.dp_ops.specs.Lists.{StandsOn, waiting_tile}
use Rattle.dp_ops.proofs.Filed.{waits_stand}
use Rattle.dp_paint.specs.Layers.{waiting_pixel}
use Rattle.dp_ops.proofs.Ops.{pixel-tile_after}
use Rattle.dp_paint.proofs.Painting.{StaysOutside, by_cells}
use Rattle.dp_shift.proofs.AreaLemmas.{pixel_in, pixel_off}
use Rattle.dp_ops.proofs.Waits.{inside_by, inside_facts}
use Rattle.dp_pixels.proofs.Rectangles.{on_canvas}

-- ---- pixels

module _ (width height : ℕ) (commands : List Draw) (lists : Lists) (g : TileGrid) where
  -- there is a pixel for each place
  pub length-layer : length (layer_pixels width height commands lists g) ≡ width * height
  length-layer = length-canvas_of width height (waiting_pixel width height commands lists g)

  -- one of them
  pub pixel-layer : (x y : ℕ) → x < width → y < height
      → pixel_at width (layer_pixels width height commands lists g) x y ≡ waiting_pixel width
      height commands lists g x y
  pixel-layer x y in_x in_y =
      pixel_at-canvas_of width height (waiting_pixel width height commands lists g) x y in_x in_y

-- lists of the same operations make the same layer
pub same_pixels : (width height : ℕ) (commands : List Draw) (old new : Lists) (g : TileGrid) →
    width ≤ 4096
    → HaveSame old new → layer_pixels width height commands new g ≡ layer_pixels width height
    commands old g
same_pixels width height commands old new g wide same =
    canvas_of-same width height (waiting_pixel width height commands new g)
    (waiting_pixel width height commands old g)
    (λ x y in_x in_y.
    ap (λ (ops : List TileOp). ops_at (on_tile width height commands (x / 64) (y / 64)) ops
    (x % 64) (y % 64) (grid_pixel g x y))
    (same (x / 64) (y / 64) (omega (arith, in_x, wide))))

-- nothing waits if there is no list
nothing : (lists : Lists) → lists.lists ≡ [] → (col row : ℕ) → listed_at lists col row ≡ []
nothing lists none col row = rw none (either (leb lists.first row))
  where
    either : (t : Bool) → (cond t no_list no_list).ops ≡ []
    either true = refl
    either false = refl

-- a layer on which nothing waits
pub no_lists : (width height : ℕ) (commands : List Draw) (lists : Lists) (g : TileGrid) →
    lists.lists ≡ []
    → layer_pixels width height commands lists g ≡ grid_pixels width height g
no_lists width height commands lists g none =
    canvas_of-same width height (waiting_pixel width height commands lists g) (grid_pixel g)
    (λ x y in_x in_y.
    ap (λ (ops : List TileOp). ops_at (on_tile width height commands (x / 64) (y / 64)) ops
    (x % 64) (y % 64) (grid_pixel g x y))
    (nothing lists none (x / 64) (y / 64)))

-- ---- tiles that are read

-- the k-th pixel of a tile that is given by its colour or by its pixels
pixel_of_tile : (color : Option Channels) (pixels : List Channels) (k : ℕ) → k < 4096
    → tile_pixel color pixels k ≡ slice_index_or (tile_pixels color pixels) k clear
pixel_of_tile (Some p) pixels k inside = sym (pixel-tile_of p k inside)
pixel_of_tile None pixels k inside = refl

-- a tile of these pixels shows the canvas that has them at its places
shows_cell : (width height : ℕ) (pixel : ℕ → ℕ → Channels) (col row : ℕ)
    (color : Option Channels) (pixels cell : List Channels) → tile_pixels color pixels ≡ cell
    → ((i j : ℕ) → i < 64 → j < 64 → pixel_at 64 cell i j ≡ pixel (col * 64 + i) (row * 64 + j))
    → ShowsTile width height (canvas_of width height pixel) col row color pixels
shows_cell width height pixel col row color pixels cell is each k inside in_x in_y =
    let i = k % 64 in
    let j = k / 64 in
    let place : k ≡ j * 64 + i = omega arith in
    pixel_of_tile color pixels k inside
    ∙ ap (λ (n : ℕ). slice_index_or (tile_pixels color pixels) n clear) place
    ∙ ap (λ (ps : List Channels). pixel_at 64 ps i j) is
    ∙ each i j (omega arith) (omega (arith, inside))
    ∙ sym (pixel_at-canvas_of width height pixel (col * 64 + i) (row * 64 + j) in_x in_y)

-- the cell at a column and a row shows the grid
pub shows_grid : (width height : ℕ) (g : TileGrid) (col row : ℕ) (color : Option Channels)
    (pixels : List Channels) → tile_pixels color pixels ≡ cell_at g col row
    → ShowsTile width height (grid_pixels width height g) col row color pixels
shows_grid width height g col row color pixels is =
    shows_cell width height (grid_pixel g) col row color pixels (cell_at g col row) is
    (λ i j in_x in_y.
    let at_col : (col * 64 + i) / 64 ≡ col = omega (arith, in_x) in
    let at_row : (row * 64 + j) / 64 ≡ row = omega (arith, in_y) in
    let at_i : (col * 64 + i) % 64 ≡ i = omega (arith, in_x) in
    let at_j : (row * 64 + j) % 64 ≡ j = omega (arith, in_y) in
    rw (at_col, at_row, at_i, at_j) refl)

-- and after what waits on it the layer
pub shows_tile : (width height : ℕ) (commands : List Draw) (lists : Lists) (g : TileGrid)
    (col row : ℕ)
    (color : Option Channels) (pixels : List Channels)
    → tile_pixels color pixels ≡ tile_after (on_tile width height commands col row)
    (listed_at lists col row) (cell_at g col row)
    → ShowsTile width height (layer_pixels width height commands lists g) col row color pixels
shows_tile width height commands lists g col row color pixels is =
    shows_cell width height (waiting_pixel width height commands lists g) col row color pixels
    (tile_after (on_tile width height commands col row) (listed_at lists col row)
    (cell_at g col row)) is
    (λ i j in_x in_y.
    let at_col : (col * 64 + i) / 64 ≡ col = omega (arith, in_x) in
    let at_row : (row * 64 + j) / 64 ≡ row = omega (arith, in_y) in
    let at_i : (col * 64 + i) % 64 ≡ i = omega (arith, in_x) in
    let at_j : (row * 64 + j) % 64 ≡ j = omega (arith, in_y) in
    pixel-tile_after (on_tile width height commands col row) (listed_at lists col row)
    (cell_at g col row) i j in_x in_y
    ∙ (rw (at_col, at_row, at_i, at_j) refl))

-- a tile that was read has the pixels of its cell
pub read_cell : (color : Option Channels) (pixels cell : List Channels)
    → IfSome color (λ p. cell ≡ tile_of p) → IfNone color (pixels ≡ cell)
    → tile_pixels color pixels ≡ cell
read_cell (Some p) pixels cell some none = sym some
read_cell None pixels cell some none = none

-- ---- layers

-- the layer of a grid and of what waits
abbrev pub layer_of : ℕ → ℕ → List Draw → Lists → TileGrid → LayerOf
layer_of width height commands lists g =
    record { width = width; height = height; pixels = layer_pixels width height commands lists g }

-- the tile at a column and a row, after what waits on it, shows the layer
pub shows_layer : (layer : LayerOf) (width height : ℕ) (commands : List Draw) (lists : Lists)
    (g : TileGrid) (col row : ℕ) (ops : List TileOp) (color : Option Channels)
    (pixels : List Channels) → layer_of width height commands lists g ≡ layer
    → ops ≡ listed_at lists col row
    → tile_pixels color pixels ≡ tile_after (on_tile width height commands col row) ops
    (cell_at g col row)
    → ShowsTile layer.width layer.height layer.pixels col row color pixels
shows_layer layer width height commands lists g col row ops color pixels view all is =
    subst (λ (l : LayerOf). ShowsTile l.width l.height l.pixels col row color pixels) view
    (shows_tile width height commands lists g col row color pixels
    (is ∙ ap (λ (l : List TileOp). tile_after (on_tile width height commands col row) l
    (cell_at g col row)) all))

-- the pixel at a place of a layer: the grid's, after all that waits on its tile
pub pixel_of_layer : (layer : LayerOf) (width height : ℕ) (commands : List Draw) (lists : Lists)
    (g : TileGrid) (ops : List TileOp) (k x y : ℕ) (start p : Channels)
    → layer_of width height commands lists g ≡ layer → ops ≡ listed_at lists (x / 64) (y / 64)
    → length ops ≤ k → start ≡ grid_pixel g x y
    → p ≡ ops_at (on_tile width height commands (x / 64) (y / 64)) (take k ops) (x % 64) (y % 64)
    start
    → x < layer.width → y < layer.height → p ≡ pixel_at layer.width layer.pixels x y
pixel_of_layer layer width height commands lists g ops k x y start p view all end first is =
    subst (λ (l : LayerOf). x < l.width → y < l.height → p ≡ pixel_at l.width l.pixels x y) view
    (λ in_x in_y.
    is
    ∙ ap (λ (l : List TileOp). ops_at (on_tile width height commands (x / 64) (y / 64)) l (x % 64)
    (y % 64) start)
    (take_all k ops end ∙ all)
    ∙ ap (ops_at (on_tile width height commands (x / 64) (y / 64))
    (listed_at lists (x / 64) (y / 64)) (x % 64) (y % 64)) first
    ∙ sym (pixel-layer width height commands lists g x y in_x in_y))

-- what follows from what is known of the value in a `Some`
pub some_then : {X : Type 0} (o : Option X) (P Q : X → Type 0) → ForSome o P
    → ((x : X) → P x → Q x) → IfSome o Q
some_then None P Q known then = tt
some_then (Some x) P Q known then = then x (known x refl)

-- what holds in any case holds after an error
pub always_on_err : {X E : Type 0} (r : Result X E) (P : Type 0) → P → OnErr r P
always_on_err (Ok x) P holds = tt
always_on_err (Err e) P holds = holds

-- what holds in both cases
pub either : {X E : Type 0} (r : Result X E) (P : Type 0) → OnOk r P → OnErr r P → P
either (Ok x) P ok err = ok
either (Err e) P ok err = err

-- a grid of which an area was painted is one of the same canvas
pub painted_grid : (width height : ℕ) (area : CellArea)
    (painted : ℕ → ℕ → List Channels → List Channels)
    (old new : TileGrid) → IsGridOf width height old → IsPaintedOn area painted old new
    → IsGridOf width height new
painted_grid width height area painted old new is_of is = record {
  wide = is_of.wide;
  high = is_of.high;
  cols = is.cols ∙ is_of.cols;
  rows = is.rows ∙ is_of.rows;
}

-- the layer of other lists and another grid with the same pixels
pub same_layer : (layer : LayerOf) (width height : ℕ) (commands : List Draw) (old new : Lists)
    (g h : TileGrid)
    → layer_of width height commands old g ≡ layer
    → layer_pixels width height commands new h ≡ layer_pixels width height commands old g
    → layer_of width height commands new h ≡ layer
same_layer layer width height commands old new g h view same =
    ap (λ (ps : List Channels). record { width = width; height = height; pixels = ps }) same
    ∙ view

-- the layer of pixels that a command made
pub layer_after : (layer : LayerOf) (width height : ℕ) (commands : List Draw) (op : Draw)
    (old new : Lists)
    (g h : TileGrid) → layer_of width height commands old g ≡ layer
    → layer_pixels width height commands new h
    ≡ pixels_after width height op (layer_pixels width height commands old g)
    → layer_of width height commands new h
    ≡ record {
      width = layer.width;
      height = layer.height;
      pixels = pixels_after layer.width layer.height op layer.pixels;
    }
layer_after layer width height commands op old new g h view is =
    subst (λ (l : LayerOf). layer_of width height commands new h
    ≡ record {
      width = l.width;
      height = l.height;
      pixels = pixels_after l.width l.height op l.pixels;
    }) view
    (ap (λ (ps : List Channels). record { width = width; height = height; pixels = ps }) is)

-- the cell at a column and a row is one of cols * rows
place_below : (cols rows col row : ℕ) → col < cols → row < rows → row * cols + col < cols * rows
place_below cols rows col row in_cols in_rows =
    let next : row + 1 ≤ rows = omega (arith, in_rows) in
    omega (arith, in_cols, mul-le-mul_left cols next)

-- the layer of a grid that shows nothing
pub blank_layer : (width height : ℕ) (commands : List Draw) (lists : Lists) (g : TileGrid) →
    lists.lists ≡ []
    → g ≡ clear_grid (tiles_along width) (tiles_along height)
    → layer_of width height commands lists g
    ≡ record { width = width; height = height; pixels = canvas_of width height (λ x y. clear) }
blank_layer width height commands lists g none is =
    ap (λ (ps : List Channels). record { width = width; height = height; pixels = ps })
    (no_lists width height commands lists g none ∙ ap (grid_pixels width height) is
    ∙ canvas_of-same width height
    (grid_pixel (clear_grid (tiles_along width) (tiles_along height))) (λ x y. clear)
    (λ x y in_x in_y.
    ap (λ (cell : List Channels). pixel_at 64 cell (x % 64) (y % 64))
    (get_or-replicate (tiles_along width * tiles_along height)
    (y / 64 * tiles_along width + x / 64) (tile_of clear) (tile_of clear)
    (place_below (tiles_along width) (tiles_along height) (x / 64) (y / 64) (omega (arith, in_x))
    (omega (arith, in_y))))
    ∙ pixel-tile_of clear (y % 64 * 64 + x % 64) (omega arith)))

pub waits_paint : (op : Draw) → MayWait op → IsPainting op
waits_paint (draws.FillRect layer mode a b w h color) may = tt
waits_paint (draws.DabsRound layer a b r g c mode dabs) may = tt
waits_paint (draws.DabsSquare layer a b r g c mode dabs) may = tt
waits_paint _ may = absurd may

-- the layer on whose tiles a command more waits
pub filed_layer : (width height : ℕ) (commands : List Draw) (among : OnTile → Type 0) (op : Draw)
    → StaysOutside → IsPainting op → ((col row : ℕ) → among (on_tile width height commands col row))
    → (area : CellArea) (old new : Lists) (g : TileGrid) → width ≤ 4096 → height ≤ 4096
    → ((x y : ℕ) → x < width → y < height → is_in_foot (foot op) (pos x) (pos y) ≡ true
    → is_in_cells area (x / 64) (y / 64) ≡ true)
    → IsFiled among op area old new
    → layer_pixels width height commands new g
    ≡ pixels_after width height op (layer_pixels width height commands old g)
filed_layer width height commands among op law is on area old new g wide high covers filed =
    by_cells width height op is law wide high area (waiting_pixel width height commands old g)
    (waiting_pixel width height commands new g) covers
    (λ x y in_x in_y t.
    let col = x / 64 in
    let row = y / 64 in
    let at_x : col * 64 + x % 64 ≡ x = omega arith in
    let at_y : row * 64 + y % 64 ≡ y = omega arith in
    filed.inside (on_tile width height commands col row) (on col row) (inside_facts area col row t)
    (x % 64) (y % 64) (grid_pixel g x y) (omega arith) (omega arith) (omega (arith, in_x))
    (omega (arith, in_y))
    ∙ (rw (at_x, at_y) refl))
    (λ x y in_x in_y t.
    ap (λ (ops : List TileOp). ops_at (on_tile width height commands (x / 64) (y / 64)) ops
    (x % 64) (y % 64) (grid_pixel g x y))
    (filed.outside (x / 64) (y / 64) (omega (arith, in_x, wide))
    (λ i. false≢true (sym t ∙ inside_by area (x / 64) (y / 64) i))))

-- the pixel of a grid of which an area was painted by what waits
module _ (width height : ℕ) (commands : List Draw) (area : CellArea) (lists : Lists)
    (old new : TileGrid)
    (is_of : IsGridOf width height old)
    (painted : IsPaintedOn area (λ col row. tile_after (on_tile width height commands col row)
    (listed_at lists col row)) old new)
    (x y : ℕ) (in_x : x < width) (in_y : y < height) where
  pub painted_in : is_in_cells area (x / 64) (y / 64) ≡ true
      → grid_pixel new x y ≡ waiting_pixel width height commands lists old x y
  painted_in t =
      pixel_in area (waiting_tile width height commands lists) old new painted x y
      (omega (arith, is_of.cols, in_x)) (omega (arith, is_of.rows, in_y)) t
      ∙ pixel-tile_after (on_tile width height commands (x / 64) (y / 64))
      (listed_at lists (x / 64) (y / 64)) (cell_at old (x / 64) (y / 64)) (x % 64) (y % 64)
      (omega arith) (omega arith)

  pub painted_out : is_in_cells area (x / 64) (y / 64) ≡ false
      → grid_pixel new x y ≡ grid_pixel old x y
  painted_out =
      pixel_off area (waiting_tile width height commands lists) old new painted x y
      (omega (arith, is_of.cols, in_x)) (omega (arith, is_of.rows, in_y))

-- a layer of which an area was painted, and on which nothing waits there any more
pub settled : (width height : ℕ) (commands : List Draw) (area : CellArea) (before after : Lists)
    (old new : TileGrid)
    → IsGridOf width height old
    → IsPaintedOn area (λ col row. tile_after (on_tile width height commands col row)
    (listed_at before col row)) old new
    → IsChangedOn area (IsFinished Clear) before after
    → layer_pixels width height commands after new ≡ layer_pixels width height commands before old
settled width height commands area before after old new is_of painted cleared =
    canvas_of-same width height (waiting_pixel width height commands after new)
    (waiting_pixel width height commands before old)
    (λ x y in_x in_y.
    let col = x / 64 in
    let row = y / 64 in
    ⊎_elim (λ t.
    ap (λ (l : Waiting). ops_at (on_tile width height commands (x / 64) (y / 64)) l.ops (x % 64)
    (y % 64) (grid_pixel new x y))
    (cleared.inside col row (inside_facts area col row t))
    ∙ painted_in width height commands area before old new is_of painted x y in_x in_y t)
    (λ t.
    ap (λ (l : Waiting). ops_at (on_tile width height commands (x / 64) (y / 64)) l.ops (x % 64)
    (y % 64) (grid_pixel new x y))
    (cleared.outside col row (omega (arith, in_x, is_of.wide))
    (λ i. false≢true (sym t ∙ inside_by area col row i)))
    ∙ ap (ops_at (on_tile width height commands (x / 64) (y / 64)) (listed_at before col row)
    (x % 64) (y % 64))
    (painted_out width height commands area before old new is_of painted x y in_x in_y t))
    (cases_Bool (is_in_cells area col row)))

-- a grid all of whose cells were painted
pub all_painted : (width height : ℕ) (commands : List Draw) (area : CellArea) (lists : Lists)
    (old new : TileGrid)
    → IsGridOf width height old → area.left ≡ 0 → area.right ≡ old.cols → area.top ≡ 0
    → area.bottom ≡ old.rows
    → IsPaintedOn area (λ col row. tile_after (on_tile width height commands col row)
    (listed_at lists col row)) old new
    → grid_pixels width height new ≡ layer_pixels width height commands lists old
all_painted width height commands area lists old new is_of left right top bottom painted =
    canvas_of-same width height (grid_pixel new) (waiting_pixel width height commands lists old)
    (λ x y in_x in_y. painted_in width height commands area lists old new is_of painted x y in_x
    in_y
    (inside_by area (x / 64) (y / 64) (record {
      left = omega (arith, left);
      right = omega (arith, right, is_of.cols, in_x);
      top = omega (arith, top);
      bottom = omega (arith, bottom, is_of.rows, in_y);
    })))

-- a message of dabs may wait
pub dabs_wait : (op : Draw) → IsDabs op → MayWait op
dabs_wait (draws.DabsRound layer a b r g c mode dabs) is = tt
dabs_wait (draws.DabsSquare layer a b r g c mode dabs) is = tt
dabs_wait _ is = absurd is

-- a grid that was painted by a command that was filed on its own
pub filed_alone : (width height number : ℕ) (commands : List Draw) (op : Draw) → StaysOutside
    → MayWait op → (area : CellArea)
    (none filed : Lists) (old new : TileGrid) → IsGridOf width height old → none.lists ≡ []
    → ((x y : ℕ) → x < old.cols * 64 → y < old.rows * 64
    → is_in_foot (foot op) (pos x) (pos y) ≡ true → is_in_cells area (x / 64) (y / 64) ≡ true)
    → IsFiled (StandsOn width height number op) op area none filed
    → IsPaintedOn area (λ col row. tile_after (on_tile width height commands col row)
    (listed_at filed col row)) old new
    → grid_pixels width height new ≡ pixels_after width height op (grid_pixels width height old)
filed_alone width height number commands op law may area none filed old new is_of is_none covers is
    painted =
    canvas_of-same width height (grid_pixel new) (waiting_pixel width height commands filed old)
    (λ x y in_x in_y.
    let col = x / 64 in
    let row = y / 64 in
    ⊎_elim (painted_in width height commands area filed old new is_of painted x y in_x in_y)
    (λ t.
    painted_out width height commands area filed old new is_of painted x y in_x in_y t
    ∙ sym (ap (λ (ops : List TileOp). ops_at (on_tile width height commands (x / 64) (y / 64)) ops
    (x % 64) (y % 64) (grid_pixel old x y))
    (is.outside col row (omega (arith, in_x, is_of.wide))
    (λ i. false≢true (sym t ∙ inside_by area col row i))
    ∙ nothing none is_none col row)))
    (cases_Bool (is_in_cells area col row)))
    ∙ filed_layer width height commands (StandsOn width height number op) op law
    (waits_paint op may)
    (λ col row. waits_stand width height number op (on_tile width height commands col row) may) area
    none filed old is_of.wide is_of.high
    (λ x y in_x in_y. covers x y (omega (arith, is_of.cols, in_x))
    (omega (arith, is_of.rows, in_y)))
    is
    ∙ ap (pixels_after width height op) (no_lists width height commands none old is_none)

-- the pixel drawn at a place depends on the foot alone
abbrev pub FootTellsAll : Type 0
FootTellsAll = (width height : ℕ) (op : Draw) (old other : ℤ → ℤ → Channels) (x y : ℤ)
    → width ≤ 4096 → height ≤ 4096 → old x y ≡ other x y
    → ((v w : ℤ) → IsTrue (is_in (canvas_rect width height) v w)
    → IsTrue (is_in_foot (foot op) v w) → old v w ≡ other v w)
    → drawn width height op old x y ≡ drawn width height op other x y

-- a command that was drawn on the grid, if nothing waits on the cells of its foot
module _ (width height : ℕ) (commands : List Draw) (op : Draw) (stays : StaysOutside)
    (tells : FootTellsAll)
    (wide : width ≤ 4096) (high : height ≤ 4096) (area : CellArea) (lists : Lists)
    (old new : TileGrid)
    (covers : (x y : ℕ) → x < width → y < height → is_in_foot (foot op) (pos x) (pos y) ≡ true
    → is_in_cells area (x / 64) (y / 64) ≡ true)
    (none : (col row : ℕ) → IsInside area col row → listed_at lists col row ≡ [])
    (is : grid_pixels width height new
    ≡ pixels_after width height op (grid_pixels width height old)) where
  abbrev grid_at : ℤ → ℤ → Channels
  grid_at = pixel_of width height (grid_pixels width height old)

  abbrev layer_at : ℤ → ℤ → Channels
  layer_at = pixel_of width height (layer_pixels width height commands lists old)

  at_grid : (x y : ℕ) → x < width → y < height → grid_at (pos x) (pos y) ≡ grid_pixel old x y
  at_grid x y in_x in_y = rw (lt-ltb x width in_x, lt-ltb y height in_y)
      (pixel_at-canvas_of width height (grid_pixel old) x y in_x in_y)

  at_layer : (x y : ℕ) → x < width → y < height
      → layer_at (pos x) (pos y) ≡ waiting_pixel width height commands lists old x y
  at_layer x y in_x in_y = rw (lt-ltb x width in_x, lt-ltb y height in_y)
      (pixel-layer width height commands lists old x y in_x in_y)

  -- in the foot nothing waits
  in_foot : (g : TileGrid) (x y : ℕ) → x < width → y < height
      → is_in_foot (foot op) (pos x) (pos y) ≡ true
      → waiting_pixel width height commands lists g x y ≡ grid_pixel g x y
  in_foot g x y in_x in_y f =
      ap (λ (ops : List TileOp). ops_at (on_tile width height commands (x / 64) (y / 64)) ops
      (x % 64) (y % 64) (grid_pixel g x y))
      (none (x / 64) (y / 64) (inside_facts area (x / 64) (y / 64) (covers x y in_x in_y f)))

  same_in_foot : (v w : ℤ) → is_in (canvas_rect width height) v w ≡ true
      → is_in_foot (foot op) v w ≡ true → grid_at v w ≡ layer_at v w
  same_in_foot (pos x) (pos y) on f =
      let in_canvas = is_in-true (canvas_rect width height) (pos x) (pos y) on in
      let right = in_canvas.x1 in
      let below = in_canvas.y1 in
      let in_x : x < width = omega (arith, ints, right) in
      let in_y : y < height = omega (arith, ints, below) in
      at_grid x y in_x in_y ∙ sym (in_foot old x y in_x in_y f) ∙ sym (at_layer x y in_x in_y)
  same_in_foot (pos x) (negsuc y) on f = refl
  same_in_foot (negsuc x) w on f = refl

  new_pixel : (x y : ℕ) → x < width → y < height
      → grid_pixel new x y ≡ drawn width height op grid_at (pos x) (pos y)
  new_pixel x y in_x in_y =
      sym (pixel_at-canvas_of width height (grid_pixel new) x y in_x in_y)
      ∙ ap (λ (ps : List Channels). pixel_at width ps x y) is
      ∙ pixel_at-canvas_of width height (λ x y. drawn width height op grid_at (pos x) (pos y)) x y
      in_x in_y

  each : (x y : ℕ) → x < width → y < height
      → waiting_pixel width height commands lists new x y ≡ drawn width height op layer_at (pos x)
      (pos y)
  each x y in_x in_y =
      ⊎_elim (λ f.
      in_foot new x y in_x in_y f ∙ new_pixel x y in_x in_y
      ∙ tells width height op grid_at layer_at (pos x) (pos y) wide high
      (same_in_foot (pos x) (pos y) (on_canvas width height x y in_x in_y) f)
      (λ v w on in_f. same_in_foot v w on in_f))
      (λ f.
      ap (ops_at (on_tile width height commands (x / 64) (y / 64))
      (listed_at lists (x / 64) (y / 64)) (x % 64) (y % 64))
      (new_pixel x y in_x in_y
      ∙ stays width height op grid_at (pos x) (pos y) wide high f ∙ at_grid x y in_x in_y)
      ∙ sym (stays width height op layer_at (pos x) (pos y) wide high f
      ∙ at_layer x y in_x in_y))
      (cases_Bool (is_in_foot (foot op) (pos x) (pos y)))

  pub drawn_under : layer_pixels width height commands lists new
      ≡ pixels_after width height op (layer_pixels width height commands lists old)
  drawn_under =
      canvas_of-same width height (waiting_pixel width height commands lists new)
      (λ x y. drawn width height op layer_at (pos x) (pos y)) each

-- the layer of a grid that was painted by what waits and then got new sides
pub resized_layer : (layer : LayerOf) (r : Resize) (width height : ℕ) (commands : List Draw)
    (lists none : Lists)
    (g shared settled new : TileGrid) → layer_of width height commands lists g ≡ layer → shared ≡ g
    → layer.width ≡ r.width → layer.height ≡ r.height
    → grid_pixels width height settled ≡ layer_pixels width height commands lists shared
    → none.lists ≡ [] → IsResized r settled new
    → layer_of r.new_width r.new_height commands none new
    ≡ record {
      width = r.new_width;
      height = r.new_height;
      pixels = pixels_resized r layer.pixels;
    }
resized_layer layer r width height commands lists none g shared settled new view same wide high is
    is_none
    resized =
    let before : grid_pixels r.width r.height settled ≡ layer.pixels =
    subst (λ (l : LayerOf). l.width ≡ r.width → l.height ≡ r.height
    → grid_pixels r.width r.height settled ≡ l.pixels) view
    (λ at_width at_height. rw (← at_width, ← at_height)
    (is ∙ ap (layer_pixels width height commands lists) same)) wide high in
    ap (λ (ps : List Channels). record {
      width = r.new_width;
      height = r.new_height;
      pixels = ps;
    })
    (no_lists r.new_width r.new_height commands none new is_none
    ∙ resized.pixels ∙ ap (pixels_resized r) before)
