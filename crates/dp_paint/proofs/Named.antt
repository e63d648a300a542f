-- Commands that wait by their numbers, if others come after them.
use Rattle.std.proofs.Common.{◌≡◌, ℕ, ◌+◌, ◌*◌, ◌/◌, ◌%◌, ◌<◌, ◌≤◌, List, [], ◌∷◌, ◌++◌, length}
use Rattle.std.proofs.Common.{ap, sym, ◌∙◌, refl, true, arith, subst, ⊎_elim, inl, inr}
use Rattle.std.specs.Prelude.{pos, Some, slice_get}
use Rattle.std.proofs.lemmas.Bool.{cases_Bool, cases_lt, false≢true}
use Rattle.std.proofs.lemmas.List.{append_assoc}
use Rattle.dp_blend.specs.Color.{Channels}
use Rattle.dp_blend.proofs.Canvas.{canvas_of-same}
use Rattle.dp_msg_draw.specs.declared.draw.Draw.{Draw}
use Rattle.dp_pixels.specs.Commands.{pixel_drawn, pixels_after}
use Rattle.dp_pixels.specs.Feet.{foot, is_in_foot}
use Rattle.dp_tile.specs.declared.area.CellArea.{CellArea}
use Rattle.dp_tile.specs.Areas.{is_in_cells}
use Rattle.dp_tile.specs.Tiles.{TileGrid, grid_pixel}
use Rattle.dp_ops.specs.declared.op.TileOp.{TileOp}
use Rattle.dp_ops.specs.declared.lists.Finish.TheVariants.{Clear}
use Rattle.dp_paint.specs.Painting.{IsPainting}
use Rattle.dp_ops.specs.Ops.{OnTile, on_tile, ops_at}
use Rattle.dp_ops.specs.Lists.{HaveSame, IsChangedOn, IsFiled, IsFinished}
use Rattle.dp_paint.specs.Layers.{HaveSome}
use Rattle.dp_ops.specs.Lists.{StandsOn, Lists, Waiting}
use Rattle.dp_paint.specs.Layers.{LayerOf, NamesThese, layer_pixels}
use Rattle.dp_ops.specs.Lists.{listed_at}
use Rattle.dp_paint.specs.Layers.{waiting_pixel}
use Rattle.dp_ops.proofs.Filed.{numbered_stands}
use Rattle.dp_paint.proofs.Layers.{filed_layer, layer_after, layer_of, same_layer, same_pixels}
use Rattle.dp_paint.proofs.Painting.{StaysOutside}
use Rattle.dp_ops.proofs.Waits.{inside_by, inside_facts}

-- ---- lists of which some are left

pub same_some : (old new : Lists) → HaveSame old new → HaveSome old new
same_some old new same col row few below = inr (same col row few)

pub cleared_some : (area : CellArea) (old new : Lists)
    → IsChangedOn area (IsFinished Clear) old new → HaveSome old new
cleared_some area old new is col row few below =
    ⊎_elim (λ t.
    inl (ap (λ (w : Waiting). w.ops) (is.inside col row (inside_facts area col row t))))
    (λ t.
    inr (ap (λ (w : Waiting). w.ops)
    (is.outside col row few (λ i. false≢true (sym t ∙ inside_by area col row i)))))
    (cases_Bool (is_in_cells area col row))

-- where the rows before one are done
pub done_some : (to : ℕ) (old new : Lists)
    → ((col row : ℕ) → col < 64 → row < to → listed_at new col row ≡ [])
    → ((col row : ℕ) → col < 64 → to ≤ row → listed_at new col row ≡ listed_at old col row)
    → HaveSome old new
done_some to old new none rest col row few below =
    ⊎_elim (λ (above : row < to). inl (none col row few above))
    (λ here. inr (rest col row few here)) (cases_lt row to)

-- they name no other commands
pub some_name : (width height : ℕ) (commands : List Draw) (old new : Lists) → width ≤ 4096
    → height ≤ 4096 → HaveSome old new → NamesThese width height commands old
    → NamesThese width height commands new
some_name width height commands old new wide high some names more x y p in_x in_y =
    let at : List Draw → List TileOp → Channels = λ all ops.
    ops_at (on_tile width height all (x / 64) (y / 64)) ops (x % 64) (y % 64) p in
    ⊎_elim (λ none. ap (at (commands ++ more)) none ∙ sym (ap (at commands) none))
    (λ same.
    ap (at (commands ++ more)) same ∙ names more x y p in_x in_y ∙ sym (ap (at commands) same))
    (some (x / 64) (y / 64) (omega (arith, in_x, wide)) (omega (arith, in_y, high)))

-- ---- layers

-- the layer of equal commands
pub by_commands : (layer : LayerOf) (width height : ℕ) (commands same : List Draw)
    (lists : Lists) (g : TileGrid) → same ≡ commands
    → layer_of width height commands lists g ≡ layer
    → layer_of width height same lists g ≡ layer
by_commands layer width height commands same lists g is view =
    subst (λ (cs : List Draw). layer_of width height cs lists g ≡ layer) (sym is) view

-- the layer of other commands, lists and another grid with the same pixels
pub other_layer : (layer : LayerOf) (width height : ℕ) (commands others : List Draw)
    (old new : Lists) (g h : TileGrid) → layer_of width height commands old g ≡ layer
    → layer_pixels width height others new h ≡ layer_pixels width height commands old g
    → layer_of width height others new h ≡ layer
other_layer layer width height commands others old new g h view same =
    ap (λ (ps : List Channels). record { width = width; height = height; pixels = ps }) same
    ∙ view

-- ---- a command that was filed

pub filed_names : (width height : ℕ) (commands : List Draw) (among : OnTile → Type 0) (op : Draw)
    (area : CellArea) (old new : Lists) → width ≤ 4096
    → ((col row : ℕ) → among (on_tile width height commands col row))
    → ((more : List Draw) (col row : ℕ) → among (on_tile width height (commands ++ more) col row))
    → IsFiled among op area old new → NamesThese width height commands old
    → NamesThese width height commands new
filed_names width height commands among op area old new wide on on_more filed names more x y p in_x
    in_y =
    let col = x / 64 in
    let row = y / 64 in
    let i = x % 64 in
    let j = y % 64 in
    let before = on_tile width height commands col row in
    let after = on_tile width height (commands ++ more) col row in
    let in_i : i < 64 = omega arith in
    let in_j : j < 64 = omega arith in
    let on_x : col * 64 + i < width = omega (arith, in_x) in
    let on_y : row * 64 + j < height = omega (arith, in_y) in
    ⊎_elim (λ t.
    let inside = inside_facts area col row t in
    filed.inside after (on_more more col row) inside i j p in_i in_j on_x on_y
    ∙ ap (pixel_drawn width height op (pos (col * 64 + i)) (pos (row * 64 + j)))
    (names more x y p in_x in_y)
    ∙ sym (filed.inside before (on col row) inside i j p in_i in_j on_x on_y))
    (λ t.
    let same = filed.outside col row (omega (arith, in_x, wide))
    (λ k. false≢true (sym t ∙ inside_by area col row k)) in
    ap (λ (ops : List TileOp). ops_at after ops i j p) same ∙ names more x y p in_x in_y
    ∙ sym (ap (λ (ops : List TileOp). ops_at before ops i j p) same))
    (cases_Bool (is_in_cells area col row))

-- ---- one command more

pub more_names : (width height : ℕ) (commands : List Draw) (op : Draw) (lists : Lists)
    → NamesThese width height commands lists → NamesThese width height (commands ++ op ∷ []) lists
more_names width height commands op lists names more x y p in_x in_y =
    ap (λ (all : List Draw). ops_at (on_tile width height all (x / 64) (y / 64))
    (listed_at lists (x / 64) (y / 64)) (x % 64) (y % 64) p)
    (append_assoc commands (op ∷ []) more)
    ∙ names (op ∷ more) x y p in_x in_y ∙ sym (names (op ∷ []) x y p in_x in_y)

more_same : (width height : ℕ) (commands : List Draw) (op : Draw) (lists : Lists) (g : TileGrid)
    → NamesThese width height commands lists
    → layer_pixels width height (commands ++ op ∷ []) lists g
    ≡ layer_pixels width height commands lists g
more_same width height commands op lists g names =
    canvas_of-same width height (waiting_pixel width height (commands ++ op ∷ []) lists g)
    (waiting_pixel width height commands lists g)
    (λ x y in_x in_y. names (op ∷ []) x y (grid_pixel g x y) in_x in_y)

-- the layer is the same
pub more_layer : (layer : LayerOf) (width height : ℕ) (commands : List Draw) (op : Draw)
    (lists : Lists) (g : TileGrid) → NamesThese width height commands lists
    → layer_of width height commands lists g ≡ layer
    → layer_of width height (commands ++ op ∷ []) lists g ≡ layer
more_layer layer width height commands op lists g names view =
    ap (λ (ps : List Channels). record { width = width; height = height; pixels = ps })
    (more_same width height commands op lists g names)
    ∙ view

-- the number of the last command
at_seam : (commands : List Draw) (op : Draw) (more : List Draw)
    → slice_get (commands ++ op ∷ more) (length commands) ≡ Some op
at_seam [] op more = refl
at_seam (c ∷ commands) op more = at_seam commands op more

module _ (width height : ℕ) (commands : List Draw) (op : Draw) where
  pub last_numbered : (col row : ℕ)
      → StandsOn width height (length commands) op
      (on_tile width height (commands ++ op ∷ []) col row)
  last_numbered col row =
      numbered_stands width height (length commands) op
      (on_tile width height (commands ++ op ∷ []) col row)
      (record { width = refl; height = refl; numbered = at_seam commands op [] })

  pub still_numbered : (more : List Draw) (col row : ℕ)
      → StandsOn width height (length commands) op
      (on_tile width height ((commands ++ op ∷ []) ++ more) col row)
  still_numbered more col row =
      numbered_stands width height (length commands) op
      (on_tile width height ((commands ++ op ∷ []) ++ more) col row)
      (record {
        width = refl;
        height = refl;
        numbered = ap (λ (all : List Draw). slice_get all (length commands))
            (append_assoc commands (op ∷ []) more) ∙ at_seam commands op more;
      })

-- a command that was filed by its number, as the last one
module _ (width height : ℕ) (commands : List Draw) (op : Draw) (area : CellArea)
    (old new : Lists) (wide : width ≤ 4096)
    (names : NamesThese width height commands old)
    (filed : IsFiled (StandsOn width height (length commands) op) op area old new) where
  pub last_names : NamesThese width height (commands ++ op ∷ []) new
  last_names =
      filed_names width height (commands ++ op ∷ [])
      (StandsOn width height (length commands) op) op area old new wide
      (last_numbered width height commands op) (still_numbered width height commands op) filed
      (more_names width height commands op old names)

  pub last_layer : (layer : LayerOf) (g : TileGrid) → StaysOutside → IsPainting op
      → height ≤ 4096
      → ((x y : ℕ) → x < width → y < height → is_in_foot (foot op) (pos x) (pos y) ≡ true
      → is_in_cells area (x / 64) (y / 64) ≡ true)
      → layer_of width height commands old g ≡ layer
      → layer_of width height (commands ++ op ∷ []) new g
      ≡ record {
        width = layer.width;
        height = layer.height;
        pixels = pixels_after layer.width layer.height op layer.pixels;
      }
  last_layer layer g law is high covers view =
      layer_after layer width height (commands ++ op ∷ []) op old new g g
      (more_layer layer width height commands op old g names view)
      (filed_layer width height (commands ++ op ∷ [])
      (StandsOn width height (length commands) op) op law is
      (last_numbered width height commands op) area old new g wide high covers filed)

-- commands of which the last was filed by its number
module _ (layer : LayerOf) (width height : ℕ) (commands all : List Draw) (op : Draw)
    (number : ℕ) (area : CellArea) (old new : Lists) (wide : width ≤ 4096) (high : height ≤ 4096)
    (is_all : all ≡ commands ++ op ∷ []) (is_number : number ≡ length commands)
    (names : NamesThese width height commands old)
    (filed : IsFiled (StandsOn width height number op) op area old new) where
  at_last : IsFiled (StandsOn width height (length commands) op) op area old new
  at_last =
      subst (λ (n : ℕ). IsFiled (StandsOn width height n op) op area old new) is_number filed

  pub pushed_names : NamesThese width height all new
  pushed_names =
      subst (λ (cs : List Draw). NamesThese width height cs new) (sym is_all)
      (last_names width height commands op area old new wide names at_last)

  pub pushed_layer : (g : TileGrid) → StaysOutside → IsPainting op
      → ((x y : ℕ) → x < width → y < height → is_in_foot (foot op) (pos x) (pos y) ≡ true
      → is_in_cells area (x / 64) (y / 64) ≡ true)
      → layer_of width height commands old g ≡ layer
      → layer_of width height all new g
      ≡ record {
        width = layer.width;
        height = layer.height;
        pixels = pixels_after layer.width layer.height op layer.pixels;
      }
  pushed_layer g law is covers view =
      subst (λ (cs : List Draw). layer_of width height cs new g
      ≡ record {
        width = layer.width;
        height = layer.height;
        pixels = pixels_after layer.width layer.height op layer.pixels;
      }) (sym is_all)
      (last_layer width height commands op area old new wide names at_last layer g law is high
      covers view)

-- and one that wasn't filed
module _ (layer : LayerOf) (width height : ℕ) (commands all : List Draw) (op : Draw)
    (old new : Lists) (wide : width ≤ 4096) (high : height ≤ 4096)
    (is_all : all ≡ commands ++ op ∷ []) (names : NamesThese width height commands old)
    (same : HaveSame old new) where
  pub kept_names : NamesThese width height all new
  kept_names =
      subst (λ (cs : List Draw). NamesThese width height cs new) (sym is_all)
      (some_name width height (commands ++ op ∷ []) old new wide high (same_some old new same)
      (more_names width height commands op old names))

  pub kept_layer : (g : TileGrid) → layer_of width height commands old g ≡ layer
      → layer_of width height all new g ≡ layer
  kept_layer g view =
      subst (λ (cs : List Draw). layer_of width height cs new g ≡ layer) (sym is_all)
      (same_layer layer width height (commands ++ op ∷ []) old new g g
      (more_layer layer width height commands op old g names view)
      (same_pixels width height (commands ++ op ∷ []) old new g wide same))
