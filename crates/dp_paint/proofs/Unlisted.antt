-- Grids on which nothing waits since there is no list.
use Rattle.std.proofs.Common.{◌≡◌, ℕ, List, [], ap, refl, sym, true, false, cond, leb}
use Rattle.std.specs.Prelude.{Bool}
use Rattle.dp_msg_draw.specs.declared.draw.Draw.{Draw}
use Rattle.dp_tile.specs.declared.area.CellArea.{CellArea}
use Rattle.dp_tile.specs.Areas.{IsPaintedOn, is_in_cells}
use Rattle.dp_tile.specs.Tiles.{IsGrid, TileGrid, cell_at}
use Rattle.dp_ops.specs.declared.lists.Finish.TheVariants.{Clear}
use Rattle.dp_ops.specs.Ops.{on_tile}
use Rattle.dp_ops.specs.Lists.{IsChangedOn, IsFinished, Lists, Waiting, list_at, listed_at}
use Rattle.dp_ops.specs.Lists.{no_list, waiting_tile}
use Rattle.dp_paint.proofs.Made.{cell_long}
use Rattle.dp_ops.proofs.Ops.{tile_none}

-- no list is made at any tile
no_list_at : (lists : Lists) → lists.lists ≡ [] → (col row : ℕ) → list_at lists col row ≡ no_list
no_list_at lists none col row = rw none (either (leb lists.first row))
  where
    either : (t : Bool) → cond t no_list no_list ≡ no_list
    either true = refl
    either false = refl

-- what waits changes no cell
pub painted_by_none : (width height : ℕ) (commands : List Draw) (area : CellArea) (lists : Lists)
    (g : TileGrid) → IsGrid g → lists.lists ≡ []
    → IsPaintedOn area (waiting_tile width height commands lists) g g
painted_by_none width height commands area lists g is none = record {
  cols = refl;
  rows = refl;
  cells = λ col row in_col in_row. either (is_in_cells area col row) _ _
      (sym (tile_none (on_tile width height commands col row) (listed_at lists col row)
      (cell_at g col row) (ap (λ (w : Waiting). w.ops) (no_list_at lists none col row))
      (cell_long g is col row in_col in_row)));
}
  where
    either : {X : Type 0} (t : Bool) (painted old : X) → old ≡ painted → old ≡ cond t painted old
    either true painted old same = same
    either false painted old same = refl

-- no list is cleared
pub cleared_of_none : (area : CellArea) (lists : Lists) → lists.lists ≡ []
    → IsChangedOn area (IsFinished Clear) lists lists
cleared_of_none area lists none = record {
  first = refl;
  len = refl;
  inside = λ col row within. no_list_at lists none col row;
  outside = λ col row few out. refl;
}
