-- What the rows of a tree of layers keep to.
use Rattle.std.specs.Prelude.{◌≡◌, ◌≢◌, ◌≤◌, false, not, ◌==◌, is_some}
use Rattle.std.specs.Prelude.{List, map, length, All, true}
use Rattle.std.specs.List.{IsDistinct}
use Rattle.dp_msg_draw.specs.Limits.{IsListedMode}
use Rattle.dp_layers.specs.declared.row.LayerRow.{LayerRow}
use Rattle.dp_layers.specs.Layers.{nesting_limit, row_limit, is_root_or_group, is_within, is_below}
use Rattle.dp_layers.specs.Rows.{Row, layers_of}

-- Ids are different, and none is 0. Each parent is the root or a present group. No row is below
-- itself, and none is nested deeper than the limit. There are at most as many rows as may stand in
-- the list, and each mode is a listed one.
pub record IsLayerTree (rows : List LayerRow) : Type 0 where
  pub distinct : IsDistinct ◌==◌ (map (λ row. row.id) rows)
  pub numbered : All (λ row. row.id ≢ 0) rows
  pub parents : All (λ row. is_root_or_group rows row.parent ≡ true) rows
  pub apart : All (λ row. is_below nesting_limit rows row.id row.id ≡ false) rows
  pub within : All (λ row. is_within nesting_limit rows row.id ≡ true) rows
  pub few : length rows ≤ row_limit
  pub modes : All (λ row. IsListedMode row.mode) rows

-- the rows are a tree of layers, and exactly the paint rows hold something
pub record IsTree {X : Type 0} (rows : List (Row X)) : Type 0 where
  pub layers : IsLayerTree (layers_of rows)
  pub contents : All (λ row. is_some row.content ≡ not row.layer.group) rows
