-- The rows of the list of layers, without what the paint rows hold: which rows there are, and going
-- up from a row to its parent, and so on up to the root 0.
use Rattle.std.specs.Prelude.{ℕ, zero, suc, Bool, false, not, ◌||◌, ◌==◌}
use Rattle.std.specs.Prelude.{Option, List, [], ◌∷◌, is_some}
use Rattle.std.specs.List.{find, list_any, list_all}
use Rattle.std.specs.Option.{option_map_or}
use Rattle.dp_layers.specs.declared.row.LayerRow.{LayerRow}

-- groups are nested at most this deep
abbrev pub nesting_limit : ℕ
nesting_limit = 16

-- the most rows of a list
abbrev pub row_limit : ℕ
row_limit = 256

-- the row has this id
abbrev pub has_id : ℕ → LayerRow → Bool
has_id id row = row.id == id

-- the row of the id, if it is present
abbrev pub row_of : List LayerRow → ℕ → Option LayerRow
row_of rows id = find (has_id id) rows

-- a row of the id is present
abbrev pub has_row : List LayerRow → ℕ → Bool
has_row rows id = is_some (row_of rows id)

-- a group of the id is present
abbrev pub is_group_row : List LayerRow → ℕ → Bool
is_group_row rows id = option_map_or (λ row. row.group) (row_of rows id) false

-- a paint row of the id is present
abbrev pub is_paint_row : List LayerRow → ℕ → Bool
is_paint_row rows id = option_map_or (λ row. not row.group) (row_of rows id) false

-- rows may stand in it: it is the root, or a present group
abbrev pub is_root_or_group : List LayerRow → ℕ → Bool
is_root_or_group rows id = id == 0 || is_group_row rows id

-- the parent of the row, 0 if no row has the id
abbrev pub parent_of : List LayerRow → ℕ → ℕ
parent_of rows id = option_map_or (λ row. row.parent) (row_of rows id) 0

-- The row's depth is at most this: going up at most n parents leads to the root.
unfoldable pub is_within : ℕ → List LayerRow → ℕ → Bool
is_within zero rows id = id == 0
is_within (suc n) rows id = id == 0 || is_within n rows (parent_of rows id)

-- the row is below the other one: going up at most n parents from it meets the other
unfoldable pub is_below : ℕ → List LayerRow → ℕ → ℕ → Bool
is_below zero rows id other = false
is_below (suc n) rows id other =
    parent_of rows id == other || is_below n rows (parent_of rows id) other

-- the row is the other one, or below it
abbrev pub is_in : List LayerRow → ℕ → ℕ → Bool
is_in rows id other = id == other || is_below nesting_limit rows id other

-- no row's depth is above the limit
abbrev pub are_within : List LayerRow → Bool
are_within rows = list_all (λ row. is_within nesting_limit rows row.id) rows

-- a blend mode has this number: erase, normal, multiply, add, recolor or replace
abbrev pub is_listed_mode : ℕ → Bool
is_listed_mode mode = list_any (λ listed. listed == mode) (0 ∷ 1 ∷ 2 ∷ 9 ∷ 10 ∷ 255 ∷ [])
