-- What a tree keeps, in the words of the code: a list of rows, and what the paint rows hold, by id.
use Rattle.std.specs.Prelude.{◌≡◌, ℕ, ◌+◌, Bool, ◌==◌, if◌then◌else◌}
use Rattle.std.specs.Prelude.{Option, None, Some, is_some, option_map}
use Rattle.std.specs.Prelude.{List, [], ◌∷◌, map, position, ⊤}
use Rattle.std.specs.List.{find, filter, list_any}
use Rattle.std.specs.Option.{option_map_or}
use Rattle.dp_msg_draw.specs.declared.draw.Draw.{Draw}
use Rattle.dp_msg_draw.specs.declared.draw.Draw.TheVariants.{LayerCreate, LayerAttr, LayerTitle}
use Rattle.dp_msg_draw.specs.declared.draw.Draw.TheVariants.{LayerMove, LayerDelete}
use Rattle.dp_layers.specs.declared.row.LayerRow.{LayerRow}
use Rattle.dp_layers.specs.declared.held.Held.{Held}
use Rattle.dp_layers.specs.declared.lookup.Moved.{Moved}
use Rattle.dp_layers.specs.Layers.{has_id, is_paint_row, is_in}
use Rattle.dp_layers.specs.Rows.{Row}
use Rattle.dp_layers.specs.Changes.{change_row, set_attr, set_title, set_parent, placed}
use Rattle.dp_layers.specs.Tree.{IsLayerTree}

-- what is held for the id
abbrev pub held_by : {X : Type 0} → List (Held X) → ℕ → Option X
held_by contents id = option_map (λ held. held.x) (find (λ held. held.id == id) contents)

-- the row, with what is held for its id
abbrev pub row_with : {X : Type 0} → List (Held X) → LayerRow → Row X
row_with contents layer = record { layer = layer; content = held_by contents layer.id }

-- the rows, each with what is held for its id
abbrev pub rows_with : {X : Type 0} → List (Held X) → List LayerRow → List (Row X)
rows_with contents rows = map (row_with contents) rows

-- the rows are a tree, and something is held for exactly the ids of the paint rows
pub record IsHolding {X : Type 0} (rows : List LayerRow) (contents : List (Held X)) : Type 0 where
  pub tree : IsLayerTree rows
  pub by_kind : (id : ℕ) → is_some (held_by contents id) ≡ is_paint_row rows id

-- what is held for a new row: nothing in a group
abbrev pub holding : {X : Type 0} → ℕ → Option X → List (Held X)
holding id None = []
holding id (Some x) = record { id = id; x = x } ∷ []

-- the contents for the paint rows of these: the first for the bottom one, and so on
abbrev pub paired : {X : Type 0} → List LayerRow → List X → List (Held X)
paired [] xs = []
paired (row ∷ rows) [] = paired rows []
paired (row ∷ rows) (x ∷ xs) =
    if row.group then paired rows (x ∷ xs) else record { id = row.id; x = x } ∷ paired rows xs

-- the rows as they stand once the row is moved
abbrev pub as_moved : List LayerRow → Option Moved → List LayerRow
as_moved rows None = rows
as_moved rows (Some moved) = map (change_row moved.id (set_parent moved.parent)) rows

-- where a row stands directly after the row `above`, or first if that is 0
abbrev pub place_after : List LayerRow → ℕ → ℕ
place_after rows above =
    if above == 0 then 0 else option_map_or (λ at. at + 1) (position (has_id above) rows) 0

-- the ids of the row of the id and of all rows below it
abbrev pub gone_ids : List LayerRow → ℕ → List ℕ
gone_ids rows id = map (λ row. row.id) (filter (λ row. is_in rows row.id id) rows)

-- the id is one of these
abbrev pub is_gone : List ℕ → ℕ → Bool
is_gone gone id = list_any (λ other. other == id) gone

-- the command is one on layers
abbrev pub IsOnLayers : Draw → Type 0
IsOnLayers (LayerCreate id parent group title) = ⊤
IsOnLayers (LayerAttr id opacity mode hidden) = ⊤
IsOnLayers (LayerTitle id title) = ⊤
IsOnLayers (LayerMove id parent above) = ⊤
IsOnLayers (LayerDelete id) = ⊤
IsOnLayers _ = ⊥

-- the command changes rows, and makes none and takes none away
abbrev pub IsRearranging : Draw → Type 0
IsRearranging (LayerAttr id opacity mode hidden) = ⊤
IsRearranging (LayerTitle id title) = ⊤
IsRearranging (LayerMove id parent above) = ⊤
IsRearranging _ = ⊥

-- the rows after such a command
abbrev pub rearranged : List LayerRow → Draw → List LayerRow
rearranged rows (LayerAttr id opacity mode hidden) =
    map (change_row id (set_attr opacity mode hidden)) rows
rearranged rows (LayerTitle id title) = map (change_row id (set_title title)) rows
rearranged rows (LayerMove id parent above) =
    placed has_id (map (change_row id (set_parent parent)) rows) id above
rearranged rows _ = rows
