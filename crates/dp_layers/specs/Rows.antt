-- The rows of a tree of layers, each with what it holds.
use Rattle.std.specs.Prelude.{ℕ, Option, Some, List, map, ◌==◌, if◌then◌else◌}
use Rattle.std.specs.List.{find, filter_map}
use Rattle.std.specs.Option.{option_map, option_and_then}
use Rattle.dp_layers.specs.declared.row.LayerRow.{LayerRow}

-- a row, and what it holds if it is a paint row
pub record Row (X : Type 0) : Type 0 where
  pub layer : LayerRow
  pub content : Option X

-- the rows without what they hold
abbrev pub layers_of : {X : Type 0} → List (Row X) → List LayerRow
layers_of rows = map (λ row. row.layer) rows

-- what the paint rows hold, the bottom one's first
abbrev pub contents_of : {X : Type 0} → List (Row X) → List X
contents_of rows = filter_map (λ row. row.content) rows

-- what the paint row of the id holds, if it is present
abbrev pub content_of : {X : Type 0} → List (Row X) → ℕ → Option X
content_of rows id =
    option_and_then (λ row. row.content) (find (λ row. row.layer.id == id) rows)

-- the row, which holds x if it has the id
abbrev pub fill_row : {X : Type 0} → ℕ → X → Row X → Row X
fill_row id x row = if row.layer.id == id then record row { content = Some x } else row

-- the rows, with x in the row of the id
abbrev pub with_content : {X : Type 0} → List (Row X) → ℕ → X → List (Row X)
with_content rows id x = map (fill_row id x) rows

-- the row, with what f makes of its content
abbrev pub map_content : {X Y : Type 0} → (X → Y) → Row X → Row Y
map_content f row = record { layer = row.layer; content = option_map f row.content }

-- the rows, with what f makes of each content
abbrev pub map_contents : {X Y : Type 0} → (X → Y) → List (Row X) → List (Row Y)
map_contents f rows = map (map_content f) rows
