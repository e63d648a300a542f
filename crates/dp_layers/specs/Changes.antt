-- What the commands on layers make of the rows. A command that isn't given an effect leaves them.
use Rattle.std.specs.Prelude.{ℕ, ◌-◌, Bool, false, not, ◌&&◌, ◌||◌, ◌==◌, nat_lt, ⊤}
use Rattle.std.specs.Prelude.{if◌then◌else◌, Option, List, [], ◌∷◌, ◌++◌, length, map}
use Rattle.std.specs.List.{filter}
use Rattle.dp_msg_draw.specs.declared.draw.Draw.{Draw}
use Rattle.dp_msg_draw.specs.declared.draw.Draw.TheVariants.{
  LayerCreate,
  LayerAttr,
  LayerTitle,
  LayerMove,
  LayerDelete,
}
use Rattle.dp_layers.specs.declared.row.LayerRow.{LayerRow}
use Rattle.dp_layers.specs.Layers.{nesting_limit, row_limit, has_id, has_row, is_root_or_group}
use Rattle.dp_layers.specs.Layers.{is_within, is_in, are_within, is_listed_mode}
use Rattle.dp_layers.specs.Rows.{Row, layers_of}

-- what change makes of the row, if it has the id
abbrev pub change_row : ℕ → (LayerRow → LayerRow) → LayerRow → LayerRow
change_row id change row = if has_id id row then change row else row

-- the row with this layer
abbrev pub with_layer : {X : Type 0} → Row X → LayerRow → Row X
with_layer row layer = record row { layer = layer }

-- the rows, with what change makes of the one of the id
abbrev pub rows_changed : {X : Type 0} → List (Row X) → ℕ → (LayerRow → LayerRow) → List (Row X)
rows_changed rows id change = map (λ row. with_layer row (change_row id change row.layer)) rows

-- LayerCreate: the row may be created. Its depth is one more than its parent's.
abbrev pub can_create : List LayerRow → ℕ → ℕ → Bool
can_create rows id parent =
    not (id == 0) && not (has_row rows id) && nat_lt (length rows) row_limit
    && is_root_or_group rows parent && is_within (nesting_limit - 1) rows parent

-- a new row: opaque, of the mode normal, and not hidden
abbrev pub new_row : ℕ → ℕ → Bool → List ℕ → LayerRow
new_row id parent group title = record {
  id = id;
  parent = parent;
  group = group;
  title = title;
  opacity = 255;
  mode = 1;
  hidden = false;
}

-- the row comes last
abbrev pub created : {X : Type 0} → List (Row X) → LayerRow → Option X → List (Row X)
created rows row x = rows ++ record { layer = row; content = x } ∷ []

-- LayerAttr: a row of the id is present, and a blend mode has the number
abbrev pub can_set_attr : List LayerRow → ℕ → ℕ → Bool
can_set_attr rows id mode = has_row rows id && is_listed_mode mode

-- the row with this opacity and mode, hidden or not
abbrev pub set_attr : ℕ → ℕ → Bool → LayerRow → LayerRow
set_attr opacity mode hidden row = record row { opacity = opacity; mode = mode; hidden = hidden }

-- the row with this title
abbrev pub set_title : List ℕ → LayerRow → LayerRow
set_title title row = record row { title = title }

-- the row with this parent
abbrev pub set_parent : ℕ → LayerRow → LayerRow
set_parent parent row = record row { parent = parent }

-- The row may stand in the parent, and there first or after another row. The parent is the root, or
-- a group that is neither the row itself nor below it.
abbrev pub can_stand : List LayerRow → ℕ → ℕ → ℕ → Bool
can_stand rows id parent above =
    is_root_or_group rows parent && not (is_in rows parent id)
    && (above == 0 || (has_row rows above && not (above == id)))

-- LayerMove: the row is present and may stand there, and then no row's depth is above the limit
abbrev pub can_move : List LayerRow → ℕ → ℕ → ℕ → Bool
can_move rows id parent above =
    has_row rows id && can_stand rows id parent above
    && are_within (map (change_row id (set_parent parent)) rows)

-- the rows, with the taken ones directly after the first that passes the test
abbrev pub inserted_after : {R : Type 0} → (R → Bool) → List R → List R → List R
inserted_after test taken [] = []
inserted_after test taken (row ∷ rows) =
    if test row then row ∷ (taken ++ rows) else row ∷ inserted_after test taken rows

-- The row of the id is taken out and stands directly after the row `above`, or first if that is
-- 0. Rows below it stay in their places. (`has` says whether a row has an id.)
abbrev pub placed : {R : Type 0} → (ℕ → R → Bool) → List R → ℕ → ℕ → List R
placed has rows id above =
    let taken = filter (has id) rows in
    let others = filter (λ row. not (has id row)) rows in
    if above == 0 then taken ++ others else inserted_after (has above) taken others

-- the row of the id with its new parent, in its new place
abbrev pub moved : {X : Type 0} → List (Row X) → ℕ → ℕ → ℕ → List (Row X)
moved rows id parent above =
    placed (λ id row. has_id id row.layer) (rows_changed rows id (set_parent parent)) id above

-- the row of the id and all rows below it go
abbrev pub deleted : {X : Type 0} → List (Row X) → ℕ → List (Row X)
deleted rows id = filter (λ row. not (is_in (layers_of rows) row.layer.id id)) rows

-- the command has an effect on the rows
abbrev pub has_effect : List LayerRow → Draw → Bool
has_effect rows (LayerCreate id parent group title) = can_create rows id parent
has_effect rows (LayerAttr id opacity mode hidden) = can_set_attr rows id mode
has_effect rows (LayerTitle id title) = has_row rows id
has_effect rows (LayerMove id parent above) = can_move rows id parent above
has_effect rows (LayerDelete id) = has_row rows id
has_effect rows _ = false

-- the effect, if x is what a new row holds
abbrev pub effect_on : {X : Type 0} → List (Row X) → Draw → Option X → List (Row X)
effect_on rows (LayerCreate id parent group title) x =
    created rows (new_row id parent group title) x
effect_on rows (LayerAttr id opacity mode hidden) x =
    rows_changed rows id (set_attr opacity mode hidden)
effect_on rows (LayerTitle id title) x = rows_changed rows id (set_title title)
effect_on rows (LayerMove id parent above) x = moved rows id parent above
effect_on rows (LayerDelete id) x = deleted rows id
effect_on rows _ x = rows

-- the rows after the command, if x is what a new row holds
abbrev pub rows_after : {X : Type 0} → List (Row X) → Draw → Option X → List (Row X)
rows_after rows op x = if has_effect (layers_of rows) op then effect_on rows op x else rows

-- the command is to make a paint row
abbrev pub makes_paint_row : Draw → Bool
makes_paint_row (LayerCreate id parent group title) = not group
makes_paint_row _ = false

-- the kinds of the commands on layers
abbrev pub IsCreate : Draw → Type 0
IsCreate (LayerCreate id parent group title) = ⊤
IsCreate _ = ⊥

abbrev pub IsAttr : Draw → Type 0
IsAttr (LayerAttr id opacity mode hidden) = ⊤
IsAttr _ = ⊥

abbrev pub IsTitleChange : Draw → Type 0
IsTitleChange (LayerTitle id title) = ⊤
IsTitleChange _ = ⊥

abbrev pub IsMove : Draw → Type 0
IsMove (LayerMove id parent above) = ⊤
IsMove _ = ⊥

abbrev pub IsDelete : Draw → Type 0
IsDelete (LayerDelete id) = ⊤
IsDelete _ = ⊥
