-- Operations that wait for the tiles of a grid.
use Rattle.std.specs.Prelude.{◌≡◌, ℕ, ◌+◌, ◌-◌, ◌*◌, ◌/◌, ◌%◌, ◌<◌, ◌≤◌, pos, ℤ}
use Rattle.std.specs.Prelude.{nat_le, if◌then◌else◌, List, [], ◌++◌, length, slice_index_or}
use Rattle.std.specs.Prelude.{slice_get, Some, ⊤}
use Rattle.dp_blend.specs.Color.{Channels}
use Rattle.dp_msg_draw.specs.declared.draw.Draw.{Draw}
use Rattle.dp_msg_draw.specs.declared.draw.Draw.TheVariants.{FillRect, DabsRound, DabsSquare}
use Rattle.dp_pixels.specs.Commands.{pixel_after, pixel_drawn}
use Rattle.dp_tile.specs.declared.area.CellArea.{CellArea}
use Rattle.dp_ops.specs.declared.op.TileOp.{TileOp}
use Rattle.dp_ops.specs.declared.lists.Finish.{Finish}
use Rattle.dp_ops.specs.declared.lists.Finish.TheVariants.{Keep, Drop, Clear}
use Rattle.dp_ops.specs.Ops.{Draws, OnTile, on_tile, ops_at, tile_after}

-- the operations that wait on a tile, and those that were added since and don't count yet
pub record Waiting : Type 0 where
  pub ops : List TileOp
  pub more : List TileOp

-- no operation
abbrev pub no_list : Waiting
no_list = record { ops = []; more = [] }

-- lists of tiles, from a row of tiles on
pub record Lists : Type 0 where
  pub first : ℕ
  pub lists : List Waiting

-- Where the list of a tile stands, by its column and how many rows it is down: in strips of 8 rows
-- of 64 tiles, and in a strip column by column.
abbrev pub cell_place : ℕ → ℕ → ℕ
cell_place col down = (down / 8) * 512 + col * 8 + down % 8

-- the list of the tile at a column and a row
abbrev pub list_at : Lists → ℕ → ℕ → Waiting
list_at l col row =
    if nat_le l.first row
    then slice_index_or l.lists (cell_place col (row - l.first)) no_list
    else no_list

-- the operations that wait there
abbrev pub listed_at : Lists → ℕ → ℕ → List TileOp
listed_at l col row = (list_at l col row).ops

-- The pixels of the tile at a column and a row of a canvas of these sides, after all that waits on
-- it. These commands are the numbered ones.
abbrev pub waiting_tile : ℕ → ℕ → List Draw → Lists → ℕ → ℕ → List Channels → List Channels
waiting_tile width height commands lists col row =
    tile_after (on_tile width height commands col row) (listed_at lists col row)

-- the cell at a column and a row is in the area
pub record IsInside (area : CellArea) (col row : ℕ) : Type 0 where
  pub left : area.left ≤ col
  pub right : col < area.right
  pub top : area.top ≤ row
  pub bottom : row < area.bottom

-- on any tile, whatever is numbered there
abbrev pub anywhere : OnTile → Type 0
anywhere t = ⊤

-- on a tile of a canvas of these sides if the command has this number
pub record IsNumbered (wide high number : ℕ) (command : Draw) (t : OnTile) : Type 0 where
  pub width : t.width ≡ wide
  pub height : t.height ≡ high
  pub numbered : slice_get t.commands number ≡ Some command

-- A command stands on a tile: a fill and dabs on any, and another command by its number, on a
-- canvas of these sides.
abbrev pub StandsOn : ℕ → ℕ → ℕ → Draw → OnTile → Type 0
StandsOn wide high number (FillRect layer mode x y w h color) = anywhere
StandsOn wide high number (DabsRound layer x y r g b mode dabs) = anywhere
StandsOn wide high number (DabsSquare layer x y r g b mode dabs) = anywhere
StandsOn wide high number command = IsNumbered wide high number command

-- a command was filed: the lists of the cells of an area draw it more, if the tiles are among
-- some, and all others stay
pub record IsFiled (among : OnTile → Type 0) (command : Draw) (area : CellArea) (old new : Lists)
    : Type 0 where
  pub inside : (t : OnTile) → among t → IsInside area t.col t.row
      → Draws t command (listed_at old t.col t.row) (listed_at new t.col t.row)
  pub outside : (col row : ℕ) → col < 64 → (IsInside area col row → ⊥)
      → listed_at new col row ≡ listed_at old col row

-- ---- in the words of the code

-- what becomes of the operations of a list
abbrev pub finished : Finish → Waiting → Waiting
finished Keep l = record { ops = l.ops ++ l.more; more = [] }
finished Drop l = record { ops = l.ops; more = [] }
finished Clear l = no_list

-- a list was finished
abbrev pub IsFinished : Finish → ℕ → ℕ → Waiting → Waiting → Type 0
IsFinished how col row old new = new ≡ finished how old

-- the cells of a row from a column on before another
abbrev pub row_to : ℕ → ℕ → ℕ → CellArea
row_to row left right = record { left = left; right = right; top = row; bottom = row + 1 }

-- the list of each tile in the columns before one and the rows before one is there
abbrev pub HasLists : ℕ → ℕ → Lists → Type 0
HasLists right bottom l =
    (col row : ℕ) → col < right → l.first ≤ row → row < bottom
    → cell_place col (row - l.first) < length l.lists

-- nothing was added on any tile that doesn't count
abbrev pub AllCount : Lists → Type 0
AllCount l = (col row : ℕ) → col < 64 → (list_at l col row).more ≡ []

-- the operations that wait on each tile stay
abbrev pub HaveSame : Lists → Lists → Type 0
HaveSame old new = (col row : ℕ) → col < 64 → listed_at new col row ≡ listed_at old col row

-- the list of each tile stays
abbrev pub HaveSameLists : Lists → Lists → Type 0
HaveSameLists old new = (col row : ℕ) → col < 64 → list_at new col row ≡ list_at old col row

-- the list of each tile outside an area stays
abbrev pub StayOutside : CellArea → Lists → Lists → Type 0
StayOutside area old new =
    (col row : ℕ) → col < 64 → (IsInside area col row → ⊥)
    → list_at new col row ≡ list_at old col row

-- in an area, each list is related to the old one, and all others stay
pub record IsChangedOn (area : CellArea) (change : ℕ → ℕ → Waiting → Waiting → Type 0)
    (old new : Lists) : Type 0 where
  pub first : new.first ≡ old.first
  pub len : length new.lists ≡ length old.lists
  pub inside : (col row : ℕ) → IsInside area col row
      → change col row (list_at old col row) (list_at new col row)
  pub outside : (col row : ℕ) → col < 64 → (IsInside area col row → ⊥)
      → list_at new col row ≡ list_at old col row

-- What the operations of a command do at a place. Those of a fill and of dabs may go past the
-- canvas.
abbrev pub filed_at : ℕ → ℕ → Draw → ℤ → ℤ → Channels → Channels
filed_at wide high (FillRect layer mode x y w h color) =
    pixel_after (FillRect layer mode x y w h color)
filed_at wide high (DabsRound layer x y r g b mode dabs) =
    pixel_after (DabsRound layer x y r g b mode dabs)
filed_at wide high (DabsSquare layer x y r g b mode dabs) =
    pixel_after (DabsSquare layer x y r g b mode dabs)
filed_at wide high command = pixel_drawn wide high command

-- what was added on a tile makes a change of its places more, if the tile is among some
abbrev pub AddsMore : (OnTile → Type 0) → (ℤ → ℤ → Channels → Channels) → ℕ → ℕ
    → Waiting → Waiting → Type 0
AddsMore among change col row old new =
    (new.ops ≡ old.ops)
    × ((t : OnTile) (i j : ℕ) (p : Channels) → t.col ≡ col → t.row ≡ row → among t
    → i < 64 → j < 64
    → ops_at t new.more i j p
    ≡ change (pos (col * 64 + i)) (pos (row * 64 + j)) (ops_at t old.more i j p))

-- What was put on a tile, where all counted, makes a change of its places more, if the tile is
-- among some. All counts there again.
abbrev pub PutsMore : (OnTile → Type 0) → (ℤ → ℤ → Channels → Channels) → ℕ → ℕ
    → Waiting → Waiting → Type 0
PutsMore among change col row old new =
    (new.more ≡ [])
    × ((t : OnTile) (i j : ℕ) (p : Channels) → t.col ≡ col → t.row ≡ row → among t
    → i < 64 → j < 64
    → ops_at t new.ops i j p
    ≡ change (pos (col * 64 + i)) (pos (row * 64 + j)) (ops_at t old.ops i j p))
