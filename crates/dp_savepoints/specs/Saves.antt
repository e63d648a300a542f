-- Savepoints: boards as they were at Points.
use Rattle.std.specs.Prelude.{ℕ, List, [], ◌∷◌, map}
use Rattle.dp_board.specs.declared.act.Act.{Act}
use Rattle.dp_board.specs.declared.act.Act.TheVariants.{Point}

-- the savepoint of a Point in reach: the board at it
pub record PointSave (B : Type 0) : Type 0 where
  pub point : ℕ
  pub board : B

-- the Points that savepoints are of
abbrev pub points_of : {B : Type 0} → List (PointSave B) → List ℕ
points_of saves = map (λ save. save.point) saves

-- the savepoint of an act at a position, if it is a Point that comes on this board
abbrev pub save_of : {B Op : Type 0} → ℕ → B → Act Op → List (PointSave B)
save_of position board Point = (record { point = position; board = board }) ∷ []
save_of position board act = []
