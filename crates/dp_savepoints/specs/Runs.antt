-- A board that is drawn anew, from a savepoint on.
use Rattle.std.specs.Prelude.{◌≡◌, ℕ, ◌+◌, ◌-◌, ◌≤◌, List, length, map, take, drop, nat_lt}
use Rattle.std.specs.Prelude.{if◌then◌else◌, sum_by}
use Rattle.std.specs.List.{fold}
use Rattle.dp_savepoints.specs.declared.kept.KeptAct.{KeptAct}
use Rattle.dp_savepoints.specs.Kept.{drawn_among, commands_among}
use Rattle.dp_savepoints.specs.Saves.{PointSave}

-- it began at the Point `start` and has come to the position `at`
pub record Running (B : Type 0) : Type 0 where
  pub start : ℕ
  pub at : ℕ
  pub board : B

-- the board at a position, from the savepoint `from` of the Point `start` on, if these acts come
-- from that Point on
abbrev pub run_to : {B Op : Type 0} → (B → Op → B) → List (KeptAct Op) → ℕ → B → ℕ → B
run_to draw kept start from position = fold draw from (drawn_among (take (position - start) kept))

-- the board of a savepoint then: as it was, or drawn anew if its Point comes later
abbrev pub saved_anew : {B Op : Type 0} → (B → Op → B) → List (KeptAct Op) → ℕ → B → ℕ → B → B
saved_anew draw kept start from point old =
    if nat_lt start point then run_to draw kept start from point else old

-- the savepoint of a Point then
abbrev pub save_anew : {B Op : Type 0}
    → (B → Op → B) → List (KeptAct Op) → ℕ → B → PointSave B → PointSave B
save_anew draw kept start from save =
    record save { board = saved_anew draw kept start from save.point save.board }

-- the acts up to the position that it has come to are drawn
pub record IsRunning {B Op : Type 0} (draw : B → Op → B) (kept : List (KeptAct Op)) (from : B)
    (run : Running B) : Type 0 where
  pub begun : run.start ≤ run.at
  pub within : run.at - run.start ≤ length kept
  pub board : run.board ≡ fold draw from (drawn_among (take (run.at - run.start) kept))

-- what is drawn and what is left to draw is no more than was left
pub record LeavesFew {Op : Type 0} (weight : Op → ℕ) (kept : List (KeptAct Op))
    (before after draws draws' tiles tiles' : ℕ) : Type 0 where
  pub few_draws : draws' + length (commands_among (drop after kept))
      ≤ draws + length (commands_among (drop before kept))
  pub few_tiles : tiles' + sum_by weight (commands_among (drop after kept))
      ≤ tiles + sum_by weight (commands_among (drop before kept))

-- all acts are drawn from the savepoint `from` on, and the savepoints of later Points are made anew
pub record IsDrawnAnew {B Op : Type 0} (draw : B → Op → B) (kept : List (KeptAct Op)) (from : B)
    (start : ℕ) (old_saves : List (PointSave B)) (board : B) (saves : List (PointSave B))
    : Type 0 where
  pub drawn : board ≡ fold draw from (drawn_among kept)
  pub saves_are : saves ≡ map (save_anew draw kept start from) old_saves
