-- A board that trails its history.
use Rattle.std.specs.Prelude.{◌≡◌, ℕ, ◌+◌, ◌-◌, ◌<◌, ◌≤◌, Option, Some, None}
use Rattle.std.specs.Prelude.{List, [], ◌∷◌, ◌++◌, length, take, drop, map}
use Rattle.std.specs.Option.{ForSome}
use Rattle.std.specs.List.{fold}
use Rattle.dp_board.specs.declared.act.UserAct.{UserAct}
use Rattle.dp_board.specs.Strokes.{concerned}
use Rattle.dp_board.specs.Table.{Table, IsTableAfter, oldest_in, next_strokes, table_with}
use Rattle.dp_savepoints.specs.declared.kept.KeptAct.{KeptAct}
use Rattle.dp_savepoints.specs.declared.kept.Mark.{Mark}
use Rattle.dp_savepoints.specs.Kept.{kept_of, drawn_among, marked}
use Rattle.dp_savepoints.specs.Kept.{drawn_first}
use Rattle.dp_savepoints.specs.Marks.{mark_in, kept_in}

-- a board, the strokes of all users, and the last acts, from the position `base` on
pub record Trailing (B Op : Type 0) : Type 0 where
  pub board : B
  pub table : Table
  pub base : ℕ
  pub kept : List (KeptAct Op)

-- it trails a history: the acts from the base on are held, and the commands of the acts before it
-- are drawn, from the board `blank` on
pub record Trails {B Op : Type 0} (draw : B → Op → B) (blank : B) (depth : ℕ)
    (acts : List (UserAct Op)) (t : Trailing B Op) : Type 0 where
  pub table : IsTableAfter depth acts t.table
  pub kept : t.kept ≡ drop t.base (kept_of depth acts)
  pub board : t.board ≡ fold draw blank (drawn_first depth acts t.base)

-- the positions: acts are held up to the end, and from the oldest Point in reach on at least
pub record HoldsReach (position oldest base kept : ℕ) : Type 0 where
  pub up_to_end : position ≡ base + kept
  pub enough : base ≤ oldest

-- a trailing board's value holds its reach
abbrev pub TrailsReach : {B Op : Type 0} → Trailing B Op → Type 0
TrailsReach t = HoldsReach t.table.position (oldest_in t.table) t.base (length t.kept)

-- the acts that are held from the position `base` on, after a move of a group, if one moved: the
-- flags change from the Point of the group on
abbrev pub marked_later : {Op : Type 0}
    → ℕ → Option Mark → List (KeptAct Op) → List (KeptAct Op)
marked_later base None kept = kept
marked_later base (Some mark) kept =
    take (mark.group - base) kept ++ map (marked mark) (drop (mark.group - base) kept)

-- with an act that comes next, which is held
abbrev pub with_act : {B Op : Type 0} → UserAct Op → Trailing B Op → Trailing B Op
with_act a t = record t {
  table = table_with (next_strokes t.table a) t.table;
  kept = marked_later t.base (mark_in t.table a) t.kept ++ kept_in t.table a ∷ [];
}

-- an act of users that there are comes next, and a group that it moves is among what is held
pub record IsHeldNext {B Op : Type 0} (t : Trailing B Op) (a : UserAct Op) : Type 0 where
  pub sender : a.user < 256
  pub known : concerned a < 256
  pub order : TrailsReach t
  pub reach : ForSome (mark_in t.table a) (λ mark. t.base ≤ mark.group)
  pub before : ForSome (mark_in t.table a) (λ mark. mark.group < t.table.position)

-- the first `count` acts that were held are drawn and let go
abbrev pub drawn_up_to : {B Op : Type 0} → (B → Op → B) → ℕ → Trailing B Op → Trailing B Op
drawn_up_to draw count t = record t {
  board = fold draw t.board (drawn_among (take count t.kept));
  base = t.base + count;
  kept = drop count t.kept;
}

-- drawn up to the oldest Point in reach
abbrev pub drawn_to_reach : {B Op : Type 0} → (B → Op → B) → Trailing B Op → Trailing B Op
drawn_to_reach draw t = drawn_up_to draw (oldest_in t.table - t.base) t
