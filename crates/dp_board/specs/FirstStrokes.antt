-- Strokes as the first profile has them: no act sets a depth.
use Rattle.std.specs.Prelude.{◌≡◌, ℕ, ◌==◌, if◌then◌else◌, List, [], ◌∷◌, ◌++◌, length}
use Rattle.dp_board.specs.declared.act.UserAct.{UserAct}
use Rattle.dp_board.specs.Strokes.{Groups, Strokes, no_groups, last_few, concerned, groups_after}
use Rattle.dp_board.specs.Strokes.{strokes}
use Rattle.dp_board.specs.Laws.{points_from, HasNoDepth}

-- a user's strokes after the history `before`, if the user has these groups: a group is eligible
-- while its Point is among the last `depth` Points, of all users, of the history so far
abbrev pub first_reach : {Op : Type 0} → ℕ → List (UserAct Op) → Groups → Strokes
first_reach depth before g = record {
  position = length before;
  window = record { depth = depth; points = last_few depth (points_from 0 before) };
  groups = g;
}

-- a user's groups after an act that comes after `before`
abbrev pub first_after : {Op : Type 0}
    → ℕ → ℕ → List (UserAct Op) → Groups → UserAct Op → Groups
first_after depth user before g a =
    if concerned a == user then groups_after (first_reach depth before g) a.act else g

-- a user's groups after the acts that come after `before`
abbrev pub first_groups : {Op : Type 0}
    → ℕ → ℕ → List (UserAct Op) → Groups → List (UserAct Op) → Groups
first_groups depth user before g [] = g
first_groups depth user before g (a ∷ rest) =
    first_groups depth user (before ++ a ∷ []) (first_after depth user before g a) rest

-- a user's strokes after a history
abbrev pub first_strokes : {Op : Type 0} → ℕ → ℕ → List (UserAct Op) → Strokes
first_strokes depth user acts = first_reach depth acts (first_groups depth user [] no_groups acts)

-- a history that sets no depth has the strokes of the first profile
abbrev pub FirstStrokesStay : Type 0 → Type 0
FirstStrokesStay Op =
    (depth user : ℕ) (acts : List (UserAct Op)) → HasNoDepth acts
    → strokes depth user acts ≡ first_strokes depth user acts
