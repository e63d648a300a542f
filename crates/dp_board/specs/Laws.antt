-- Laws of strokes and of flags.
use Rattle.std.specs.Prelude.{◌≡◌, ℕ, ◌+◌, ◌<◌, Bool, true, false, Option, Some, None}
use Rattle.std.specs.Prelude.{unwrap_or}
use Rattle.std.specs.Prelude.{List, [], ◌∷◌, ◌++◌, length, All, slice_get}
use Rattle.std.specs.List.{AllByRecursion, fold}
use Rattle.dp_board.specs.declared.act.Act.{Act}
use Rattle.dp_board.specs.declared.act.Act.TheVariants.{Point, Depth, Other}
use Rattle.dp_board.specs.declared.act.UserAct.{UserAct}
use Rattle.dp_board.specs.Strokes.{Strokes, last_few, is_eligible, concerned}
use Rattle.dp_board.specs.Strokes.{after_act, strokes, moved_by}
use Rattle.dp_board.specs.Flags.{drawn_flags}
use Rattle.dp_board.specs.Commands.{map_commands, all_commands, drawn_commands}

-- which acts are commands that are drawn does not depend on the commands
abbrev pub CommandsDoNotCount : Type 0 → Type 0 → Type 0
CommandsDoNotCount A B =
    (f : A → B) (depth : ℕ) (acts : List (UserAct A))
    → drawn_flags depth (map_commands f acts) ≡ drawn_flags depth acts

-- an act after a history changes a user's strokes as `after_act` says
abbrev pub StrokesGoOn : Type 0 → Type 0
StrokesGoOn Op =
    (depth user : ℕ) (acts : List (UserAct Op)) (a : UserAct Op)
    → strokes depth user (acts ++ a ∷ []) ≡ after_act user (strokes depth user acts) a

-- a history has a flag for each of its acts
abbrev pub EachActHasAFlag : Type 0 → Type 0
EachActHasAFlag Op =
    (depth : ℕ) (acts : List (UserAct Op)) → length (drawn_flags depth acts) ≡ length acts

-- the position, if the act is a Point
abbrev pub point_at : {Op : Type 0} → ℕ → Act Op → List ℕ
point_at position Point = position ∷ []
point_at position act = []

-- the positions of the Points of a part of a history that begins at a position
abbrev pub points_from : {Op : Type 0} → ℕ → List (UserAct Op) → List ℕ
points_from position [] = []
points_from position (a ∷ rest) = point_at position a.act ++ points_from (position + 1) rest

-- as many acts have come as the history has, and in reach are the last `depth` of its Points
pub record IsOfLastPoints {Op : Type 0} (depth : ℕ) (acts : List (UserAct Op)) (s : Strokes)
    : Type 0 where
  pub position : s.position ≡ length acts
  pub depth_stays : s.window.depth ≡ depth
  pub points : s.window.points ≡ last_few depth (points_from 0 acts)

-- the depth that an act sets
abbrev pub depth_in : {Op : Type 0} → Act Op → Option ℕ
depth_in (Depth depth) = Some depth
depth_in act = None

-- no act sets a depth
abbrev pub HasNoDepth : {Op : Type 0} → List (UserAct Op) → Type 0
HasNoDepth acts = AllByRecursion (λ a. depth_in a.act ≡ None) acts

-- the depth after a history: the last that was set, or else that of the start
abbrev pub depth_after : {Op : Type 0} → ℕ → List (UserAct Op) → ℕ
depth_after depth acts = fold (λ set a. unwrap_or (depth_in a.act) set) depth acts

-- if no depth was set, the position and the window of a user's strokes are those of the history
abbrev pub WindowIsOfLastPoints : Type 0 → Type 0
WindowIsOfLastPoints Op =
    (depth user : ℕ) (acts : List (UserAct Op)) → HasNoDepth acts
    → IsOfLastPoints depth acts (strokes depth user acts)

-- the depth in force is the last that was set
abbrev pub DepthIsInForce : Type 0 → Type 0
DepthIsInForce Op =
    (depth user : ℕ) (acts : List (UserAct Op))
    → (strokes depth user acts).window.depth ≡ depth_after depth acts

-- a Point that was cut out of the window stays out, whatever depth is set later
abbrev pub CutOutStaysOut : Type 0 → Type 0
CutOutStaysOut Op =
    (depth user : ℕ) (acts more : List (UserAct Op)) (point : ℕ) → point < length acts
    → is_eligible (strokes depth user acts).window point ≡ false
    → is_eligible (strokes depth user (acts ++ more)).window point ≡ false

-- an act is a Point
abbrev pub is_point : {Op : Type 0} → Act Op → Bool
is_point Point = true
is_point act = false

-- no act is a Point
abbrev pub HasNoPoint : {Op : Type 0} → List (UserAct Op) → Type 0
HasNoPoint acts = AllByRecursion (λ a. is_point a.act ≡ false) acts

-- If a history begins without a Point, the beginning is drawn whole. What comes after it is drawn
-- as it is alone, from the depth that the beginning leaves.
abbrev pub PrefixesWithoutPoints : Type 0 → Type 0
PrefixesWithoutPoints Op =
    (depth : ℕ) (before after : List (UserAct Op)) → HasNoPoint before
    → drawn_commands depth (before ++ after)
    ≡ all_commands before ++ drawn_commands (depth_after depth before) after

-- an act that has no effect on strokes, whoever's it is
abbrev pub other_act : {Op : Type 0} → ℕ → UserAct Op
other_act who = record { user = who; act = Other }

-- an act that has no effect on strokes changes nothing of what is drawn, wherever it stands
abbrev pub OthersDoNotCount : Type 0 → Type 0
OthersDoNotCount Op =
    (depth who : ℕ) (before after : List (UserAct Op))
    → drawn_commands depth (before ++ other_act who ∷ after)
    ≡ drawn_commands depth (before ++ after)

-- a Point of a user
abbrev pub point_of : {Op : Type 0} → ℕ → UserAct Op
point_of user = record { user = user; act = Point }

-- at the position stands a Point of the user
abbrev pub IsPointOf : {Op : Type 0} → ℕ → List (UserAct Op) → ℕ → Type 0
IsPointOf user acts position = slice_get acts position ≡ Some (point_of user)

-- each group of a user is named by the position of a Point of that user
abbrev pub GroupsArePoints : Type 0 → Type 0
GroupsArePoints Op =
    (depth user : ℕ) (acts : List (UserAct Op))
    → All (IsPointOf user acts) (strokes depth user acts).groups.done
    × All (IsPointOf user acts) (strokes depth user acts).groups.undone

-- the group that an act moves is named by the position of a Point of the user whom the act concerns
abbrev pub MovedIsAPoint : Type 0 → Type 0
MovedIsAPoint Op =
    (depth : ℕ) (before : List (UserAct Op)) (a : UserAct Op) (group : ℕ)
    → moved_by depth before a ≡ Some group → IsPointOf (concerned a) before group
