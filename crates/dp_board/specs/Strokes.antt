-- The groups of strokes of each user, and the window of those that undo and redo reach.
use Rattle.std.specs.Prelude.{ℕ, ◌+◌, ◌-◌, ◌==◌, Bool, if◌then◌else◌, Option, Some, None}
use Rattle.std.specs.Prelude.{List, [], ◌∷◌, ◌++◌, length, take, drop, slice_get}
use Rattle.std.specs.List.{list_any, find, fold}
use Rattle.dp_board.specs.declared.act.Act.{Act}
use Rattle.dp_board.specs.declared.act.Act.TheVariants.{Point, Undo, Redo, Draw, Depth, Other}
use Rattle.dp_board.specs.declared.act.UserAct.{UserAct}

-- the positions in the history of the Points in reach, of all users, and how many they may be
pub record Window : Type 0 where
  pub depth : ℕ
  pub points : List ℕ

-- a user's groups, each named by the position of its Point in the history, from 0: the done ones in
-- order, the undone ones from the latest undone on
pub record Groups : Type 0 where
  pub done : List ℕ
  pub undone : List ℕ

-- a user's strokes after a history, which has as many acts as `position` says
pub record Strokes : Type 0 where
  pub position : ℕ
  pub window : Window
  pub groups : Groups

-- no Point in reach
abbrev pub empty_window : ℕ → Window
empty_window depth = record { depth = depth; points = [] }

-- no group, done or undone
abbrev pub no_groups : Groups
no_groups = record { done = []; undone = [] }

-- a user's strokes before the first act
abbrev pub no_strokes : ℕ → Strokes
no_strokes depth = record { position = 0; window = empty_window depth; groups = no_groups }

-- the last n, or all if there are fewer
abbrev pub last_few : {X : Type 0} → ℕ → List X → List X
last_few n xs = drop (length xs - n) xs

-- the window with its last Points alone, as many as the depth
abbrev pub cut : Window → Window
cut window = record window { points = last_few window.depth window.points }

-- an act at a position changes the window: a Point joins it at its end, and a Depth sets its depth
abbrev pub window_with : {Op : Type 0} → ℕ → Act Op → Window → Window
window_with position Point window = record window { points = window.points ++ position ∷ [] }
window_with position (Depth depth) window = record window { depth = depth }
window_with position act window = window

-- the window after an act at a position: its last Points alone are left in it
abbrev pub window_after : {Op : Type 0} → ℕ → Act Op → Window → Window
window_after position act window = cut (window_with position act window)

-- a group is among some
abbrev pub is_among : List ℕ → ℕ → Bool
is_among groups group = list_any (λ other. other == group) groups

-- a group is eligible while its Point is in reach
abbrev pub is_eligible : Window → ℕ → Bool
is_eligible window group = is_among window.points group

-- the last of some groups
abbrev pub last_of : List ℕ → Option ℕ
last_of groups = slice_get groups (length groups - 1)

-- the groups but the last
abbrev pub without_last : List ℕ → List ℕ
without_last groups = take (length groups - 1) groups

-- the groups but for the first of the name `group`
abbrev pub without : ℕ → List ℕ → List ℕ
without group [] = []
without group (other ∷ groups) =
    if other == group then groups else other ∷ without group groups

-- the group, if there is one and it is eligible
abbrev pub where_eligible : Window → Option ℕ → Option ℕ
where_eligible window None = None
where_eligible window (Some group) = if is_eligible window group then Some group else None

-- the group that an Undo moves: the last done one, if it is eligible
abbrev pub undoable : Window → Groups → Option ℕ
undoable window g = where_eligible window (last_of g.done)

-- the group that a Redo moves: the first eligible one of the undone
abbrev pub redoable : Window → Groups → Option ℕ
redoable window g = find (is_eligible window) g.undone

-- the group that an act of Undo or Redo of the user moves; other acts move none
abbrev pub moved : {Op : Type 0} → Strokes → Act Op → Option ℕ
moved s (Undo who) = undoable s.window s.groups
moved s (Redo who) = redoable s.window s.groups
moved s act = None

-- an Undo that moves a group puts it, the last done one, before the undone ones
abbrev pub undo : Option ℕ → Groups → Groups
undo None g = g
undo (Some group) g = record g { done = without_last g.done; undone = group ∷ g.undone }

-- a Redo that moves a group puts it, one of the undone, at the end of the done ones
abbrev pub redo : Option ℕ → Groups → Groups
redo None g = g
redo (Some group) g = record g { done = g.done ++ group ∷ []; undone = without group g.undone }

-- a group is opened at the end of the done ones, and none is undone any more
abbrev pub open_group : ℕ → Groups → Groups
open_group group g = record g { done = g.done ++ group ∷ []; undone = [] }

-- no group is undone any more
abbrev pub clear_undone : Groups → Groups
clear_undone g = record g { undone = [] }

-- a user's groups after an act at a position, which concerns the user and moves `group`
abbrev pub groups_with : {Op : Type 0} → ℕ → Option ℕ → Act Op → Groups → Groups
groups_with position group Point g = open_group position g
groups_with position group (Undo who) g = undo group g
groups_with position group (Redo who) g = redo group g
groups_with position group (Draw op) g = clear_undone g
groups_with position group (Depth depth) g = g
groups_with position group Other g = g

-- a user's groups after an act that concerns the user
abbrev pub groups_after : {Op : Type 0} → Strokes → Act Op → Groups
groups_after s act = groups_with s.position (moved s act) act s.groups

-- the user whom an act of a sender concerns: whom an Undo or a Redo names, or else the sender
abbrev pub concerned_by : {Op : Type 0} → ℕ → Act Op → ℕ
concerned_by sender (Undo who) = who
concerned_by sender (Redo who) = who
concerned_by sender act = sender

-- the user whom an act concerns, which alone has other groups after it
abbrev pub concerned : {Op : Type 0} → UserAct Op → ℕ
concerned a = concerned_by a.user a.act

-- a user's strokes after an act, whoever's it is
abbrev pub after_act : {Op : Type 0} → ℕ → Strokes → UserAct Op → Strokes
after_act user s a = record s {
  position = s.position + 1;
  window = window_after s.position a.act s.window;
  groups = if concerned a == user then groups_after s a.act else s.groups;
}

-- a user's strokes after a history
abbrev pub strokes : {Op : Type 0} → ℕ → ℕ → List (UserAct Op) → Strokes
strokes depth user acts = fold (after_act user) (no_strokes depth) acts

-- the group that an act after a history moves, whoever's it is
abbrev pub moved_by : {Op : Type 0} → ℕ → List (UserAct Op) → UserAct Op → Option ℕ
moved_by depth before a = moved (strokes depth (concerned a) before) a.act
