-- How the flags of a history go on with one more act, and which are final.
use Rattle.std.specs.Prelude.{◌≡◌, ℕ, ◌+◌, ◌<◌, ◌≤◌, ◌==◌, ◌&&◌, Bool, true, false, ◌⊎◌}
use Rattle.std.specs.Prelude.{if◌then◌else◌, Some, None, List, [], ◌∷◌, ◌++◌, take, length}
use Rattle.std.specs.Prelude.{slice_get, ⊤}
use Rattle.dp_board.specs.declared.act.Act.{Act}
use Rattle.dp_board.specs.declared.act.Act.TheVariants.{Redo, Draw}
use Rattle.dp_board.specs.declared.act.UserAct.{UserAct}
use Rattle.dp_board.specs.declared.join.Join.{Join}
use Rattle.dp_board.specs.declared.join.Join.TheVariants.{NoCommand, GroupZero, InGroup}
use Rattle.dp_board.specs.Strokes.{Strokes, concerned, strokes, is_among, is_eligible, moved_by}
use Rattle.dp_board.specs.Flags.{drawn_flags}
use Rattle.dp_board.specs.Joins.{joins}

-- an act is a command
abbrev pub is_draw : {Op : Type 0} → Act Op → Bool
is_draw (Draw op) = true
is_draw act = false

-- an act brings groups back
abbrev pub is_redo : {Op : Type 0} → Act Op → Bool
is_redo (Redo who) = true
is_redo act = false

-- the flag of what joined so: `flag` in the group `group` of the user, and else the old one
abbrev pub flag_with : ℕ → ℕ → Bool → Join → Bool → Bool
flag_with user group flag NoCommand old = old
flag_with user group flag GroupZero old = old
flag_with user group flag (InGroup other place) old =
    if (other == user) && (place == group) then flag else old

-- the flags of acts, if those in the group `group` of the user get the flag `flag`
abbrev pub flags_with : ℕ → ℕ → Bool → List Join → List Bool → List Bool
flags_with user group flag [] olds = []
flags_with user group flag (join ∷ joins) [] = []
flags_with user group flag (join ∷ joins) (old ∷ olds) =
    flag_with user group flag join old ∷ flags_with user group flag joins olds

-- if an act moves no group the flags stay, and a command that comes last is drawn
abbrev pub FlagsGoOn : Type 0 → Type 0
FlagsGoOn Op =
    (depth : ℕ) (acts : List (UserAct Op)) (a : UserAct Op) → moved_by depth acts a ≡ None
    → drawn_flags depth (acts ++ a ∷ []) ≡ drawn_flags depth acts ++ is_draw a.act ∷ []

-- an act that moves a group changes the flags of that group of the user whom the act concerns, and
-- no others: they are true after a Redo and false after an Undo
abbrev pub FlagsMove : Type 0 → Type 0
FlagsMove Op =
    (depth : ℕ) (acts : List (UserAct Op)) (a : UserAct Op) (group : ℕ)
    → moved_by depth acts a ≡ Some group → drawn_flags depth (acts ++ a ∷ [])
    ≡ flags_with (concerned a) group (is_redo a.act) (joins depth acts) (drawn_flags depth acts)
    ++ false ∷ []

-- the flags up to the Point of the group that an act moves stay
abbrev pub FlagsStayBefore : Type 0 → Type 0
FlagsStayBefore Op =
    (depth : ℕ) (acts : List (UserAct Op)) (a : UserAct Op) (group count : ℕ)
    → moved_by depth acts a ≡ Some group → count ≤ group + 1
    → take count (drawn_flags depth (acts ++ a ∷ [])) ≡ take count (drawn_flags depth acts)

-- each act of a history joins something, or nothing
abbrev pub EachActHasAJoin : Type 0 → Type 0
EachActHasAJoin Op =
    (depth : ℕ) (acts : List (UserAct Op)) → length (joins depth acts) ≡ length acts

-- an act joins groups whose Points come before it
abbrev pub JoinsComeLater : Type 0 → Type 0
JoinsComeLater Op =
    (depth : ℕ) (acts : List (UserAct Op)) (place user group : ℕ)
    → slice_get (joins depth acts) place ≡ Some (InGroup user group) → group < place

-- the group that an act moves is in reach
abbrev pub MovedIsInReach : Type 0 → Type 0
MovedIsInReach Op =
    (depth : ℕ) (acts : List (UserAct Op)) (a : UserAct Op) (group : ℕ)
    → moved_by depth acts a ≡ Some group
    → is_eligible (strokes depth (concerned a) acts).window group ≡ true

-- a group that no later act can move: it is out of reach, or is neither done nor undone
abbrev pub IsOutOfReach : Strokes → ℕ → Type 0
IsOutOfReach s group =
    (is_eligible s.window group ≡ false)
    ⊎ ((is_among s.groups.done group ≡ false) × (is_among s.groups.undone group ≡ false))

-- what joined so can't be undone or brought back any more
abbrev pub IsFinal : {Op : Type 0} → ℕ → List (UserAct Op) → Join → Type 0
IsFinal depth acts NoCommand = ⊤
IsFinal depth acts GroupZero = ⊤
IsFinal depth acts (InGroup user group) = IsOutOfReach (strokes depth user acts) group

-- an act that joined what can't be undone or brought back has the same flag in each longer history
abbrev pub FinalFlagsStay : Type 0 → Type 0
FinalFlagsStay Op =
    (depth : ℕ) (acts later : List (UserAct Op)) (place : ℕ) (join : Join)
    → slice_get (joins depth acts) place ≡ Some join → IsFinal depth acts join
    → slice_get (drawn_flags depth (acts ++ later)) place ≡ slice_get (drawn_flags depth acts) place
