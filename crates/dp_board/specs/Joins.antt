-- What each act of a history joins.
use Rattle.std.specs.Prelude.{ℕ, Bool, true, false, Option, Some, None}
use Rattle.std.specs.Prelude.{List, [], ◌∷◌, ◌++◌, slice_index_or}
use Rattle.dp_board.specs.declared.act.Act.{Act}
use Rattle.dp_board.specs.declared.act.Act.TheVariants.{Draw}
use Rattle.dp_board.specs.declared.act.UserAct.{UserAct}
use Rattle.dp_board.specs.declared.join.Join.{Join}
use Rattle.dp_board.specs.declared.join.Join.TheVariants.{NoCommand, GroupZero, InGroup}
use Rattle.dp_board.specs.Strokes.{Groups, is_among, last_of, strokes}

-- what a command of a user joins, if `group` is the last done one
abbrev pub join_in : ℕ → Option ℕ → Join
join_in user None = GroupZero
join_in user (Some group) = InGroup user group

-- what an act of a user joins, if `g` are the user's groups
abbrev pub join_of : {Op : Type 0} → ℕ → Groups → Act Op → Join
join_of user g (Draw op) = join_in user (last_of g.done)
join_of user g act = NoCommand

-- what each act after `before` joins
abbrev pub joins_from : {Op : Type 0} → ℕ → List (UserAct Op) → List (UserAct Op) → List Join
joins_from depth before [] = []
joins_from depth before (a ∷ rest) =
    join_of a.user (strokes depth a.user before).groups a.act
    ∷ joins_from depth (before ++ a ∷ []) rest

-- what each act of a history joins
abbrev pub joins : {Op : Type 0} → ℕ → List (UserAct Op) → List Join
joins depth acts = joins_from depth [] acts

-- whether what joined by this is drawn, if the users end with these done groups
abbrev pub is_join_drawn : List (List ℕ) → Join → Bool
is_join_drawn done NoCommand = false
is_join_drawn done GroupZero = true
is_join_drawn done (InGroup user group) = is_among (slice_index_or done user []) group
