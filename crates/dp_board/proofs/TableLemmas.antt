-- How the strokes of all users go on with one more act, and what the acts joined.
use Rattle.std.proofs.Common.{◌≡◌, ℕ, ◌+◌, ◌<◌, List, [], ◌∷◌, ◌++◌, refl, map, ap, sym, ◌∙◌}
use Rattle.std.proofs.Common.{get_or, append_assoc, take, drop, length, arith, Option, Some, None}
use Rattle.std.proofs.Common.{suc}
use Rattle.std.proofs.lemmas.List.{take_more, drop_more}
use Rattle.std.proofs.lemmas.List.Sums.{fold_push}
use Rattle.std.specs.List.{All}
use Rattle.dp_board.specs.declared.act.Act.{Act}
use Rattle.dp_board.specs.declared.act.Act.TheVariants.{Point, Undo, Redo, Draw, Depth, Other}
use Rattle.dp_board.specs.declared.act.UserAct.{UserAct}
use Rattle.dp_board.specs.declared.join.Join.{Join}
use Rattle.dp_board.specs.Strokes.{no_strokes, is_among, after_act, strokes}
use Rattle.dp_board.specs.Flags.{joined, is_group_drawn, flag_of, flags_from}
use Rattle.dp_board.specs.Users.{groups_of, HaveDone}
use Rattle.dp_board.specs.Joins.{join_of, join_in, joins_from, is_join_drawn}
use Rattle.dp_board.specs.Table.{Table, HasStrokes, TakesAct}

-- one more act at the end of a history
pub strokes-push : {Op : Type 0} → (depth user : ℕ) (xs : List (UserAct Op)) (a : UserAct Op)
    → strokes depth user (xs ++ a ∷ []) ≡ after_act user (strokes depth user xs) a
strokes-push depth user xs a = fold_push (after_act user) (no_strokes depth) xs a

-- the strokes of each user, with one more act
pub HasStrokes-push : {Op : Type 0} → (depth : ℕ) (before : List (UserAct Op)) (a : UserAct Op)
    (old new : Table) → HasStrokes depth before old → TakesAct a old new
    → HasStrokes depth (before ++ a ∷ []) new
HasStrokes-push depth before a old new were taken user small =
    taken user small
    ∙ ap (λ s. after_act user s a) (were user small)
    ∙ sym (strokes-push depth user before a)

-- what the acts joined, with one more act
pub joins_from-push : {Op : Type 0} → (depth : ℕ) (before : List (UserAct Op)) (a : UserAct Op)
    (rest : List (UserAct Op)) (table : Table) (joins all : List Join)
    → HasStrokes depth before table → a.user < 256 → joins ++ joins_from depth before (a ∷ rest)
    ≡ all → (joins ++ join_of a.user (groups_of table.users a.user) a.act ∷ [])
    ++ joins_from depth (before ++ a ∷ []) rest ≡ all
joins_from-push depth before a rest table joins all are small is =
    append_assoc joins _ _
    ∙ ap (λ s. joins ++ join_of a.user s.groups a.act ∷ joins_from depth (before ++ a ∷ []) rest)
    (are a.user small)
    ∙ is

-- the acts so far, with the next
pub take-step : {X : Type 0} → (xs : List X) (i : ℕ) (a : X) → i < length xs → a ≡ get_or xs i a
    → take (i + 1) xs ≡ take i xs ++ a ∷ []
take-step xs i a inside is = take_more xs i a inside ∙ ap (λ y. take i xs ++ y ∷ []) (sym is)

-- the joins so far and those of the rest, one act on
pub joins_from-step : {Op : Type 0} → (depth : ℕ) (xs : List (UserAct Op)) (i : ℕ) (a : UserAct Op)
    (table : Table) (joins more : List Join) (join : Join) (all : List Join) → i < length xs
    → a ≡ get_or xs i a → HasStrokes depth (take i xs) table → a.user < 256
    → join ≡ join_of a.user (groups_of table.users a.user) a.act → more ≡ joins ++ join ∷ []
    → joins ++ joins_from depth (take i xs) (drop i xs) ≡ all
    → more ++ joins_from depth (take (i + 1) xs) (drop (i + 1) xs) ≡ all
joins_from-step depth xs i a table joins more join all inside is are small joined grown so_far =
    let left : drop i xs ≡ a ∷ drop (i + 1) xs = drop_more xs i a inside
    ∙ ap (λ y. y ∷ drop (i + 1) xs) (sym is) in
    ap (λ js. js ++ joins_from depth (take (i + 1) xs) (drop (i + 1) xs))
    (grown ∙ ap (λ j. joins ++ j ∷ []) joined)
    ∙ ap (λ b. (joins ++ join_of a.user (groups_of table.users a.user) a.act ∷ [])
    ++ joins_from depth b (drop (i + 1) xs)) (take-step xs i a inside is)
    ∙ joins_from-push depth (take i xs) a (drop (i + 1) xs) table joins all are small
    (ap (λ d. joins ++ joins_from depth (take i xs) d) (sym left) ∙ so_far)

-- what a command joined is drawn exactly if its group is
is_join_drawn-join_in : {Op : Type 0} → (depth : ℕ) (all : List (UserAct Op)) (table : Table)
    (done : List (List ℕ)) (user : ℕ) (group : Option ℕ) → HasStrokes depth all table
    → HaveDone table.users done → user < 256 → is_join_drawn done (join_in user group)
    ≡ is_group_drawn (strokes depth user all).groups.done group
is_join_drawn-join_in depth all table done user None are have small = refl
is_join_drawn-join_in depth all table done user (Some group) are have small =
    have user small group ∙ ap (λ s. is_among s.groups.done group) (are user small)

-- what an act joined is drawn if the act is a command that is drawn
is_join_drawn-join_of : {Op : Type 0} → (depth : ℕ) (all before : List (UserAct Op))
    (table : Table) (done : List (List ℕ)) (user : ℕ) (act : Act Op)
    → HasStrokes depth all table → HaveDone table.users done → user < 256
    → is_join_drawn done (join_of user (strokes depth user before).groups act)
    ≡ flag_of depth all before user act
is_join_drawn-join_of depth all before table done user (Draw op) are have small =
    is_join_drawn-join_in depth all table done user (joined depth user before) are have small
is_join_drawn-join_of depth all before table done user Point are have small = refl
is_join_drawn-join_of depth all before table done user (Undo who) are have small = refl
is_join_drawn-join_of depth all before table done user (Redo who) are have small = refl
is_join_drawn-join_of depth all before table done user (Depth d) are have small = refl
is_join_drawn-join_of depth all before table done user Other are have small = refl

-- the flags of the rest of a history, from what its acts joined
pub map-joins_from : {Op : Type 0} → (depth : ℕ) (all before rest : List (UserAct Op))
    (table : Table) (done : List (List ℕ)) → HasStrokes depth all table
    → HaveDone table.users done → All (λ act. act.user < 256) rest
    → map (is_join_drawn done) (joins_from depth before rest) ≡ flags_from depth all before rest
map-joins_from depth all before [] table done are have small = refl
map-joins_from depth all before (a ∷ rest) table done are have small =
    ap (λ flag. flag ∷ map (is_join_drawn done) (joins_from depth (before ++ a ∷ []) rest))
    (is_join_drawn-join_of depth all before table done a.user a.act are have
    (small 0 a (omega arith)))
    ∙ ap (λ flags. flag_of depth all before a.user a.act ∷ flags)
    (map-joins_from depth all (before ++ a ∷ []) rest table done are have
    (λ k d lt. small (suc k) d (omega arith)))
