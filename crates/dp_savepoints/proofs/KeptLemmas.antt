-- Acts with what they joined and their flags.
use Rattle.std.proofs.Common.{◌≡◌, ℕ, Bool, true, false, List, [], ◌∷◌, ◌++◌}
use Rattle.std.proofs.Common.{length, take, drop, map, refl, ap, arith, suc, zero}
use Rattle.std.proofs.Common.{◌+◌, ◌<◌, ◌≤◌, ◌∙◌, sym, get_or}
use Rattle.std.specs.List.{fold}
use Rattle.std.proofs.lemmas.List.{drop-append-le, drop-take, take-take, take-append-drop, drop_more}
use Rattle.std.proofs.lemmas.List.Concat.{flat_map-append}
use Rattle.std.proofs.lemmas.Grind.{fold-append}
use Rattle.dp_board.specs.declared.act.Act.{Act}
use Rattle.dp_board.specs.declared.act.Act.TheVariants.{Point, Undo, Redo, Draw, Depth, Other}
use Rattle.dp_board.specs.declared.act.UserAct.{UserAct}
use Rattle.dp_board.specs.declared.join.Join.{Join}
use Rattle.dp_board.specs.Commands.{command_of, all_commands, commands}
use Rattle.dp_board.specs.Moves.{flag_with, flags_with, is_draw}
use Rattle.dp_savepoints.specs.declared.kept.KeptAct.{KeptAct}
use Rattle.dp_savepoints.specs.declared.kept.Mark.{Mark}
use Rattle.dp_savepoints.specs.Kept.{drawn_command}
use Rattle.dp_savepoints.specs.Kept.{kept_acts, drawn_among, commands_among, marked}

-- an act of each
pub length-kept_acts : {Op : Type 0} → (acts : List (UserAct Op)) (joins : List Join)
    (flags : List Bool) → length joins ≡ length acts → length flags ≡ length acts
    → length (kept_acts acts joins flags) ≡ length acts
length-kept_acts [] joins flags same like = refl
length-kept_acts (a ∷ acts) [] flags same like = absurd (omega arith)
length-kept_acts (a ∷ acts) (join ∷ joins) [] same like = absurd (omega arith)
length-kept_acts (a ∷ acts) (join ∷ joins) (flag ∷ flags) same like =
    omega (arith, length-kept_acts acts joins flags (omega arith) (omega arith))

-- one more act
pub kept_acts-push : {Op : Type 0} → (acts : List (UserAct Op)) (joins : List Join)
    (flags : List Bool) (a : UserAct Op) (join : Join) (flag : Bool)
    → length joins ≡ length acts → length flags ≡ length acts
    → kept_acts (acts ++ a ∷ []) (joins ++ join ∷ []) (flags ++ flag ∷ [])
    ≡ kept_acts acts joins flags ++ (record { act = a; join = join; drawn = flag }) ∷ []
kept_acts-push [] [] [] a join flag same like = refl
kept_acts-push [] [] (f ∷ flags) a join flag same like = absurd (omega arith)
kept_acts-push [] (j ∷ joins) flags a join flag same like = absurd (omega arith)
kept_acts-push (b ∷ acts) [] flags a join flag same like = absurd (omega arith)
kept_acts-push (b ∷ acts) (j ∷ joins) [] a join flag same like = absurd (omega arith)
kept_acts-push (b ∷ acts) (j ∷ joins) (f ∷ flags) a join flag same like =
    ap (λ kept. (record { act = b; join = j; drawn = f }) ∷ kept)
    (kept_acts-push acts joins flags a join flag (omega arith) (omega arith))

-- the flags of a mark
pub map-kept_acts : {Op : Type 0} → (mark : Mark) (acts : List (UserAct Op)) (joins : List Join)
    (flags : List Bool) → map (marked mark) (kept_acts acts joins flags)
    ≡ kept_acts acts joins (flags_with mark.user mark.group mark.drawn joins flags)
map-kept_acts mark [] joins flags = refl
map-kept_acts mark (a ∷ acts) [] flags = refl
map-kept_acts mark (a ∷ acts) (join ∷ joins) [] = refl
map-kept_acts mark (a ∷ acts) (join ∷ joins) (flag ∷ flags) =
    ap (λ kept. (record {
      act = a;
      join = join;
      drawn = flag_with mark.user mark.group mark.drawn join flag;
    }) ∷ kept)
    (map-kept_acts mark acts joins flags)

pub length-flags_with : (user group : ℕ) (flag : Bool) (joins : List Join) (flags : List Bool)
    → length joins ≡ length flags → length (flags_with user group flag joins flags) ≡ length flags
length-flags_with user group flag [] [] same = refl
length-flags_with user group flag [] (f ∷ flags) same = absurd (omega arith)
length-flags_with user group flag (join ∷ joins) [] same = absurd (omega arith)
length-flags_with user group flag (join ∷ joins) (f ∷ flags) same =
    omega (arith, length-flags_with user group flag joins flags (omega arith))

-- the first of them
pub take-kept_acts : {Op : Type 0} → (n : ℕ) (acts : List (UserAct Op)) (joins : List Join)
    (flags : List Bool) → take n (kept_acts acts joins flags)
    ≡ kept_acts (take n acts) (take n joins) (take n flags)
take-kept_acts zero acts joins flags = refl
take-kept_acts (suc n) [] joins flags = refl
take-kept_acts (suc n) (a ∷ acts) [] flags = refl
take-kept_acts (suc n) (a ∷ acts) (join ∷ joins) [] = refl
take-kept_acts (suc n) (a ∷ acts) (join ∷ joins) (flag ∷ flags) =
    ap (λ kept. (record { act = a; join = join; drawn = flag }) ∷ kept)
    (take-kept_acts n acts joins flags)

-- the commands that are drawn
pub drawn_among-kept_acts : {Op : Type 0} → (acts : List (UserAct Op)) (joins : List Join)
    (flags : List Bool) → length joins ≡ length acts
    → drawn_among (kept_acts acts joins flags) ≡ commands acts flags
drawn_among-kept_acts [] joins flags same = refl
drawn_among-kept_acts (a ∷ acts) [] flags same = absurd (omega arith)
drawn_among-kept_acts (a ∷ acts) (join ∷ joins) [] same = refl
drawn_among-kept_acts (a ∷ acts) (join ∷ joins) (flag ∷ flags) same =
    ap (λ ops. command_of a.act flag ++ ops)
    (drawn_among-kept_acts acts joins flags (omega arith))

-- all commands from a place on
pub commands_among-drop : {Op : Type 0} → (n : ℕ) (acts : List (UserAct Op)) (joins : List Join)
    (flags : List Bool) → length joins ≡ length acts → length flags ≡ length acts
    → commands_among (drop n (kept_acts acts joins flags)) ≡ all_commands (drop n acts)
commands_among-drop zero [] joins flags same like = refl
commands_among-drop (suc n) [] joins flags same like = refl
commands_among-drop n (a ∷ acts) [] flags same like = absurd (omega arith)
commands_among-drop n (a ∷ acts) (join ∷ joins) [] same like = absurd (omega arith)
commands_among-drop zero (a ∷ acts) (join ∷ joins) (flag ∷ flags) same like =
    ap (λ ops. command_of a.act true ++ ops)
    (commands_among-drop zero acts joins flags (omega arith) (omega arith))
commands_among-drop (suc n) (a ∷ acts) (join ∷ joins) (flag ∷ flags) same like =
    commands_among-drop n acts joins flags (omega arith) (omega arith)

-- an act that is no command draws none
pub command_of-false : {Op : Type 0} → (act : Act Op) → command_of act false ≡ []
command_of-false (Draw op) = refl
command_of-false Point = refl
command_of-false (Undo who) = refl
command_of-false (Redo who) = refl
command_of-false (Depth d) = refl
command_of-false Other = refl

pub command_of-is_draw : {Op : Type 0} → (act : Act Op)
    → command_of act (is_draw act) ≡ command_of act true
command_of-is_draw (Draw op) = refl
command_of-is_draw Point = refl
command_of-is_draw (Undo who) = refl
command_of-is_draw (Redo who) = refl
command_of-is_draw (Depth d) = refl
command_of-is_draw Other = refl

-- commands of two parts are drawn in turn
pub fold-drawn : {B Op : Type 0} → (draw : B → Op → B) (b : B) (xs ys : List (KeptAct Op))
    → fold draw b (drawn_among (xs ++ ys))
    ≡ fold draw (fold draw b (drawn_among xs)) (drawn_among ys)
fold-drawn draw b xs ys =
    ap (fold draw b) (flat_map-append drawn_command xs ys)
    ∙ fold-append draw b (drawn_among xs) (drawn_among ys)

-- what is kept, with one more act
pub kept-push : {Op : Type 0} → (base : ℕ) (kept all : List (KeptAct Op)) (k : KeptAct Op)
    → kept ≡ drop base all → base ≤ length all → kept ++ k ∷ [] ≡ drop base (all ++ k ∷ [])
kept-push base kept all k is within =
    ap (λ xs. xs ++ k ∷ []) is ∙ sym (drop-append-le base all (k ∷ []) within)

-- a part and what comes after it make a longer part
pub take-more : {X : Type 0} → (m n : ℕ) (xs : List X) → take m xs ++ take n (drop m xs)
    ≡ take (m + n) xs
take-more m n xs =
    ap (λ ys. take m xs ++ ys) (sym (drop-take m n xs))
    ∙ ap (λ ys. ys ++ drop m (take (m + n) xs)) (sym (take-take m (m + n) xs (omega arith)))
    ∙ take-append-drop m (take (m + n) xs)

-- what is left to draw at a place
pub commands_among-at : {Op : Type 0} → (kept : List (KeptAct Op)) (i : ℕ) (k : KeptAct Op)
    → i < length kept → k ≡ get_or kept i k
    → commands_among (drop i kept) ≡ command_of k.act.act true ++ commands_among (drop (i + 1) kept)
commands_among-at kept i k within is =
    ap commands_among (drop_more kept i k within
    ∙ ap (λ j. j ∷ drop (i + 1) kept) (sym is))

pub length-command_of : {Op : Type 0} → (act : Act Op) (drawn : Bool)
    → length (command_of act drawn) ≤ 1
length-command_of (Draw op) true = omega arith
length-command_of (Draw op) false = omega arith
length-command_of Point drawn = omega arith
length-command_of (Undo who) drawn = omega arith
length-command_of (Redo who) drawn = omega arith
length-command_of (Depth d) drawn = omega arith
length-command_of Other drawn = omega arith
