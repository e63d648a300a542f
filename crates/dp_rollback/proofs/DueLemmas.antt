-- What an act may draw, and what it does to the board.
use Rattle.std.proofs.Common.{◌≡◌, ℕ, ◌+◌, ◌-◌, ◌<◌, ◌≤◌, Bool, true, false, List, []}
use Rattle.std.proofs.Common.{◌∷◌, ◌++◌, length, drop, Option, Some, None, refl, ap, sym, ◌∙◌}
use Rattle.std.proofs.Common.{arith, length-append, get_or}
use Rattle.std.specs.Prelude.{if◌then◌else◌, is_some}
use Rattle.std.specs.Option.{ForSome, option_map}
use Rattle.std.proofs.lemmas.List.{drop-drop, drop_more, length-drop}
use Rattle.dp_board.specs.declared.act.Act.{Act}
use Rattle.dp_board.specs.declared.act.Act.TheVariants.{Point, Undo, Redo, Draw, Depth, Other}
use Rattle.dp_board.specs.declared.act.UserAct.{UserAct}
use Rattle.dp_board.specs.declared.act.Change.TheVariants.{Drew, Rebuilt, Nothing}
use Rattle.dp_board.specs.Strokes.{Strokes, concerned, strokes, moved, moved_by}
use Rattle.dp_board.specs.Flags.{drawn_flags}
use Rattle.dp_board.specs.Joins.{joins}
use Rattle.dp_board.specs.Commands.{command_of, all_commands}
use Rattle.dp_board.specs.Moves.{is_draw}
use Rattle.dp_board.specs.Table.{moved_in, oldest_in}
use Rattle.dp_savepoints.specs.declared.kept.KeptAct.{KeptAct}
use Rattle.dp_savepoints.specs.Kept.{kept_of, commands_among}
use Rattle.dp_rollback.specs.Due.{due_by, due_commands, change_by, change_of}
use Rattle.dp_rollback.specs.Due.{OwnCommandIsDue, FewAreDue}
use Rattle.dp_rollback.specs.Rollback.{Rolled, StandsFor}
use Rattle.dp_savepoints.specs.Marks.{mark_by, mark_in}
use Rattle.dp_rollback.specs.Moves.{due_in}
use Rattle.dp_savepoints.proofs.KeptLemmas.{commands_among-drop}
use Rattle.dp_savepoints.specs.Laws.{Laws}
use Rattle.dp_savepoints.proofs.KeptLemmas.{length-command_of}

-- an act that moves no group may draw its own command
due_by-none : {Op : Type 0} → (acts : List (UserAct Op)) (act : Act Op)
    → command_of act true ≡ due_by acts act None
due_by-none acts (Draw op) = refl
due_by-none acts Point = refl
due_by-none acts (Undo who) = refl
due_by-none acts (Redo who) = refl
due_by-none acts (Depth d) = refl
due_by-none acts Other = refl

-- one that moves a group may draw those after it
due_by-some : {Op : Type 0} → (s : Strokes) (acts : List (UserAct Op)) (act : Act Op) (group : ℕ)
    → moved s act ≡ Some group
    → all_commands (drop group acts) ≡ due_by acts act (Some group)
due_by-some s acts (Draw op) group is = let wrong : None ≡ Some group = is in cc
due_by-some s acts Point group is = refl
due_by-some s acts (Undo who) group is = refl
due_by-some s acts (Redo who) group is = refl
due_by-some s acts (Depth d) group is = refl
due_by-some s acts Other group is = refl

-- the commands from the savepoint on
from_save : {B Op : Type 0} → Laws Op → (draw : B → Op → B) (blank : B) (depth : ℕ)
    (acts : List (UserAct Op)) (a : UserAct Op) (r : Rolled B Op) (o : Option ℕ)
    → StandsFor draw blank depth acts r → moved_by depth acts a ≡ o → r.base ≡ oldest_in r.table
    → ForSome (option_map (mark_by a) o) (λ mark. oldest_in r.table ≤ mark.group)
    → due_in r a.act (option_map (mark_by a) o) ≡ due_by acts a.act o
from_save laws draw blank depth acts a r None st is begins reach = due_by-none acts a.act
from_save laws draw blank depth acts a r (Some group) st is begins reach =
    let at : r.base + (group - r.base) ≡ group = omega (arith, begins, reach (mark_by a group) refl)
    in
    ap (λ kept. commands_among (drop (group - r.base) kept)) st.kept
    ∙ ap commands_among (drop-drop (group - r.base) r.base (kept_of depth acts))
    ∙ commands_among-drop (r.base + (group - r.base)) acts (joins depth acts)
    (drawn_flags depth acts) (laws.joins depth acts) (laws.flags depth acts)
    ∙ ap (λ n. all_commands (drop n acts)) at
    ∙ due_by-some (strokes depth (concerned a) acts) acts a.act group is

-- what may be drawn for an act is what is due
pub due_in-due : {B Op : Type 0} → Laws Op → (draw : B → Op → B) (a : UserAct Op)
    (r : Rolled B Op) → concerned a < 256 → r.base ≡ oldest_in r.table
    → ForSome (mark_in r.table a) (λ mark. oldest_in r.table ≤ mark.group)
    → (blank : B) (depth : ℕ) (acts : List (UserAct Op)) → StandsFor draw blank depth acts r
    → due_in r a.act (mark_in r.table a) ≡ due_commands depth acts a
due_in-due laws draw a r known begins reach blank depth acts st =
    let same = laws.moved depth acts a r.table known st.table in
    from_save laws draw blank depth acts a r (moved_in r.table a) st (sym same) begins reach
    ∙ ap (due_by acts a.act) same

-- the change, by what was made
change_by-made : {Op : Type 0} → (a : UserAct Op) (act : Act Op) (o : Option ℕ)
    → (if is_draw act then Drew else (if is_some (option_map (mark_by a) o) then Rebuilt
    else Nothing)) ≡ change_by act o
change_by-made a (Draw op) o = refl
change_by-made a Point None = refl
change_by-made a Point (Some group) = refl
change_by-made a (Undo who) None = refl
change_by-made a (Undo who) (Some group) = refl
change_by-made a (Redo who) None = refl
change_by-made a (Redo who) (Some group) = refl
change_by-made a (Depth d) None = refl
change_by-made a (Depth d) (Some group) = refl
change_by-made a Other None = refl
change_by-made a Other (Some group) = refl

pub change-made : {B Op : Type 0} → Laws Op → (draw : B → Op → B) (a : UserAct Op)
    (r : Rolled B Op) → concerned a < 256
    → (blank : B) (depth : ℕ) (acts : List (UserAct Op)) → StandsFor draw blank depth acts r
    → (if is_draw a.act then Drew else (if is_some (mark_in r.table a) then Rebuilt else Nothing))
    ≡ change_of depth acts a
change-made laws draw a r known blank depth acts st =
    change_by-made a a.act (moved_in r.table a)
    ∙ ap (change_by a.act) (laws.moved depth acts a r.table known st.table)

-- an act that moves no group may draw its own command alone
pub own_command_is_due : (Op : Type 0) → OwnCommandIsDue Op
own_command_is_due Op depth acts a none =
    ap (due_by acts a.act) none ∙ sym (due_by-none acts a.act)

length-all_commands : {Op : Type 0} → (acts : List (UserAct Op))
    → length (all_commands acts) ≤ length acts
length-all_commands [] = omega arith
length-all_commands (a ∷ acts) =
    omega (
      arith,
      length-append (command_of a.act true) (all_commands acts),
      length-command_of a.act true,
      length-all_commands acts,
    )

-- one that moves a group may draw as many commands as there are acts from its Point on
pub few_are_due : (Op : Type 0) → FewAreDue Op
few_are_due Op depth acts a group some =
    let due : due_commands depth acts a ≡ all_commands (drop group acts) =
    ap (due_by acts a.act) some
    ∙ sym (due_by-some (strokes depth (concerned a) acts) acts a.act group some) in
    omega (
      arith,
      ap length due,
      length-all_commands (drop group acts),
      length-drop group acts,
    )
