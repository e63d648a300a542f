-- How many commands are due.
use Rattle.std.proofs.Common.{◌≡◌, ℕ, ◌+◌, ◌-◌, ◌≤◌, true, List, [], ◌∷◌, ◌++◌, length}
use Rattle.std.proofs.Common.{None, Some, ap, arith, drop}
use Rattle.std.proofs.Common.{length-append, length-drop}
use Rattle.dp_board.specs.declared.act.Act.{Act}
use Rattle.dp_board.specs.declared.act.Act.TheVariants.{Point, Undo, Redo, Draw, Depth, Other}
use Rattle.dp_board.specs.declared.act.Change.{Change}
use Rattle.dp_board.specs.declared.act.Change.TheVariants.{Rebuilt}
use Rattle.dp_board.specs.Commands.{command_of}
use Rattle.dp_board.specs.Strokes.{Strokes, concerned, moved, strokes}
use Rattle.dp_fork.specs.declared.own.Own.{Own}
use Rattle.dp_fork.specs.declared.own.Own.TheVariants.{Stranger, Echo, Dropped, Lost}
use Rattle.dp_fork.specs.Fork.{commands_in, due_on_fork, left_by}
use Rattle.dp_rollback.specs.Due.{FewAreDue, change_by, change_of, due_commands}
use Rattle.dp_screen.specs.Due.{MoveIsDueFew}

-- an act has one command at most
one_command : {Op : Type 0} (act : Act Op) → length (command_of act true) ≤ 1
one_command Point = omega arith
one_command (Undo who) = omega arith
one_command (Redo who) = omega arith
one_command (Draw op) = omega arith
one_command (Depth depth) = omega arith
one_command Other = omega arith

-- acts have no more commands than there are acts
few_commands : {Op : Type 0} (said : List (Act Op)) → length (commands_in said) ≤ length said
few_commands [] = omega arith
few_commands (a ∷ said) =
    let all : length (command_of a true ++ commands_in said)
    ≡ length (command_of a true) + length (commands_in said) =
    length-append (command_of a true) (commands_in said) in
    omega (arith, all, one_command a, few_commands said)

-- no more are left than there were
few_left : {X : Type 0} (own : Own) (said : List X) → length (left_by own said) ≤ length said
few_left Stranger said = omega arith
few_left Echo said = let rest : length (drop 1 said) ≡ length said - 1 = length-drop 1 said in
    omega arith
few_left Dropped said = let rest : length (drop 1 said) ≡ length said - 1 = length-drop 1 said in
    omega arith
few_left Lost said = omega arith

-- an act that moves a group is no command, so it has the board made anew
rebuilt : {Op : Type 0} (s : Strokes) (act : Act Op) (group : ℕ) → moved s act ≡ Some group
    → change_by act (moved s act) ≡ Rebuilt
rebuilt {Op} s (Undo who) group is = ap (change_by {Op = Op} (Undo who)) is
rebuilt {Op} s (Redo who) group is = ap (change_by {Op = Op} (Redo who)) is
rebuilt s (Draw op) group is = absurd (let wrong : None ≡ Some group = is in cc (wrong))
rebuilt s Point group is = absurd (let wrong : None ≡ Some group = is in cc (wrong))
rebuilt s (Depth depth) group is = absurd (let wrong : None ≡ Some group = is in cc (wrong))
rebuilt s Other group is = absurd (let wrong : None ≡ Some group = is in cc (wrong))

-- an act that moves a group
pub moved_few : {Op : Type 0} → FewAreDue Op → MoveIsDueFew Op
moved_few few apart depth acts a own said group is =
    let anew : change_of depth acts a ≡ Rebuilt =
    rebuilt (strokes depth (concerned a) acts) a.act group is in
    let fork : due_on_fork apart a.act (change_of depth acts a) own said
    ≡ commands_in (left_by own said) =
    ap (λ (change : Change). due_on_fork apart a.act change own said) anew in
    let all : length (due_commands depth acts a
    ++ due_on_fork apart a.act (change_of depth acts a) own said)
    ≡ length (due_commands depth acts a)
    + length (due_on_fork apart a.act (change_of depth acts a) own said) =
    length-append (due_commands depth acts a)
    (due_on_fork apart a.act (change_of depth acts a) own said) in
    let own_few = few depth acts a group is in
    omega (
      arith,
      all,
      ap length fork,
      own_few,
      few_commands (left_by own said),
      few_left own said,
    )
