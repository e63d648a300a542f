-- The replay with one more act.
use Rattle.std.proofs.Common.{◌≡◌, Bool, true, List, [], ◌∷◌, ◌++◌, length, ap, sym, ◌∙◌, arith}
use Rattle.std.proofs.Common.{append_assoc}
use Rattle.std.specs.List.{fold}
use Rattle.std.proofs.lemmas.Grind.{fold-append}
use Rattle.std.proofs.lemmas.List.{append-nil}
use Rattle.dp_board.specs.declared.act.UserAct.{UserAct}
use Rattle.dp_board.specs.Flags.{drawn_flags}
use Rattle.dp_board.specs.Commands.{command_of, commands, drawn_commands}
use Rattle.dp_board.specs.Moves.{is_draw}
use Rattle.dp_savepoints.specs.Laws.{Laws}
use Rattle.dp_rollback.specs.Replays.{ReplayGoesOn}
use Rattle.dp_savepoints.proofs.KeptLemmas.{command_of-is_draw}

-- the commands with one more act
commands-push : {Op : Type 0} → (acts : List (UserAct Op)) (flags : List Bool) (a : UserAct Op)
    (flag : Bool) → length flags ≡ length acts
    → commands (acts ++ a ∷ []) (flags ++ flag ∷ []) ≡ commands acts flags ++ command_of a.act flag
commands-push [] [] a flag same = append-nil (command_of a.act flag)
commands-push [] (f ∷ flags) a flag same = absurd (omega arith)
commands-push (b ∷ acts) [] a flag same = absurd (omega arith)
commands-push (b ∷ acts) (f ∷ flags) a flag same =
    ap (λ ops. command_of b.act f ++ ops) (commands-push acts flags a flag (omega arith))
    ∙ sym (append_assoc (command_of b.act f) (commands acts flags) (command_of a.act flag))

-- the replay goes on with an act that moves no group
pub replay_goes_on : (B Op : Type 0) → Laws Op → ReplayGoesOn B Op
replay_goes_on B Op laws draw blank depth acts a none =
    ap (λ flags. fold draw blank (commands (acts ++ a ∷ []) flags)) (laws.go_on depth acts a none)
    ∙ ap (fold draw blank) (commands-push acts (drawn_flags depth acts) a (is_draw a.act)
    (laws.flags depth acts)
    ∙ ap (λ ops. drawn_commands depth acts ++ ops) (command_of-is_draw a.act))
    ∙ fold-append draw blank (drawn_commands depth acts) (command_of a.act true)
