-- A history has a flag for each act.
use Rattle.std.proofs.Common.{◌≡◌, ℕ, List, [], ◌∷◌, ◌++◌, length, refl, ap, suc}
use Rattle.dp_board.specs.declared.act.UserAct.{UserAct}
use Rattle.dp_board.specs.Flags.{flags_from}
use Rattle.dp_board.specs.Laws.{EachActHasAFlag}

-- the rest of a history has a flag for each act
length-flags_from : {Op : Type 0} → (depth : ℕ) (all before rest : List (UserAct Op))
    → length (flags_from depth all before rest) ≡ length rest
length-flags_from depth all before [] = refl
length-flags_from depth all before (a ∷ rest) = ap suc (length-flags_from depth all
    (before ++ a ∷ []) rest)

-- a history has a flag for each act
pub length-drawn_flags : (Op : Type 0) → EachActHasAFlag Op
length-drawn_flags Op depth acts = length-flags_from depth acts [] acts
