-- Histories that differ in their commands alone.
use Rattle.std.proofs.Common.{◌≡◌, ℕ, List, [], ◌∷◌, ◌++◌, refl, ap, sym, ◌∙◌}
use Rattle.std.proofs.lemmas.List.{map-append}
use Rattle.std.specs.List.{fold}
use Rattle.dp_board.specs.declared.act.Act.{Act}
use Rattle.dp_board.specs.declared.act.Act.TheVariants.{Point, Undo, Redo, Draw, Depth, Other}
use Rattle.dp_board.specs.declared.act.UserAct.{UserAct}
use Rattle.dp_board.specs.Strokes.{Strokes, no_strokes, last_of, after_act, strokes}
use Rattle.dp_board.specs.Flags.{is_group_drawn, flag_of, flags_from}
use Rattle.dp_board.specs.Commands.{map_act, map_user_act, map_commands}
use Rattle.dp_board.specs.Laws.{CommandsDoNotCount}

-- an act of a sender
act_by : {Op : Type 0} → ℕ → Act Op → UserAct Op
act_by sender act = record { user = sender; act = act }

-- the strokes after an act with another command
after_act-map_act : {A B : Type 0} → (f : A → B) (user : ℕ) (s : Strokes) (sender : ℕ) (act : Act A)
    → after_act user s (act_by sender (map_act f act)) ≡ after_act user s (act_by sender act)
unfolding act_by
after_act-map_act f user s sender Point = refl
after_act-map_act f user s sender (Undo who) = refl
after_act-map_act f user s sender (Redo who) = refl
after_act-map_act f user s sender (Draw op) = refl
after_act-map_act f user s sender (Depth d) = refl
after_act-map_act f user s sender Other = refl

-- the strokes after a list of acts with other commands
fold-map_commands : {A B : Type 0} → (f : A → B) (user : ℕ) (s : Strokes) (acts : List (UserAct A))
    → fold (after_act user) s (map_commands f acts) ≡ fold (after_act user) s acts
unfolding act_by
fold-map_commands f user s [] = refl
fold-map_commands f user s (a ∷ rest) =
    ap (λ t. fold (after_act user) t (map_commands f rest))
    (after_act-map_act f user s a.user a.act)
    ∙ fold-map_commands f user (after_act user s a) rest

-- the flag of an act with another command
flag_of-map_act : {A B : Type 0} → (f : A → B) (depth : ℕ) (all before : List (UserAct A))
    (user : ℕ) (act : Act A) → flag_of depth (map_commands f all) (map_commands f before) user
    (map_act f act) ≡ flag_of depth all before user act
flag_of-map_act f depth all before user (Draw op) =
    ap (λ s. is_group_drawn s.groups.done (last_of (strokes depth user
    (map_commands f before)).groups.done)) (fold-map_commands f user (no_strokes depth) all)
    ∙ ap (λ s. is_group_drawn (strokes depth user all).groups.done (last_of s.groups.done))
    (fold-map_commands f user (no_strokes depth) before)
flag_of-map_act f depth all before user Point = refl
flag_of-map_act f depth all before user (Undo who) = refl
flag_of-map_act f depth all before user (Redo who) = refl
flag_of-map_act f depth all before user (Depth d) = refl
flag_of-map_act f depth all before user Other = refl

-- the flags of the rest of a history with other commands
flags_from-map_commands : {A B : Type 0} → (f : A → B) (depth : ℕ)
    (all before rest : List (UserAct A)) → flags_from depth (map_commands f all)
    (map_commands f before) (map_commands f rest) ≡ flags_from depth all before rest
flags_from-map_commands f depth all before [] = refl
flags_from-map_commands f depth all before (a ∷ rest) =
    ap (λ flag. flag ∷ flags_from depth (map_commands f all)
    (map_commands f before ++ map_user_act f a ∷ []) (map_commands f rest))
    (flag_of-map_act f depth all before a.user a.act)
    ∙ ap (λ b. flag_of depth all before a.user a.act ∷ flags_from depth (map_commands f all) b
    (map_commands f rest)) (sym (map-append (map_user_act f) before (a ∷ [])))
    ∙ ap (λ flags. flag_of depth all before a.user a.act ∷ flags)
    (flags_from-map_commands f depth all (before ++ a ∷ []) rest)

-- which acts are commands that are drawn does not depend on the commands
pub drawn_flags-map_commands : (A B : Type 0) → CommandsDoNotCount A B
drawn_flags-map_commands A B f depth acts = flags_from-map_commands f depth acts [] acts
