-- If nothing was undone a history may be cut.
use Rattle.std.proofs.Common.{◌≡◌, ℕ, true, false, None, Some, List, [], ◌∷◌, ◌++◌}
use Rattle.std.proofs.Common.{map, take, drop, length, refl, sym, subst, ◌∙◌}
use Rattle.std.specs.List.{AllByRecursion}
use Rattle.std.proofs.lemmas.List.{append-nil}
use Rattle.std.proofs.Math.Seq.{drop-length}
use Rattle.dp_msg_draw.specs.declared.draw.Draw.{Draw}
use Rattle.dp_msg_meta.specs.declared.message.Meta.{Meta}
use Rattle.dp_msg_meta.specs.declared.message.Meta.TheVariants.{UndoDepth}
use Rattle.dp_messages.specs.declared.message.Msg.{Msg}
use Rattle.dp_messages.specs.declared.message.Msg.TheVariants as msg
use Rattle.dp_messages.specs.declared.message.Entry.{Entry}
use Rattle.dp_board.specs.declared.act.Act.{Act}
use Rattle.dp_board.specs.declared.act.UserAct.{UserAct}
use Rattle.dp_board.specs.Strokes.{Strokes, strokes, moved, moved_by, concerned}
use Rattle.dp_board.specs.Laws.{depth_in, HasNoDepth}
use Rattle.dp_replay.specs.Replay.{act_of_meta, act_of_message, user_act_of, undo_depth}
use Rattle.dp_keep_laws.specs.Suffixes.{StandAlone}
use Rattle.dp_keep_laws.specs.Keeping.{undoes_nothing, UndoNothing, MayBeCut}

-- the act moves no group and sets no depth
record IsStill (a : Act Draw) : Type 0 where
  pub moves : (s : Strokes) → moved s a ≡ None
  pub depth : depth_in a ≡ None

still-meta : (m : Meta) → undoes_nothing (msg.Meta m) ≡ true → IsStill (act_of_meta m)
still-meta (UndoDepth depth) nothing = let wrong : false ≡ true = nothing in cc
still-meta m nothing = record { moves = λ s. refl; depth = refl }

still-message : (sender : ℕ) (m : Msg) → undoes_nothing m ≡ true
    → IsStill (act_of_message sender m)
still-message sender (msg.Meta m) nothing = still-meta m nothing
still-message sender (msg.Undo target redo) nothing = let wrong : false ≡ true = nothing in cc
still-message sender _ nothing = record { moves = λ s. refl; depth = refl }

abbrev AreStill : List (UserAct Draw) → Type 0
AreStill acts = AllByRecursion (λ a. IsStill a.act) acts

still-all : (entries : List Entry) → UndoNothing entries → AreStill (map user_act_of entries)
still-all [] nothing = tt
still-all (e ∷ entries) nothing =
    (still-message e.user e.msg nothing.0, still-all entries nothing.1)

still-next : (done rest : List (UserAct Draw)) (a : UserAct Draw) → AreStill (done ++ a ∷ rest)
    → IsStill a.act
still-next [] rest a are = are.0
still-next (d ∷ done) rest a are = still-next done rest a are.1

still-alone : (depth : ℕ) (before after : List (UserAct Draw)) → AreStill after
    → StandAlone depth before after
still-alone depth before after are done rest a group is moves =
    let still : IsStill a.act = still-next done rest a (subst AreStill is are) in
    let none : moved_by depth (before ++ done) a ≡ None =
    still.moves (strokes depth (concerned a) (before ++ done)) in
    let wrong : None ≡ Some group = sym none ∙ moves in cc

no-depth : (entries : List Entry) → UndoNothing entries → HasNoDepth (map user_act_of entries)
no-depth [] nothing = tt
no-depth (e ∷ entries) nothing =
    ((still-message e.user e.msg nothing.0).depth, no-depth entries nothing.1)

first-nothing : (xs ys : List Entry) → UndoNothing (xs ++ ys) → UndoNothing xs
first-nothing [] ys nothing = tt
first-nothing (x ∷ xs) ys nothing = (nothing.0, first-nothing xs ys nothing.1)

pub cut-undone : (place : ℕ) (history more : List Entry)
    → UndoNothing (drop place history ++ more) → MayBeCut place history more
cut-undone place history more nothing =
    let rest = drop place history in
    record {
      moves = still-alone undo_depth (map user_act_of (take place history))
          (map user_act_of (rest ++ more)) (still-all (rest ++ more) nothing);
      depths = no-depth rest (first-nothing rest more nothing);
    }

pub cut-end : (history : List Entry) → MayBeCut (length history) history []
cut-end history =
    cut-undone (length history) history []
    (subst UndoNothing (sym (append-nil (drop (length history) history) ∙ drop-length history)) tt)
