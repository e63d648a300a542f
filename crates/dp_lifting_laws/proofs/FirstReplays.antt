-- A history that sets no depth shows what it showed in the first profile.
use Rattle.std.proofs.Common.{◌≡◌, ℕ, Bool, List, [], ◌∷◌, ◌++◌, map, fold, refl, ap, ap₂}
use Rattle.dp_msg_draw.specs.declared.draw.Draw.{Draw}
use Rattle.dp_messages.specs.declared.message.Entry.{Entry}
use Rattle.dp_board.specs.declared.act.Act.{Act}
use Rattle.dp_board.specs.declared.act.Act.TheVariants as act
use Rattle.dp_board.specs.declared.act.UserAct.{UserAct}
use Rattle.dp_board.specs.Strokes.{Strokes, last_of}
use Rattle.dp_board.specs.FirstStrokes.{FirstStrokesStay}
use Rattle.dp_board.specs.Flags.{flag_of, flags_from, is_group_drawn}
use Rattle.dp_board.specs.Commands.{commands}
use Rattle.dp_board.specs.Laws.{HasNoDepth}
use Rattle.dp_plain.specs.Board.{empty_board}
use Rattle.dp_plain.specs.Commands.{draw}
use Rattle.dp_replay.specs.Replay.{replay, undo_depth, user_act_of}
use Rattle.dp_lifting_laws.specs.FirstReplay.{first_flag, first_flags, first_replay}

abbrev Acts : Type 0
Acts = List (UserAct Draw)

depthless-append : (xs ys : Acts) → HasNoDepth xs → HasNoDepth ys → HasNoDepth (xs ++ ys)
depthless-append [] ys hx hy = hy
depthless-append (x ∷ xs) ys hx hy = (hx.0, depthless-append xs ys hx.1 hy)

module _ (law : FirstStrokesStay Draw) (depth : ℕ) (all : Acts) (whole : HasNoDepth all) where
  flag-same : (before : Acts) (user : ℕ) (a : Act Draw) → HasNoDepth before
      → flag_of depth all before user a ≡ first_flag depth all before user a
  flag-same before user (act.Draw op) h =
      ap₂ (λ (s t : Strokes). is_group_drawn s.groups.done (last_of t.groups.done))
      (law depth user all whole) (law depth user before h)
  flag-same before user a h = refl

  flags-same : (before rest : Acts) → HasNoDepth before → HasNoDepth rest
      → flags_from depth all before rest ≡ first_flags depth all before rest
  flags-same before [] h more = refl
  flags-same before (a ∷ rest) h more =
      ap₂ (λ (b : Bool) (bs : List Bool). b ∷ bs) (flag-same before a.user a.act h)
      (flags-same (before ++ a ∷ []) rest
      (depthless-append before (a ∷ []) h (more.0, tt)) more.1)

pub replay-same : FirstStrokesStay Draw → (history : List Entry)
    → HasNoDepth (map user_act_of history) → replay history ≡ first_replay history
replay-same law history h =
    let acts = map user_act_of history in
    ap (λ flags. fold draw empty_board (commands acts flags))
    (flags-same law undo_depth acts h [] acts tt h)
