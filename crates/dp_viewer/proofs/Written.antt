-- What is written of what a board trails.
use Rattle.std.proofs.Common.{◌≡◌, ℕ, List, map, subst, refl, sym, inl, inr}
use Rattle.std.proofs.Common.{Result, Ok, Err, OnOk}
use Rattle.std.specs.Prelude.{IsErrOf, Option}
use Rattle.std.specs.List.{after_last}
use Rattle.std.specs.Io.KnownBytes.{Appends, Keeps}
use Rattle.dp_board.specs.declared.act.UserAct.{UserAct}
use Rattle.dp_board.specs.Replay.{replay}
use Rattle.dp_io.specs.Faults.{HasCause, Rose}
use Rattle.dp_io.specs.Streams.{GrowsByPrefix}
use Rattle.dp_lines.specs.declared.run_end.RunEnd.{RunEnd}
use Rattle.dp_lines.specs.declared.run_end.RunEnd.TheVariants.{WriteFault, Memory as Full}
use Rattle.dp_msg_draw.specs.declared.draw.Draw.{Draw}
use Rattle.dp_plain.specs.Board.{Board, empty_board}
use Rattle.dp_plain.specs.Commands.{draw}
use Rattle.dp_plain.specs.Picture.{p6}
use Rattle.dp_replay.specs.Replay.{is_mark, undo_depth, user_act_of}
use Rattle.dp_shown.specs.Ends.{is_sink_fault}
use Rattle.dp_shown.specs.declared.end.PictureEnd.{PictureEnd}
use Rattle.dp_shown.specs.declared.end.PictureEnd.TheVariants.{Failed, Memory}
use Rattle.dp_trailing.specs.Trailing.{Trailing, Trails}
use Rattle.dp_viewer.specs.Reading.{WritesShown}

-- a picture is the replay of each history that the board trails
module _ (old new : Option (List ℕ)) (before now : ℕ) (board : Trailing Board Draw)
    (picture : Board) (given : RunEnd)
    (is : (blank : Board) (depth : ℕ) (acts : List (UserAct Draw))
    → Trails draw blank depth acts board → picture ≡ replay draw blank depth acts) where
  -- it was written
  wrote-whole : Appends old new (p6 picture) → now ≡ before
      → WritesShown old new before now board given given
  wrote-whole all kept = inl (
    refl,
    λ entries trails. subst (λ (b : Board). Appends old new (p6 b))
        (is empty_board undo_depth (map user_act_of (after_last is_mark entries)) trails) all,
    kept,
  )

  -- or a prefix of it
  wrote-part : GrowsByPrefix old new (p6 picture) → Rose before now
      → WritesShown old new before now board given WriteFault
  wrote-part part rose = inr (inl (
    refl,
    λ entries trails. subst (λ (b : Board). GrowsByPrefix old new (p6 b))
        (is empty_board undo_depth (map user_act_of (after_last is_mark entries)) trails) part,
    rose,
  ))

  -- the run ends by how it was written
  pub wrote : {T : Type 0} (written : Result T PictureEnd) (end : RunEnd)
      → OnOk written (Appends old new (p6 picture)) → GrowsByPrefix old new (p6 picture)
      → (IsErrOf written Memory → Keeps old new) → (IsErrOf written Memory → now ≡ before)
      → HasCause is_sink_fault before now written → OnOk written (end ≡ given)
      → (IsErrOf written Failed → end ≡ WriteFault) → (IsErrOf written Memory → end ≡ Full)
      → WritesShown old new before now board given end
  wrote (Ok x) end all part keeps kept cause whole failed full =
      subst (λ (e : RunEnd). WritesShown old new before now board given e) (sym whole)
      (wrote-whole all cause.kept)
  wrote (Err Failed) end all part keeps kept cause whole failed full =
      subst (λ (e : RunEnd). WritesShown old new before now board given e) (sym (failed refl))
      (wrote-part part cause.failed)
  wrote (Err Memory) end all part keeps kept cause whole failed full =
      inr (inr (full refl, keeps refl, kept refl))
