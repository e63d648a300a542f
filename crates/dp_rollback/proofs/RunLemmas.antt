-- A board that is drawn anew, from a savepoint on.
use Rattle.std.proofs.Common.{◌≡◌, ℕ, ◌+◌, ◌-◌, ◌<◌, ◌≤◌, Bool, true, false, List, [], ◌∷◌, ◌++◌}
use Rattle.std.proofs.Common.{length, take, drop, map, get_or, ap, sym, ◌∙◌, arith, refl, subst}
use Rattle.std.proofs.Common.{length-append, None, Some}
use Rattle.std.specs.Prelude.{if◌then◌else◌, nat_lt, sum_by, slice_range, Option, unwrap_or}
use Rattle.std.specs.Prelude.{IfSome}
use Rattle.std.specs.Option.{ForSome, option_to_list}
use Rattle.std.specs.List.{fold, All, Contains}
use Rattle.std.proofs.lemmas.Bool.{ltb-true}
use Rattle.std.proofs.lemmas.List.{take-append-drop, drop-drop, drop-map, take_more, map-append}
use Rattle.std.proofs.lemmas.List.{take-map, length-map, take_all, length-drop, drop_more}
use Rattle.std.proofs.lemmas.List.Concat.{flat_map-append}
use Rattle.std.proofs.lemmas.List.Elements.{All-weaker}
use Rattle.std.proofs.lemmas.List.Sums.{sum_by-append}
use Rattle.std.proofs.lemmas.Grind.{fold-append}
use Rattle.dp_board.specs.Commands.{command_of}
use Rattle.dp_board.specs.Counts.{CountsFew}
use Rattle.dp_board.specs.declared.act.Act.{Act}
use Rattle.dp_board.specs.declared.act.UserAct.{UserAct}
use Rattle.dp_board.specs.Laws.{depth_in}
use Rattle.dp_board.specs.Moves.{flag_with}
use Rattle.dp_board.specs.Strokes.{last_few, concerned, is_eligible}
use Rattle.dp_board.specs.Table.{Table, moved_in, strokes_of}
use Rattle.dp_board.proofs.StepLemmas.{moved-is}
use Rattle.dp_savepoints.specs.declared.kept.KeptAct.{KeptAct}
use Rattle.dp_savepoints.specs.declared.kept.Mark.{Mark}
use Rattle.dp_savepoints.specs.Kept.{marked, drawn_among, commands_among}
use Rattle.dp_savepoints.specs.Saves.{PointSave}
use Rattle.dp_rollback.specs.Rollback.{Rolled}
use Rattle.dp_rollback.specs.Moves.{IsRedrawn, kept_from, saves_after}
use Rattle.dp_savepoints.specs.Saves.{save_of}
use Rattle.dp_savepoints.specs.Runs.{Running, IsRunning, IsDrawnAnew, LeavesFew, run_to, saved_anew}
use Rattle.dp_savepoints.specs.Runs.{save_anew}
use Rattle.dp_savepoints.proofs.KeptLemmas.{fold-drawn, take-more}

-- all drawn anew from the savepoint of the group on
pub IsRedrawn-run : {B Op : Type 0} → (draw : B → Op → B) (r : Rolled B Op) (mark : Mark)
    (kept : List (KeptAct Op)) (save : PointSave B) (old_saves : List (PointSave B)) (board : B)
    (saves : List (PointSave B)) → kept ≡ kept_from r mark → old_saves ≡ r.saves
    → Contains r.saves save → save.point ≡ mark.group
    → IsDrawnAnew draw (map (marked mark) kept) save.board mark.group old_saves board saves
    → IsRedrawn draw r mark board saves
IsRedrawn-run draw r mark kept save old_saves board saves kept_is saves_are begun point finished =
    let from = save.board in
    record {
      from = from;
      begun = subst (λ p. Contains r.saves (record { point = p; board = from })) point begun;
      finished =
          subst (λ xs. IsDrawnAnew draw (map (marked mark) xs) from mark.group r.saves board saves)
          kept_is
          (subst (λ xs. IsDrawnAnew draw (map (marked mark) kept) from mark.group xs board saves)
          saves_are finished);
    }

-- the counters were as they are at the entry before the acts from the savepoint on were drawn
pub CountsFew-from : {B Op : Type 0} → (weight : Op → ℕ) (r : Rolled B Op) (mark : Mark)
    (kept : List (KeptAct Op)) (draws draws' draws'' tiles tiles' tiles'' : ℕ)
    → kept ≡ kept_from r mark → draws' ≡ draws → tiles' ≡ tiles
    → CountsFew weight (commands_among kept) draws' draws'' tiles' tiles''
    → CountsFew weight (commands_among (kept_from r mark)) draws draws'' tiles tiles''
CountsFew-from weight r mark kept draws draws' draws'' tiles tiles' tiles'' kept_is same same_tiles
    counts =
    subst (λ xs. CountsFew weight (commands_among xs) draws draws'' tiles tiles'') kept_is
    (subst (λ n. CountsFew weight (commands_among kept) n draws'' tiles tiles'') same
    (subst (λ n. CountsFew weight (commands_among kept) draws' draws'' n tiles'') same_tiles
    counts))

-- the savepoints after an act, if those of the last Points are kept
pub saves-made : {B Op : Type 0} → (table : Table) (act : Act Op) (board : B)
    (old room new : List (PointSave B)) (save : Option (PointSave B)) (depth window : ℕ)
    → new ≡ last_few depth (room ++ option_to_list save)
    → depth ≡ unwrap_or (depth_in act) window → window ≡ table.window.depth → room ≡ old
    → option_to_list save ≡ save_of table.position board act
    → new ≡ saves_after table board act old
saves-made table act board old room new save depth window new_is depth_is window_is room_is save_is
    =
    let few : ℕ = unwrap_or (depth_in act) table.window.depth in
    new_is
    ∙ ap (λ n. last_few n (room ++ option_to_list save))
    (depth_is ∙ ap (unwrap_or (depth_in act)) window_is)
    ∙ ap (λ xs. last_few few (xs ++ option_to_list save)) room_is
    ∙ ap (λ xs. last_few few (old ++ xs)) save_is
