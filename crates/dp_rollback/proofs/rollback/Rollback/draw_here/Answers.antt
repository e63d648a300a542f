use Rattle.std.proofs.Common.{◌≡◌, ◌+◌, ◌-◌, ◌≤◌, ◌∙◌, ◌++◌, ◌∷◌, [], ap, arith, drop, true}
use Rattle.std.proofs.Common.{subst, sym}
use Rattle.std.specs.Prelude.{if◌then◌else◌}
use Rattle.std.specs.List.{fold}
use Rattle.dp_board.specs.Commands.{command_of}
use Rattle.dp_board.specs.declared.act.Change.TheVariants.{Drew, Nothing}
use Rattle.dp_board.specs.Table.{oldest_in, table_with, next_strokes, joined_in}
use Rattle.std.specs.Prelude.{unwrap_or}
use Rattle.std.specs.Option.{option_to_list}
use Rattle.std.specs.Vec.{vec_len}
use Rattle.dp_board.specs.Laws.{depth_in}
use Rattle.dp_board.specs.Strokes.{last_few}
use Rattle.dp_rollback.specs.Rollback.{KeepsReach}
use Rattle.dp_savepoints.specs.Saves.{points_of}
use Rattle.dp_rollback.specs.Moves.{next_here, saves_after}
use Rattle.dp_savepoints.specs.Marks.{kept_in}
use Rattle.dp_savepoints.specs.Saves.{save_of}
use Rattle.dp_rollback.proofs.ReadyLemmas.{IsNext-here, put-here}
use Rattle.dp_savepoints.proofs.RunLemmas.{CountsFew-later, CountsFew-none}
use Rattle.dp_rollback.proofs.StandLemmas.{KeepsReach-next, depth-next}
use Rattle.dp_rollback.proofs.rollback.Rollback.draw_here.Goals as goal

pub invariant_of-self-2 : goal.invariant_of-self-2
invariant_of-self-2 g c =
    let a = c.args.act in
    let old = c.self.inside in
    let is = c.self.view_is in
    let strokes = c.in_ok-strokes.ensures.value in
    let table = c.put.ensures ∙ ap (λ s. table_with s old.table) strokes in
    let depth = c.depth_after-depth.ensures ∙ ap (unwrap_or (depth_in a.act)) c.self.invariant.0 in
    let saves = c.put_save.ensures
    ∙ ap (λ n. last_few n (old.saves.items ++ option_to_list c.in_ok-save.save)) depth
    ∙ ap (λ xs. last_few (unwrap_or (depth_in a.act) old.table.window.depth)
    (old.saves.items ++ xs)) (c.in_ok-save.ensures.saved
    ∙ ap (λ n. save_of n old.board a.act) c.position.ensures) in (
      depth ∙ depth-next old.table.position a.act old.table.window
          ∙ sym (ap (λ t. t.window.depth) table),
      c.in_ok-draw_next.ensures.last,
      subst (λ t. KeepsReach t c.let_go.new.base (vec_len c.let_go.new.kept)
          (points_of c.put_save.new.saves.items)) (sym table)
          (subst (λ xs. KeepsReach (table_with (next_strokes old.table a) old.table)
          c.let_go.new.base (vec_len c.let_go.new.kept) (points_of xs))
          (sym saves) (KeepsReach-next old.table a old.board old.saves.items old.base
          (vec_len old.kept) c.let_go.new.base (vec_len c.let_go.new.kept) c.self.invariant.2
          (subst (λ s. oldest_in old.table ≤ oldest_in (table_with s old.table)) strokes
          c.in_ok-strokes.ensures.reach)
          (c.let_go.ensures.base
          ∙ ap (λ n. old.base + (n - old.base)) (c.oldest-first.ensures.value
          ∙ ap oldest_in table))
          (omega (arith, c.let_go.ensures.len, c.push_reserved.ensures.len)))),
    )

pub returns-clause-added : goal.returns-clause-added
returns-clause-added g c =
    let draw = g.B.Board.drawn in
    let a = c.args.act in
    let now = c.args.self.now in
    let old = c.self.inside in
    let is = c.self.view_is in
    let strokes = c.in_ok-strokes.ensures.value in
    let table = c.put.ensures ∙ ap (λ s. table_with s old.table) strokes in
    let depth = c.depth_after-depth.ensures ∙ ap (unwrap_or (depth_in a.act)) c.self.invariant.0 in
    let saves = c.put_save.ensures
    ∙ ap (λ n. last_few n (old.saves.items ++ option_to_list c.in_ok-save.save)) depth
    ∙ ap (λ xs. last_few (unwrap_or (depth_in a.act) old.table.window.depth)
    (old.saves.items ++ xs)) (c.in_ok-save.ensures.saved
    ∙ ap (λ n. save_of n old.board a.act) c.position.ensures) in
    let first = c.oldest-first.ensures.value ∙ ap oldest_in table in
    let place = oldest_in (table_with (next_strokes old.table a) old.table) in
    record {
      next = next_here draw now a;
      made = IsNext-here draw now a c.requires.unmoved
          (subst (λ r. oldest_in r.table ≤ oldest_in (table_with (next_strokes r.table a) r.table))
          is (subst (λ s. oldest_in old.table ≤ oldest_in (table_with s old.table)) strokes
          c.in_ok-strokes.ensures.reach));
      same = put-here draw now a _
          (c.in_ok-draw_next.ensures.board
          ∙ ap (λ r. fold draw r.board (command_of a.act true)) is)
          (table ∙ ap (λ r. table_with (next_strokes r.table a) r.table) is)
          (c.let_go.ensures.base ∙ ap (λ n. old.base + (n - old.base)) first
          ∙ ap (λ r. r.base
          + (oldest_in (table_with (next_strokes r.table a) r.table) - r.base)) is)
          (c.let_go.ensures.items
          ∙ ap (λ n. drop (n - old.base) c.push_reserved.new.self.items) first
          ∙ ap (drop (place - old.base)) (c.push_reserved.ensures.items
          ∙ ap (λ j. old.kept.items
          ++ (record { act = a; join = j; drawn = c.is_draw-drawn.result }) ∷ [])
          c.join_of-join.ensures.value
          ∙ ap (λ d. old.kept.items
          ++ (record { act = a; join = joined_in old.table a; drawn = d }) ∷ [])
          c.is_draw-drawn.ensures)
          ∙ ap (λ r. drop (oldest_in (table_with (next_strokes r.table a) r.table) - r.base)
          (r.kept ++ kept_in r.table a ∷ [])) is)
          (saves ∙ ap (λ r. saves_after r.table r.board a.act r.saves) is);
      tells = c.change_by_draw.ensures
          ∙ ap (λ d. if d then Drew else Nothing) c.is_draw-drawn.ensures;
    }

pub returns-in_err-save-clause-counts : goal.returns-in_err-save-clause-counts
returns-in_err-save-clause-counts g c =
    CountsFew-none g.B.Board.weight _ _ _ _ _ c.save_last.ensures.no_draw
    c.save_last.ensures.no_tile

pub returns-in_err-draw_next-clause-counts : goal.returns-in_err-draw_next-clause-counts
returns-in_err-draw_next-clause-counts g c =
    CountsFew-later g.B.Board.weight _ _ _ _ _ _ _ c.save_last.ensures.no_draw
    c.save_last.ensures.no_tile c.draw_next.ensures.counts

pub returns-clause-counts : goal.returns-clause-counts
returns-clause-counts g c =
    CountsFew-later g.B.Board.weight _ _ _ _ _ _ _ c.save_last.ensures.no_draw
    c.save_last.ensures.no_tile c.draw_next.ensures.counts
