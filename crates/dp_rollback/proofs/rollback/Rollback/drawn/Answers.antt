use Rattle.std.proofs.Common.{◌∙◌, ap, refl, subst, sym}
use Rattle.dp_rollback.specs.Moves.{IsDrawnFor, saves_after}
use Rattle.dp_savepoints.specs.Saves.{save_of}
use Rattle.dp_rollback.proofs.RunLemmas.{saves-made}
use Rattle.dp_rollback.proofs.rollback.Rollback.drawn.Goals as goal
use Rattle.dp_rollback.proofs.rollback.Rollback.drawn.Goals.{in-None+in_ok-drawn_last-in-None}
use Rattle.dp_rollback.proofs.rollback.Rollback.drawn.Goals.{in-Some+in_ok-board-in-Some}

pub returns-clause-made : goal.returns-clause-made
returns-clause-made g c =
    let draw = g.B.Board.drawn in
    let r = c.args.self.now in
    let act = c.args.act.now in
    let old = c.match-mark.board in
    let inside = c.self.inside in
    let drawn : IsDrawnFor draw r act c.args.mark old.board old.saves.items =
    elim c.match-mark.branch [
      | in-None+in_ok-drawn_last-in-None w ↦
          subst (λ d. IsDrawnFor draw r act c.args.mark d.board d.saves.items)
          (sym w.board-is)
          (let made = w.in_ok-drawn_last-in-None.field-0 in
          subst (λ m. IsDrawnFor draw r act m made.board made.saves.items)
          (sym w.in-None.is) w.in_ok-drawn_last-in-None.ensures.made)
      | in-Some+in_ok-board-in-Some w ↦
          subst (λ d. IsDrawnFor draw r act c.args.mark d.board d.saves.items)
          (sym w.board-is)
          (let made = w.in_ok-board-in-Some.field-0 in
          subst (λ m. IsDrawnFor draw r act m made.board made.saves.items)
          (sym w.in-Some.is) w.in_ok-board-in-Some.ensures.made)
    ] in
    record {
      old_saves = old.saves.items;
      drawn = drawn;
      saves_are = saves-made inside.table act r.board old.saves.items _ _ c.in_ok-save.save _ _
          c.in_ok-push_save.ensures.added c.depth_after.ensures c.self.invariant.0 refl
          (c.in_ok-save.ensures.saved
          ∙ ap (λ o. save_of o.table.position r.board act) (sym c.self.view_is))
          ∙ ap (λ o. saves_after o.table r.board act old.saves.items) c.self.view_is;
    }
