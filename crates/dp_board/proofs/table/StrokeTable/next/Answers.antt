use Rattle.std.proofs.Common.{◌≤◌, ◌∙◌, ap, min, refl, ◌<◌, ◌+◌, subst, sym}
use Rattle.std.specs.List.{All, fold}
use Rattle.dp_board.specs.Strokes.{window_after}
use Rattle.dp_board.proofs.TableSteps.{window_after-before, oldest-rises_to}
use Rattle.dp_board.proofs.table.StrokeTable.next.Goals as goal

pub invariant_of-result : goal.invariant_of-result
invariant_of-result g c =
    let position = c.self.inside.position in
    record {
      count = refl;
      before = subst (λ w. All (λ p. p < position + 1) w.points) (sym c.in_ok-take.ensures.ok)
          (window_after-before position c.args.act.now.act c.in_ok-window.window
          (subst (λ w. All (λ p. p < position) w.points) (sym c.in_ok-window.ensures)
          c.self.invariant.before));
    }

pub returns-clause-reach : goal.returns-clause-reach
returns-clause-reach g c =
    let later = c.take.new.self in
    subst (λ t. fold min t.position t.window.points
    ≤ fold min (c.self.inside.position + 1) later.points) c.self.view_is
    (oldest-rises_to c.self.inside.position c.args.act.now.act c.self.inside.window later
    (c.in_ok-take.ensures.ok
    ∙ ap (window_after c.self.inside.position c.args.act.now.act) c.in_ok-window.ensures))
