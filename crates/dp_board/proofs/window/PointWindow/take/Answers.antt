use Rattle.std.proofs.Common.{◌<◌, sym, subst}
use Rattle.std.specs.List.{All}
use Rattle.std.specs.List.Sorted.{IsNonDecreasing}
use Rattle.dp_board.proofs.RisingLemmas.{rising-push}
use Rattle.dp_board.proofs.window.PointWindow.take.Goals as goal

pub invariant_of-self : goal.invariant_of-self
invariant_of-self g c =
    subst IsNonDecreasing (sym c.in_ok-push_back-in-Point.ensures.items)
    (rising-push c.self.inside.points.items c.args.position c.self.invariant
    (subst (λ w. All (λ p. p < c.args.position) w.points) (sym c.self.view_is) c.requires))
