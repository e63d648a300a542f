use Rattle.std.proofs.Common.{◌∙◌, ap, sym, subst, arith}
use Rattle.std.specs.List.Sorted.{IsNonDecreasing}
use Rattle.std.proofs.lemmas.List.Sorted.{IsNonDecreasingBy-drop}
use Rattle.dp_board.specs.Strokes.{last_few}
use Rattle.dp_board.proofs.RisingLemmas.{last_few-rest}
use Rattle.dp_board.proofs.window.PointWindow.cut.Goals as goal

pub loop-self-preserved : goal.loop-self-preserved
loop-self-preserved c =
    let was = c.loop-self.invariant in
    let points = c.loop-self.self-inside.points.items in
    record {
      depth = was.depth;
      last = ap (last_few c.args.self.now.depth) c.pop_front.ensures.rest
          ∙ last_few-rest c.args.self.now.depth points (omega arith)
          ∙ was.last;
      rising = subst IsNonDecreasing (sym c.pop_front.ensures.rest)
          (IsNonDecreasingBy-drop (λ p. p) 1 points was.rising);
    }
