use Rattle.std.proofs.Common.{[], ap, ◌∙◌, arith, refl, min, ◌≡◌, ◌<◌, sym, subst}
use Rattle.std.proofs.Common.{length}
use Rattle.std.specs.List.{fold, All}
use Rattle.std.proofs.lemmas.List.Elements.{All-nil}
use Rattle.dp_savepoints.specs.Saves.{points_of}
use Rattle.dp_savepoints.proofs.RunLemmas.{no-some}
use Rattle.dp_rollback.proofs.StandLemmas.{StandsFor-new}
use Rattle.dp_rollback.proofs.rollback.Rollback.new.Goals as goal

pub invariant_of-result : goal.invariant_of-result
invariant_of-result g c =
    let table = c.in_ok-table.table in
    let none = c.in_ok-table.ensures.empty 0 in
    let start : table.position ≡ 0 = ap (λ s. s.position) none in
    let points : table.window.points ≡ [] = ap (λ s. s.window.points) none in
    let oldest : fold min table.position table.window.points ≡ table.position =
    ap (fold min table.position) points in (
      sym (ap (λ s. s.window.depth) none),
      λ save some. absurd (no-some save some),
      record {
        up_to_end = omega (arith, start, c.new-2.ensures.len);
        begins = omega (arith, start, oldest);
        saved = record {
          same = ap points_of c.new-3.ensures.items ∙ sym points;
          rising = λ i j d le within. absurd (omega (arith, ap length points, within));
          before = subst (All (λ point. point < table.position)) (sym points)
              (All-nil (λ point. point < table.position));
        };
      },
    )

pub returns : goal.returns
returns g c =
    StandsFor-new g.B.Board.drawn c.args.blank c.args.depth _
    (c.tables_follow.ensures.first c.args.depth c.in_ok-table.table c.in_ok-table.ensures.count
    c.in_ok-table.ensures.empty) refl c.new-2.ensures.items refl c.new-3.ensures.items
