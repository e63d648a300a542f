use Rattle.std.proofs.Common.{◌≡◌, ap, arith, refl}
use Rattle.dp_trailing.proofs.TrailingLemmas.{Trails-new}
use Rattle.dp_trailing.proofs.trailing.TrailingBoard.new.Goals as goal

pub invariant_of-result : goal.invariant_of-result
invariant_of-result g c =
    let table = c.in_ok-new.field-0 in
    let start : table.position ≡ 0 = ap (λ s. s.position) (c.in_ok-new.ensures.empty 0) in
    record {
      up_to_end = omega (arith, start, c.new-2.ensures.len);
      enough = omega arith;
    }

pub returns : goal.returns
returns g c =
    let table = c.in_ok-new.field-0 in
    Trails-new g.B.Board.drawn c.args.blank c.args.depth _
    (c.tables_follow.ensures.first c.args.depth table c.in_ok-new.ensures.count
    c.in_ok-new.ensures.empty) refl c.new-2.ensures.items refl
