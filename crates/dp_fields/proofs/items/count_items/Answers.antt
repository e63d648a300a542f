use Rattle.std.proofs.Common.{◌∷◌, ◌++◌, [], length, sym, ap, ◌∙◌, arith}
use Rattle.std.proofs.lemmas.List.{length-append}
use Rattle.dp_fields.specs.Sequences.{taken_more, taken_all, none_left, ended}
use Rattle.dp_fields.proofs.items.count_items.Goals as goal

pub loop-after-preserved-in-Some : goal.loop-after-preserved-in-Some
loop-after-preserved-in-Some g c =
    let taken = c.loop-after.invariant.taken in
    let item = c.in-Some.field-0-0 in
    record {
      taken = (
        taken.0 ++ item ∷ [],
        taken_more g.met.T.Field.is_field taken.1 c.in-Some.ensures.some
            c.in-Some.ensures.shorter,
        omega (arith, taken.2, length-append taken.0 (item ∷ [])),
      );
      room = omega (arith, c.loop-after.invariant.room, c.in-Some.ensures.shorter);
    }

pub returns-then-is_empty-clause-some : goal.returns-then-is_empty-clause-some
returns-then-is_empty-clause-some g c =
    let taken = c.loop-after.invariant.taken in (
      taken.0,
      taken_all taken.1 (none_left c.loop-after.rest.now
          (sym c.is_empty.ensures ∙ c.if-is_empty.true)),
    )

pub returns-then-is_empty-clause-count : goal.returns-then-is_empty-clause-count
returns-then-is_empty-clause-count g c = λ ys s.
    let zs = c.loop-after.invariant.taken.1.rest_is ys s in
    omega (
      arith,
      zs.2,
      c.loop-after.invariant.taken.2,
      ap length
          (ended c.in_default.ensures.none zs.0 zs.1).1,
    )

pub returns-else-is_empty-clause-none : goal.returns-else-is_empty-clause-none
returns-else-is_empty-clause-none g c = λ ys s.
    let zs = c.loop-after.invariant.taken.1.rest_is ys s in
    let empty = ap length (ended c.in_default.ensures.none zs.0 zs.1).0 in
    grind (arith, empty, c.is_empty.ensures, c.if-is_empty.false)
