use Rattle.std.proofs.Common.{◌∙◌, ap, arith}
use Rattle.std.specs.Prelude.{pos, ◌+ℤ◌}
use Rattle.std.proofs.lemmas.Int.{ints, int_max_is, int_min_is}
use Rattle.dp_pixels.specs.Rectangles.{clipped}
use Rattle.dp_shift.proofs.movement.on_canvas.Goals as goal

pub returns-clause-value : goal.returns-clause-value
returns-clause-value c = c.clipped.ensures ∙ ap (clipped c.args.rect) c.canvas.ensures

pub returns-clause-x0 : goal.returns-clause-x0
returns-clause-x0 c =
    let is = ap (λ r. r.x0) (returns-clause-value c) in
    omega (arith, ints, is, int_max_is c.args.rect.x0 (pos 0), c.requires.left)

pub returns-clause-x1 : goal.returns-clause-x1
returns-clause-x1 c =
    let is = ap (λ r. r.x1) (returns-clause-value c) in
    omega (arith, ints, is, int_min_is c.args.rect.x1 (pos 0 +ℤ pos c.args.width), c.requires.right)

pub returns-clause-y0 : goal.returns-clause-y0
returns-clause-y0 c =
    let is = ap (λ r. r.y0) (returns-clause-value c) in
    omega (arith, ints, is, int_max_is c.args.rect.y0 (pos 0), c.requires.top)

pub returns-clause-y1 : goal.returns-clause-y1
returns-clause-y1 c =
    let is = ap (λ r. r.y1) (returns-clause-value c) in
    omega (
      arith,
      ints,
      is,
      int_min_is c.args.rect.y1 (pos 0 +ℤ pos c.args.height),
      c.requires.bottom,
    )
