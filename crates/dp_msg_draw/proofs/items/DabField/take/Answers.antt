use Rattle.std.proofs.Common.{arith}
use Rattle.std.specs.Int.{w8, cast_unsigned}
use Rattle.std.proofs.Math.Facts.{Fits-of_z}
use Rattle.dp_msg_draw.proofs.items.DabField.take.Goals as goal

pub returns-in_default-clause-none : goal.returns-in_default-clause-none
returns-in_default-clause-none c = λ d rest b.
    let v = b.is_valid in
    let dx = Fits-of_z v.0 in
    let dy = Fits-of_z v.1 in
    c.in_default.ensures.none ((cast_unsigned w8 d.dx, cast_unsigned w8 d.dy), (d.size, d.opacity))
    rest
    (record {
      bytes_are = b.bytes_are;
      is_valid = (
        (omega arith, omega arith),
        (omega arith, omega arith),
      );
    })
