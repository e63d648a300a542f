use Rattle.std.proofs.Common.{arith}
use Rattle.dp_msg_draw.proofs.items.TilePixelField.take.Goals as goal

pub returns-in_default-clause-none : goal.returns-in_default-clause-none
returns-in_default-clause-none c = λ p rest b.
    let v = b.is_valid in
    c.in_default.ensures.none ((p.r, p.g), (p.b, p.a)) rest
    (record {
      bytes_are = b.bytes_are;
      is_valid = (
        (omega arith, omega arith),
        (omega arith, omega arith),
      );
    })
