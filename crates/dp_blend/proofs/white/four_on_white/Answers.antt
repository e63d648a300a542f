use Rattle.std.proofs.Common.{◌+◌, arith, refl}
use Rattle.dp_blend.proofs.RowBytes.{read_at}
use Rattle.dp_blend.proofs.white.four_on_white.Goals as goal

pub returns : goal.returns
returns c =
    let pixels = c.args.pixels.now in
    let at = c.args.at in
    let first = read_at pixels at _ c.index-pixels-at.is (omega arith) in
    let second = read_at pixels (at + 1) _ c.index-pixels-at-2.is (omega arith) in
    let third = read_at pixels (at + 2) _ c.index-pixels-at-3.is (omega arith) in
    let fourth = read_at pixels (at + 3) _ c.index-pixels-at-4.is (omega arith) in
    rw (
      c.bytes_of.ensures,
      c.lanes_on_white-low.ensures.value,
      c.lanes_on_white-high.ensures.value,
      c.lanes_of.ensures.value,
      c.lanes_of-2.ensures.value,
      ← first,
      ← second,
      ← third,
      ← fourth,
    )
    refl
