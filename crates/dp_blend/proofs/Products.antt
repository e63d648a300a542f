-- Products of numbers of which 32768 is one.
use Rattle.std.proofs.Common.{ℕ, ◌+◌, ◌-◌, ◌*◌, ◌≤◌, arith}
use Rattle.std.proofs.Math.Nat.{mul-add, mul_comm, div-mul-le_self, mul-le-mul_left}
use Rattle.std.proofs.Math.Nat.{mul-le-mul_right}
use Rattle.dp_blend.specs.Color.{mul}
use Rattle.dp_blend.specs.Blending.{over}

-- the products of s by two parts of one come to no more than s
pub mul_parts : (s x y : ℕ) → x + y ≤ 32768 → mul s x + mul s y ≤ s
mul_parts s x y h =
    let whole : s * (x + y) ≤ s * 32768 = mul-le-mul_left s h in
    omega (
      arith,
      whole,
      mul-add s x y,
      div-mul-le_self (s * x) 32768,
      div-mul-le_self (s * y)
          32768,
    )

-- a greater number has a greater product
pub mul_mono : (a b x : ℕ) → a ≤ b → mul a x ≤ mul b x
mul_mono a b x h = let e : a * x ≤ b * x = mul-le-mul_right x h in omega (arith, e)

-- the source's part of a product, and the rest of the destination, stay within the alpha of both
pub multiply_within : (sc sa dc da : ℕ) → sc ≤ sa → sa ≤ 32768 → dc ≤ da → da ≤ 32768
    → mul sc dc + mul sc (32768 - da) + mul dc (32768 - sa) ≤ over sa da
multiply_within sc sa dc da p q r s =
    let source : mul sc dc + mul sc (32768 - da) ≤ sc = mul_parts sc dc (32768 - da) (omega arith)
    in
    let rest : mul dc (32768 - sa) ≤ mul da (32768 - sa) = mul_mono dc da (32768 - sa) r in
    omega (arith, source, rest)

-- the part of the source that the destination lets through, and the rest of the destination, stay
-- within its alpha
pub recolor_within : (sc sa dc da : ℕ) → sc ≤ sa → sa ≤ 32768 → dc ≤ da
    → mul sc da + mul dc (32768 - sa) ≤ da
recolor_within sc sa dc da p q r =
    let source : mul da sc + mul da (32768 - sa) ≤ da = mul_parts da sc (32768 - sa) (omega arith)
    in
    let rest : mul dc (32768 - sa) ≤ mul da (32768 - sa) = mul_mono dc da (32768 - sa) r in
    omega (arith, source, rest, mul_comm sc da)

-- a part of one does not make a number greater
pub mul_le : (a m : ℕ) → m ≤ 32768 → mul a m ≤ a
mul_le a m h = omega (arith, mul_parts a m 0 (omega arith))

pub mul_le_right : (a m : ℕ) → a ≤ 32768 → mul a m ≤ m
mul_le_right a m h = rw (mul_comm a m) (mul_le m a h)
