-- What is made of pixels is a pixel.
use Rattle.std.proofs.Common.{ℕ, ◌-◌, ◌≤◌, arith}
use Rattle.dp_blend.specs.Color.{Channels, IsPixel, fade}
use Rattle.dp_blend.specs.Blending.{blend, over, channel_blended, alpha_blended}
use Rattle.dp_blend.specs.declared.modes.Mode.{Mode}
use Rattle.dp_blend.specs.declared.modes.Mode.TheVariants.{Erase, Normal, Multiply, Add, Recolor}
use Rattle.dp_blend.specs.declared.modes.Mode.TheVariants.{Replace}
use Rattle.dp_blend.proofs.Products.{mul_mono, mul_le, mul_le_right, multiply_within}
use Rattle.dp_blend.proofs.Products.{recolor_within}

-- the alpha of a source over a destination is at most one
pub over_within : (sa da : ℕ) → sa ≤ 32768 → da ≤ 32768 → over sa da ≤ 32768
over_within sa da p q = omega (arith, mul_le_right da (32768 - sa) q)

-- after blending, alpha is at most one
pub alpha_within : (mode : Mode) (sa da : ℕ) → sa ≤ 32768 → da ≤ 32768
    → alpha_blended mode sa da ≤ 32768
alpha_within Erase sa da p q = omega (arith, mul_le_right da (32768 - sa) q)
alpha_within Recolor sa da p q = q
alpha_within Replace sa da p q = p
alpha_within _ sa da p q = over_within sa da p q

-- after blending, a channel is at most alpha
pub channel_within : (mode : Mode) (sc sa dc da : ℕ) → sc ≤ sa → sa ≤ 32768 → dc ≤ da → da ≤ 32768
    → channel_blended mode sc sa dc da ≤ alpha_blended mode sa da
channel_within Erase sc sa dc da p q r s = mul_mono dc da (32768 - sa) r
channel_within Normal sc sa dc da p q r s = omega (arith, mul_mono dc da (32768 - sa) r)
channel_within Multiply sc sa dc da p q r s = multiply_within sc sa dc da p q r s
channel_within Add sc sa dc da p q r s = omega arith
channel_within Recolor sc sa dc da p q r s = recolor_within sc sa dc da p q r
channel_within Replace sc sa dc da p q r s = p

pub blend-IsPixel : (mode : Mode) (s d : Channels) → IsPixel s → IsPixel d
    → IsPixel (blend mode s d)
blend-IsPixel mode s d h k = record {
  r = channel_within mode s.r s.a d.r d.a h.r h.a k.r k.a;
  g = channel_within mode s.g s.a d.g d.a h.g h.a k.g k.a;
  b = channel_within mode s.b s.a d.b d.a h.b h.a k.b k.a;
  a = alpha_within mode s.a d.a h.a k.a;
}

pub fade-IsPixel : (p : Channels) (m : ℕ) → IsPixel p → m ≤ 32768 → IsPixel (fade p m)
fade-IsPixel p m h i = record {
  r = mul_mono p.r p.a m h.r;
  g = mul_mono p.g p.a m h.g;
  b = mul_mono p.b p.a m h.b;
  a = omega (arith, mul_le p.a m i);
}
