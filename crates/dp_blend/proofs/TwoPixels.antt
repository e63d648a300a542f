-- Two pixels in lanes that are blended with two others.
use Rattle.std.proofs.Common.{◌≡◌, ℕ, ◌+◌, ◌-◌, ◌*◌, ◌/◌, ◌%◌, ◌≤◌, List, [], ◌∷◌, map, min, cond}
use Rattle.std.proofs.Common.{Bool, true, false, ◌==◌, ◌∙◌, refl, arith, slice_index}
use Rattle.std.proofs.Math.Nat.{mul_comm}
use Rattle.std.specs.Simd.Lanes.{zip2, sel_l}
use Rattle.dp_blend.specs.Color.{Channels, IsPixel, mul, fade}
use Rattle.dp_blend.specs.Blending.{blend, masked, over, channel_blended, alpha_blended}
use Rattle.dp_blend.specs.Lanes.{ArePixels, lanes, blended_lanes, fours, with_alphas}
use Rattle.dp_blend.specs.declared.modes.Mode.{Mode}
use Rattle.dp_blend.specs.declared.modes.Mode.TheVariants.{Normal, Multiply, Add, Recolor}
use Rattle.dp_blend.proofs.Products.{mul_le, multiply_within, recolor_within}
use Rattle.dp_blend.proofs.Pixels.{blend-IsPixel, fade-IsPixel, channel_within, over_within}

-- what the operations on lanes compute
abbrev pub sums : List ℕ → List ℕ → List ℕ
sums v w = zip2 (λ a b. (a + b) % 65536) v w

abbrev pub alphas : List ℕ → List ℕ
alphas v = fours (slice_index v 3) (slice_index v 7)

abbrev pub rests : List ℕ → List ℕ
rests v = fours (32768 - slice_index v 3) (32768 - slice_index v 7)

-- the lanes of blended pixels are those of pixels
pub are_blended : (mode : Mode) (v w : List ℕ) → ArePixels v → ArePixels w
    → ArePixels (blended_lanes mode v w)
are_blended mode v w s d =
    record {
      first = blend mode s.first d.first;
      second = blend mode s.second d.second;
      is = rw (s.is, d.is) refl;
      first_pixel = blend-IsPixel mode s.first d.first s.first_pixel d.first_pixel;
      second_pixel = blend-IsPixel mode s.second d.second s.second_pixel d.second_pixel;
    }

-- the lanes that f makes of each channel and its alpha, and g of each alpha
abbrev lanes_by : (ℕ → ℕ → ℕ → ℕ → ℕ) → (ℕ → ℕ → ℕ) → Channels → Channels → Channels → Channels
    → List ℕ
lanes_by f g s t d e =
    f s.r s.a d.r d.a ∷ f s.g s.a d.g d.a ∷ f s.b s.a d.b d.a ∷ g s.a d.a
    ∷ f t.r t.a e.r e.a ∷ f t.g t.a e.g e.a ∷ f t.b t.a e.b e.a ∷ g t.a e.a ∷ []

-- f makes the channels that the mode makes
abbrev IsChannelOf : Mode → (ℕ → ℕ → ℕ → ℕ → ℕ) → Type 0
IsChannelOf mode f =
    (sc sa dc da : ℕ) → sc ≤ sa → sa ≤ 32768 → dc ≤ da → da ≤ 32768
    → f sc sa dc da ≡ channel_blended mode sc sa dc da

-- g makes the alphas that the mode makes
abbrev IsAlphaOf : Mode → (ℕ → ℕ → ℕ) → Type 0
IsAlphaOf mode g = (sa da : ℕ) → sa ≤ 32768 → da ≤ 32768 → g sa da ≡ alpha_blended mode sa da

-- then the lanes are those of the blended pixels
blended_by : (mode : Mode) (f : ℕ → ℕ → ℕ → ℕ → ℕ) (g : ℕ → ℕ → ℕ) → IsChannelOf mode f
    → IsAlphaOf mode g
    → (v w : List ℕ) (s : ArePixels v) (d : ArePixels w)
    → lanes_by f g s.first s.second d.first d.second
    ≡ lanes (blend mode s.first d.first) (blend mode s.second d.second)
blended_by mode f g is_channel is_alpha v w s d =
    let p = s.first_pixel in
    let q = s.second_pixel in
    let h = d.first_pixel in
    let k = d.second_pixel in
    let red = is_channel _ _ _ _ p.r p.a h.r h.a in
    let green = is_channel _ _ _ _ p.g p.a h.g h.a in
    let blue = is_channel _ _ _ _ p.b p.a h.b h.a in
    let alpha = is_alpha _ _ p.a h.a in
    let red' = is_channel _ _ _ _ q.r q.a k.r k.a in
    let green' = is_channel _ _ _ _ q.g q.a k.g k.a in
    let blue' = is_channel _ _ _ _ q.b q.a k.b k.a in
    let alpha' = is_alpha _ _ q.a k.a in
    cc

-- the alpha of one over the other
covered : (sa da : ℕ) → sa ≤ 32768 → da ≤ 32768 → (sa + da * (32768 - sa) / 32768) % 65536
    ≡ over sa da
covered sa da h i = omega (arith, over_within sa da h i)

pub covering : (v w : List ℕ) → ArePixels v → ArePixels w
    → sums v (zip2 mul w (rests v)) ≡ blended_lanes Normal v w
covering v w s d =
    rw (s.is, d.is)
    (blended_by Normal (λ sc sa dc da. (sc + dc * (32768 - sa) / 32768) % 65536)
    (λ sa da. (sa + da * (32768 - sa) / 32768) % 65536)
    (λ sc sa dc da h i j k. omega (
      arith,
      channel_within Normal sc sa dc da h i j k,
      over_within sa
          da i k,
    )) covered v w s d)

pub multiplying : (v w : List ℕ) → ArePixels v → ArePixels w
    → sums (with_alphas (sums (zip2 mul w v) (zip2 mul (rests w) v)) v) (zip2 mul w (rests v))
    ≡ blended_lanes Multiply v w
multiplying v w s d =
    rw (s.is, d.is)
    (blended_by Multiply
    (λ sc sa dc da. ((dc * sc / 32768 + (32768 - da) * sc / 32768) % 65536
    + dc * (32768 - sa) / 32768) % 65536)
    (λ sa da. (sa + da * (32768 - sa) / 32768) % 65536)
    (λ sc sa dc da h i j k.
    omega (
      arith,
      multiply_within sc sa dc da h i j k,
      over_within sa da i k,
      mul_comm dc sc,
      mul_comm (32768 - da) sc,
    ))
    covered v w s d)

pub adding : (v w : List ℕ) → ArePixels v → ArePixels w
    → zip2 min (zip2 (λ a b. min (a + b) 65535) v w) (alphas (sums v (zip2 mul w (rests v))))
    ≡ blended_lanes Add v w
adding v w s d =
    rw (s.is, d.is)
    (blended_by Add
    (λ sc sa dc da. min (min (sc + dc) 65535) ((sa + da * (32768 - sa) / 32768) % 65536))
    (λ sa da. min (min (sa + da) 65535) ((sa + da * (32768 - sa) / 32768) % 65536))
    (λ sc sa dc da h i j k. omega (arith, over_within sa da i k))
    (λ sa da h i. omega (arith, over_within sa da h i, mul_le da (32768 - sa) (omega arith))) v w s
    d)

pub recoloring : (v w : List ℕ) → ArePixels v → ArePixels w
    → sums (zip2 mul (alphas w) (with_alphas v (fours 32768 32768)))
    (zip2 mul w (with_alphas (rests v) (fours 0 0)))
    ≡ blended_lanes Recolor v w
recoloring v w s d =
    rw (s.is, d.is)
    (blended_by Recolor
    (λ sc sa dc da. (da * sc / 32768 + dc * (32768 - sa) / 32768) % 65536)
    (λ sa da. (da * 32768 / 32768 + da * 0 / 32768) % 65536)
    (λ sc sa dc da h i j k. omega (arith, recolor_within sc sa dc da h i j, mul_comm da sc))
    (λ sa da h i. omega arith) v w s d)

-- the lanes of faded pixels are those of pixels
pub are_faded : (p q : Channels) (m n : ℕ) → IsPixel p → IsPixel q → m ≤ 32768 → n ≤ 32768
    → {v : List ℕ} → v ≡ lanes (fade p m) (fade q n) → ArePixels v
are_faded p q m n h k i j is =
    record {
      first = fade p m;
      second = fade q n;
      is = is;
      first_pixel = fade-IsPixel p m h i;
      second_pixel = fade-IsPixel q n k j;
    }

-- a mask times a pixel is the pixel faded by the mask
pub masks_fade : (p q : Channels) (m n : ℕ) → zip2 mul (fours m n) (lanes p q)
    ≡ lanes (fade p m) (fade q n)
masks_fade p q m n =
    let r = mul_comm m p.r in
    let g = mul_comm m p.g in
    let b = mul_comm m p.b in
    let a = mul_comm m p.a in
    let r' = mul_comm n q.r in
    let g' = mul_comm n q.g in
    let b' = mul_comm n q.b in
    let a' = mul_comm n q.a in
    cc

-- of lanes chosen by two masks, each pixel is chosen by its mask
chosen : (m n : ℕ) (p q x y : Channels)
    → sel_l (map (λ k. k == 0) (fours m n)) (lanes p q) (lanes x y)
    ≡ lanes (cond (m == 0) p x) (cond (n == 0) q y)
chosen m n p q x y = pick (m == 0) (n == 0)
  where
    pick : (k l : Bool) → sel_l (k ∷ k ∷ k ∷ k ∷ l ∷ l ∷ l ∷ l ∷ []) (lanes p q) (lanes x y)
        ≡ lanes (cond k p x) (cond l q y)
    pick true true = refl
    pick true false = refl
    pick false true = refl
    pick false false = refl

masked-IsPixel : (mode : Mode) (s : Channels) (m : ℕ) (d : Channels) → IsPixel s → IsPixel d
    → m ≤ 32768 → IsPixel (masked mode s m d)
masked-IsPixel mode s m d h k i = pick (m == 0)
  where
    pick : (b : Bool) → IsPixel (cond b d (blend mode (fade s m) d))
    pick true = k
    pick false = blend-IsPixel mode (fade s m) d (fade-IsPixel s m h i) k

-- the lanes of pixels that a source is blended with through two masks are those of pixels
pub are_masked : (mode : Mode) (s : Channels) (m n : ℕ) (d e : Channels) → IsPixel s → IsPixel d
    → IsPixel e → m ≤ 32768 → n ≤ 32768
    → {v masks faded old blended : List ℕ} → masks ≡ fours m n → faded ≡ lanes (fade s m) (fade s n)
    → old ≡ lanes d e
    → blended ≡ blended_lanes mode faded old → v ≡ sel_l (map (λ k. k == 0) masks) old blended
    → ArePixels v
are_masked mode s m n d e h k l i j by faded old blended is =
    record {
      first = masked mode s m d;
      second = masked mode s n e;
      is = is ∙ rw (blended, by, faded, old) (chosen m n d e (blend mode (fade s m) d)
          (blend mode (fade s n) e));
      first_pixel = masked-IsPixel mode s m d h k i;
      second_pixel = masked-IsPixel mode s n e h l j;
    }
