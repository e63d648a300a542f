-- Colours that are blended with a row, a piece at a time.
use Rattle.std.proofs.Common.{◌≡◌, ℕ, ◌+◌, ◌-◌, ◌<◌, ◌≤◌, List, length, get_or, cond, Bool, true}
use Rattle.std.proofs.Common.{false, ◌&&◌, leb, ltb, sym, ◌∙◌, ap, arith, ⊎_elim}
use Rattle.std.proofs.lemmas.Bool.{cases_lt, cond-false}
use Rattle.std.proofs.lemmas.Bool.Decides.{nat_tests}
use Rattle.dp_blend.specs.Color.{Channels, fade, of_argb, mul}
use Rattle.dp_blend.specs.Blending.{blend}
use Rattle.dp_blend.specs.declared.modes.Mode.{Mode}
use Rattle.dp_pixels.proofs.Regions.{part_written}
use borrow.Rule.Slice.PartMut.{mid_of, put_mid}

-- a fade by one keeps a pixel
pub fade_one : (p : Channels) → fade p 32768 ≡ p
fade_one p =
    let whole : (n : ℕ) → mul n 32768 ≡ n = λ n. omega arith in
    ap (λ (n : ℕ). let faded : Channels = record {
      r = n;
      g = mul p.g 32768;
      b = mul p.b 32768;
      a =
          mul p.a 32768;
    } in faded) (whole p.r)
    ∙ (ap (λ (n : ℕ). let faded : Channels = record {
      r = p.r;
      g = n;
      b = mul p.b 32768;
      a = mul p.a
          32768;
    } in faded) (whole p.g)
    ∙ (ap (λ (n : ℕ). let faded : Channels = record { r = p.r; g = p.g; b = n; a = mul p.a 32768 }
    in faded) (whole p.b)
    ∙ ap (λ (n : ℕ). let faded : Channels = record { r = p.r; g = p.g; b = p.b; a = n } in faded)
    (whole p.a)))

-- the pixel at an index of a row with which the colours before an end are blended
abbrev pub merged_to : Mode → List ℕ → List Channels → ℕ → ℕ → Channels → Channels
merged_to mode colors old end k d = cond (ltb k end) (blend mode (of_argb (get_or colors k 0))
    (get_or old k d)) (get_or old k d)

-- a piece from start to end joins
pub merged_more : (mode : Mode) (colors : List ℕ) (old now part : List Channels) (start end k : ℕ)
    (d : Channels) → start ≤ end → end ≤ length now → k < length now
    → length part ≡ end - start
    → ((n : ℕ) → n < end - start → get_or part n d ≡ blend mode
    (of_argb (get_or colors (start + n) 0)) (get_or (mid_of start (end - start) now) n d))
    → get_or now k d ≡ merged_to mode colors old start k d
    → get_or (put_mid start (end - start) now part) k d ≡ merged_to mode colors old end k d
merged_more mode colors old now part start end k d order fits in_row len made before =
    let f : ℕ → Channels → Channels = λ n p. blend mode (of_argb (get_or colors n 0)) p in
    part_written f now part start end k d order fits in_row len made
    ∙ (ap (λ (p : Channels). cond (leb start k && ltb k end) (f k p) p) before
    ∙ joined (f k) (get_or old k d))
  where
    joined : (g : Channels → Channels) (p : Channels)
        → cond (leb start k && ltb k end) (g (cond (ltb k start) (g p) p))
        (cond (ltb k start) (g p) p) ≡ cond (ltb k end) (g p) p
    joined g p =
        ⊎_elim
        (λ (below : k < start).
        let outside : (leb start k && ltb k end) ≡ false = grind (arith, nat_tests) in
        let was : ltb k start ≡ true = grind (arith, nat_tests) in
        let is : ltb k end ≡ true = grind (arith, nat_tests) in
        cond-false _ (g (cond (ltb k start) (g p) p)) (cond (ltb k start) (g p) p) outside
        ∙ (ap (λ (t : Bool). cond t (g p) p) (was ∙ sym is)))
        (λ (from : start ≤ k).
        let was : ltb k start ≡ false = grind (arith, nat_tests) in
        let same : (leb start k && ltb k end) ≡ ltb k end = grind (arith, nat_tests) in
        ap (λ (q : Channels). cond (leb start k && ltb k end) (g q) q)
        (cond-false (ltb k start) (g p) p was)
        ∙ ap (λ (t : Bool). cond t (g p) p) same)
        (cases_lt k start)
