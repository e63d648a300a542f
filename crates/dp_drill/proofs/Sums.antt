-- Sums over a picture, row by row and pixel by pixel.
use Rattle.std.proofs.Common.{◌≡◌, ℕ, ◌+◌, ◌≤◌, List, [], ◌∷◌, ◌++◌, map, sym, ap, ◌∙◌}
use Rattle.std.proofs.Common.{arith, append-nil, map-id}
use Rattle.std.specs.List.{flat_map}
use Rattle.std.proofs.lemmas.Grind.{flat_map-append}
use Rattle.std.proofs.lemmas.List.FromFn.{map-range_with_len_more}
use Rattle.std.proofs.lemmas.List.Sums.{sum_by-append}
use Rattle.dp_blend.specs.Canvas.{below}
use Rattle.dp_blend.specs.Color.{Channels, to8}
use Rattle.dp_drill.specs.declared.summary.Sums.{Sums}
use Rattle.dp_drill.specs.Summary.{AreAtMost, plus, sums_of}

-- the sums of pixels and of more of them
sums-both : (xs ys : List Channels) → sums_of (xs ++ ys) ≡ plus (sums_of xs) (sums_of ys)
sums-both xs ys =
    let red = sum_by-append (λ (p : Channels). to8 p.r) xs ys in
    let green = sum_by-append (λ (p : Channels). to8 p.g) xs ys in
    let blue = sum_by-append (λ (p : Channels). to8 p.b) xs ys in
    cc

plus-both : (a b c : Sums) → plus (plus a b) c ≡ plus a (plus b c)
plus-both a b c =
    let red : a.red + b.red + c.red ≡ a.red + (b.red + c.red) = omega arith in
    let green : a.green + b.green + c.green ≡ a.green + (b.green + c.green) = omega arith in
    let blue : a.blue + b.blue + c.blue ≡ a.blue + (b.blue + c.blue) = omega arith in
    cc

-- the sums of three numbers
abbrev sums : ℕ → ℕ → ℕ → Sums
sums red green blue = record { red = red; green = green; blue = blue }

pub plus-none : (s : Sums) → s ≡ plus s (sums_of [])
plus-none s =
    let red : s.red ≡ s.red + 0 = omega arith in
    let green : s.green ≡ s.green + 0 = omega arith in
    let blue : s.blue ≡ s.blue + 0 = omega arith in
    ap (λ n. sums n s.green s.blue) red ∙ ap (λ n. sums (s.red + 0) n s.blue) green
    ∙ ap (λ n. sums (s.red + 0) (s.green + 0) n) blue

below-more : (n : ℕ) → below (n + 1) ≡ below n ++ n ∷ []
below-more n =
    sym (map-id (below (n + 1))) ∙ map-range_with_len_more (λ k. k) 0 n n (omega arith)
    ∙ ap (λ ks. ks ++ n ∷ []) (map-id (below n))

-- one more pixel of a row
pub pixel-more : (f : ℕ → Channels) (before now next : Sums) (x : ℕ)
    → now ≡ plus before (sums_of (map f (below x))) → next ≡ plus now (sums_of (f x ∷ []))
    → next ≡ plus before (sums_of (map f (below (x + 1))))
pixel-more f before now next x so here =
    here ∙ ap (λ s. plus s (sums_of (f x ∷ []))) so
    ∙ plus-both before (sums_of (map f (below x))) (sums_of (f x ∷ []))
    ∙ ap (plus before) (sym (sums-both (map f (below x)) (f x ∷ [])))
    ∙ ap (λ ps. plus before (sums_of ps)) (sym (map-range_with_len_more f 0 x x (omega arith)))

-- one more row of a picture
pub row-more : (row : ℕ → List Channels) (now next : Sums) (y : ℕ)
    → now ≡ sums_of (flat_map row (below y)) → next ≡ plus now (sums_of (row y))
    → next ≡ sums_of (flat_map row (below (y + 1)))
row-more row now next y so here =
    here ∙ ap (λ s. plus s (sums_of (row y))) so
    ∙ sym (sums-both (flat_map row (below y)) (row y))
    ∙ ap sums_of (ap (λ ps. flat_map row (below y) ++ ps) (sym (append-nil (row y)))
    ∙ sym (flat_map-append row (below y) (y ∷ [])) ∙ ap (flat_map row) (sym (below-more y)))

-- sums that are at most one number are at most a greater one
pub at-more : (low high : ℕ) (s : Sums) → low ≤ high → AreAtMost low s → AreAtMost high s
at-more low high s less h = record {
  red = omega (arith, h.red, less);
  green = omega (arith, h.green, less);
  blue = omega (arith, h.blue, less);
}
