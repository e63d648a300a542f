use Rattle.std.proofs.Common.{◌≡◌, ℕ, ◌*◌, ◌%◌, ◌/◌, ◌^◌, length, map, ap, ◌∙◌, List, [], ◌∷◌, Fits}
use Rattle.std.proofs.Common.{w16, subst, sym}
use Rattle.std.specs.Simd.Lanes.{zip2, Each1}
use Rattle.std.proofs.lemmas.List.{length-map}
use Rattle.std.proofs.lemmas.Simd.{zip2_splat, length-zip2}
use Rattle.dp_blend.proofs.LaneLemmas.{halves_is, halves_fit}
use Rattle.dp_blend.proofs.lanes.high_halves.Goals as goal

-- each of eight products is shifted by 16
shifted : (v f : List ℕ) → length v ≡ 8 → length f ≡ 8
    → zip2 (λ a b. a / 2 ^ b) (zip2 (λ a b. a * b % 4294967296) (map (λ x. x) v) (map (λ x. x) f))
    (16 ∷ 16 ∷ 16 ∷ 16 ∷ 16 ∷ 16 ∷ 16 ∷ 16 ∷ [])
    ≡ map (λ x. x / 65536) (zip2 (λ a b. a * b % 4294967296) (map (λ x. x) v) (map (λ x. x) f))
shifted v f h k =
    let v' = map (λ (x : ℕ). x) v in
    let f' = map (λ (x : ℕ). x) f in
    let long : length v' ≡ 8 = length-map v (λ x. x) ∙ h in
    let same : length v' ≡ length f' = long ∙ sym (length-map f (λ x. x) ∙ k) in
    zip2_splat (λ a b. a / 2 ^ b) (zip2 (λ a b. a * b % 4294967296) v' f') 8 16
    (length-zip2 _ v' f' same ∙ long)

pub overflow_cast-result : goal.overflow_cast-result
overflow_cast-result c =
    let v = map (λ (x : ℕ). x) c.args.values in
    let f = map (λ (x : ℕ). x) c.args.factors in
    subst (Each1 (Fits w16)) (sym (shifted c.args.values c.args.factors c.fits-values.0
    c.fits-factors.0)) (halves_fit v f)

pub returns : goal.returns
returns c =
    ap (map (λ x. x)) (shifted c.args.values c.args.factors c.fits-values.0 c.fits-factors.0)
    ∙ halves_is c.args.values c.args.factors c.fits-values.1 c.fits-factors.1
