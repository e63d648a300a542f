use Rattle.std.proofs.Common.{◌≡◌, ◌∙◌, ap, refl}
use Rattle.std.specs.Simd.Lanes.{zip2}
use Rattle.dp_blend.specs.Color.{mul}
use Rattle.dp_blend.specs.Lanes.{with_alphas}
use Rattle.dp_blend.proofs.TwoPixels.{multiplying, sums, rests}
use Rattle.dp_blend.proofs.kernels.MultiplyingKernel.blend_lanes.Goals as goal

pub returns : goal.returns
returns c =
    let v = c.args.sources in
    let w = c.args.old in
    let parts : sums c.products.result c.products-2.result
    ≡ sums (zip2 mul w v) (zip2 mul (rests w) v) =
    rw (c.products-2.ensures, c.products.ensures, c.rests_of.ensures.value) refl in
    let shown = c.with_alphas.ensures ∙ ap (λ m. with_alphas m v) parts in
    rw (c.products-3.ensures, c.rests_of-2.ensures.value, shown)
    (multiplying v w c.requires.sources c.requires.old)
