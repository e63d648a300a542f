use Rattle.dp_blend.proofs.TwoPixels.{recoloring}
use Rattle.dp_blend.proofs.kernels.RecoloringKernel.blend_lanes.Goals as goal

pub returns : goal.returns
returns c =
    rw (
      c.products-2.ensures,
      c.products.ensures,
      c.alphas_of.ensures,
      c.with_alphas-rests.ensures,
      c.rests_of.ensures.value,
      c.with_alphas-shown.ensures,
    )
    (recoloring c.args.sources c.args.old c.requires.sources c.requires.old)
