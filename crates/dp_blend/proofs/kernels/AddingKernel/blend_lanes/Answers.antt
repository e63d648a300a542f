use Rattle.dp_blend.proofs.TwoPixels.{adding}
use Rattle.dp_blend.proofs.kernels.AddingKernel.blend_lanes.Goals as goal

pub returns : goal.returns
returns c =
    rw (
      c.smaller_of.ensures,
      c.alphas_of.ensures,
      c.capped_sums.ensures,
      c.products.ensures,
      c.rests_of.ensures.value,
    )
    (adding c.args.sources c.args.old c.requires.sources c.requires.old)
