use Rattle.dp_blend.proofs.TwoPixels.{covering}
use Rattle.dp_blend.proofs.kernels.CoveringKernel.blend_lanes.Goals as goal

pub returns : goal.returns
returns c =
    rw (c.products.ensures, c.rests_of.ensures.value) (covering c.args.sources c.args.old
    c.requires.sources c.requires.old)
