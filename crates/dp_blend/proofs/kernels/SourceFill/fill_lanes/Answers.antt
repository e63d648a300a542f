use Rattle.std.proofs.Common.{rules}
use Rattle.dp_blend.specs.Lanes.{ArePixels}
use Rattle.dp_blend.proofs.TwoPixels.{are_blended}
use Rattle.dp_blend.proofs.kernels.SourceFill.fill_lanes.Goals as goal

pub returns-clause-pixels : goal.returns-clause-pixels
returns-clause-pixels g c =
    let s : ArePixels c.twice_of.result = search rules in
    rw c.blend_lanes.ensures (are_blended g.K.Kernel.mode c.twice_of.result c.args.old s c.requires)
