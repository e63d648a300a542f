use Rattle.std.proofs.Common.{rules}
use Rattle.dp_blend.specs.Lanes.{ArePixels}
use Rattle.dp_blend.proofs.TwoPixels.{are_blended}
use Rattle.dp_blend.proofs.kernels.merge_two.Goals as goal

pub pixels_of-requires : goal.pixels_of-requires
pixels_of-requires g c =
    let d : ArePixels c.lanes_of.result = search rules in
    rw c.blend_lanes.ensures (are_blended g.K.Kernel.mode _ _ c.fade_lanes-faded.ensures.pixels d)
