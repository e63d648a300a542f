use Rattle.std.proofs.Common.{◌≡◌}
use Rattle.dp_blend.specs.Color.{fade}
use Rattle.dp_blend.specs.Lanes.{lanes}
use Rattle.dp_blend.proofs.TwoPixels.{are_faded, are_masked, masks_fade}
use Rattle.dp_blend.proofs.kernels.blend_two.Goals as goal

pub blend_lanes-requires-clause-sources : goal.blend_lanes-requires-clause-sources
blend_lanes-requires-clause-sources g c =
    let p = c.lanes_of.ensures in
    are_faded _ _ _ _ p.first_pixel p.second_pixel c.requires.first c.requires.second
    (rw (c.products-faded.ensures, c.fours_of-masks.ensures, p.value)
    (masks_fade c.args.src c.args.src c.args.masks.0 c.args.masks.1))

pub pixels_of-requires : goal.pixels_of-requires
pixels_of-requires g c =
    let s = c.args.src in
    let m = c.args.masks in
    let old = c.lanes_of-old.ensures in
    let masks = c.fours_of-masks.ensures in
    let faded : c.products-faded.result ≡ lanes (fade s m.0) (fade s m.1) =
    rw (c.products-faded.ensures, masks, c.lanes_of.ensures.value) (masks_fade s s m.0 m.1) in
    are_masked g.K.Kernel.mode s m.0 m.1 _ _ c.lanes_of.ensures.first_pixel old.first_pixel
    old.second_pixel c.requires.first c.requires.second
    masks faded old.value c.blend_lanes.ensures c.kept_where_zero.ensures
