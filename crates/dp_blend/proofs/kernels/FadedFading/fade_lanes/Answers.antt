use Rattle.std.proofs.Common.{refl}
use Rattle.dp_blend.proofs.TwoPixels.{are_faded}
use Rattle.dp_blend.proofs.kernels.FadedFading.fade_lanes.Goals as goal

pub returns-clause-pixels : goal.returns-clause-pixels
returns-clause-pixels c =
    let p = c.lanes_of.ensures in
    are_faded _ _ _ _ p.first_pixel p.second_pixel c.args.self.within c.args.self.within
    (rw (c.products.ensures, p.value) refl)
