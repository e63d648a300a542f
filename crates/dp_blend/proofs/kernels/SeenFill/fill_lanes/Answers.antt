use Rattle.std.proofs.Common.{rules}
use Rattle.dp_blend.specs.Lanes.{ArePixels, lanes}
use Rattle.dp_blend.proofs.TwoPixels.{are_blended, covering}
use Rattle.dp_blend.specs.declared.modes.Mode.{Mode}
use Rattle.dp_blend.proofs.kernels.SeenFill.fill_lanes.Goals as goal

pub returns-clause-value : goal.returns-clause-value
returns-clause-value c =
    let src = c.args.self.src in
    let p = c.twice_of-sources.ensures in
    let s : ArePixels (lanes src src) = search rules in
    rw (c.lesser_products.ensures, c.rests_of.ensures.value, p.value)
    (covering (lanes src src) c.args.old s c.requires)

pub returns-clause-pixels : goal.returns-clause-pixels
returns-clause-pixels c =
    let src = c.args.self.src in
    let s : ArePixels (lanes src src) = search rules in
    rw (returns-clause-value c) (are_blended Mode.Normal (lanes src src) c.args.old s c.requires)
