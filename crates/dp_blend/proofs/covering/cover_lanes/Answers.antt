use Rattle.dp_blend.proofs.TwoPixels.{are_blended, covering}
use Rattle.dp_blend.specs.declared.modes.Mode.{Mode}
use Rattle.dp_blend.proofs.covering.cover_lanes.Goals as goal

pub returns-clause-value : goal.returns-clause-value
returns-clause-value c =
    rw (c.lesser_products.ensures, c.rests_of.ensures.value) (covering c.args.sources c.args.old
    c.requires.sources c.requires.old)

pub returns-clause-pixels : goal.returns-clause-pixels
returns-clause-pixels c =
    rw (returns-clause-value c) (are_blended Mode.Normal c.args.sources c.args.old
    c.requires.sources c.requires.old)
