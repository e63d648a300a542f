use Rattle.std.proofs.Common.{◌∙◌}
use Rattle.dp_blend.proofs.LaneLemmas.{lessers_are}
use Rattle.dp_blend.proofs.lanes.lesser_products.Goals as goal

pub returns : goal.returns
returns c = c.high_halves.ensures ∙ lessers_are c.args.values c.args.factors c.requires
