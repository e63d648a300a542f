use Rattle.std.proofs.Common.{ap, sym, ◌∙◌}
use Rattle.dp_paint.specs.Painting.{foot_area}
use Rattle.dp_paint.proofs.FootLemmas.{area_within}
use Rattle.dp_paint.proofs.feet.foot_rect.Goals as goal

pub returns-clause-within : goal.returns-clause-within
returns-clause-within c =
    area_within c.args.command.now c.in-Area.rect
    (ap foot_area (sym c.foot.ensures ∙ c.in-Area.is))
