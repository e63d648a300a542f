use Rattle.std.proofs.Common.{◌∙◌, ap, get_or}
use Rattle.dp_blend.specs.Color.{clear}
use Rattle.dp_blend.specs.Blending.{blend}
use Rattle.dp_blend.specs.declared.modes.Mode.TheVariants.{Normal}
use Rattle.dp_shift.proofs.movement.lay_row.Goals as goal

pub returns-clause-places : goal.returns-clause-places
returns-clause-places c = λ k few.
    c.row_merge.ensures.places k clear clear few
    ∙ ap (λ p. blend Normal p (get_or c.args.row.now k clear))
    (c.fade_by_one_keeps.ensures (get_or c.args.sources.now k clear))
