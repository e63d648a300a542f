use Rattle.std.proofs.Common.{◌∙◌, sym}
use Rattle.dp_layers.specs.Changes.{set_attr}
use Rattle.dp_layers.proofs.Places.{changed_found, changed_none}
use Rattle.dp_layers.proofs.changes.set_attr.Goals as goal

pub returns-in-Some : goal.returns-in-Some
returns-in-Some c =
    changed_found (set_attr c.args.opacity c.args.mode c.args.hidden) c.args.rows.now c.args.id
    c.in-Some.place _ c.requires
    (sym c.place_of.ensures ∙ c.in-Some.is)

pub returns-in_default : goal.returns-in_default
returns-in_default c =
    changed_none (set_attr c.args.opacity c.args.mode c.args.hidden) c.args.rows.now c.args.id
    (sym c.place_of.ensures ∙ c.in_default.is)
