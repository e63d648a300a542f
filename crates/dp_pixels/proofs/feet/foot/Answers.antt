use Rattle.std.proofs.Common.{◌∙◌, ap, sym, rules, SFits, w32}
use Rattle.std.proofs.lemmas.Int.{to_z-of_z}
use Rattle.dp_pixels.specs.Feet.{foot}
use Rattle.dp_pixels.proofs.feet.foot.Goals as goal

pub returns-in-MoveRect : goal.returns-in-MoveRect
returns-in-MoveRect c =
    let m = c.in-MoveRect in
    let tx : SFits w32 m.tx = search rules in
    let ty : SFits w32 m.ty = search rules in
    (simp to_z-of_z at c.foot_of_move.ensures) ∙ ap foot (sym m.is)
