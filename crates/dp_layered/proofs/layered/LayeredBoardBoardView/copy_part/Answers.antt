use Rattle.std.proofs.Common.{◌≡◌, ◌∙◌, ap, sym, subst, true, length}
use Rattle.std.proofs.lemmas.Bool.{false≢true}
use Rattle.dp_layers.specs.Layers.{is_paint_row}
use Rattle.dp_layers.specs.Rows.{layers_of}
use Rattle.dp_plain.specs.Board.{Board}
use Rattle.dp_plain.specs.Picture.{pixels_of}
use Rattle.dp_blend.specs.Canvas.{part_of_row}
use Rattle.dp_plain.proofs.Holds.{fit_found}
use Rattle.dp_layered.proofs.Views.{layers_seen, pixels_seen}
use Rattle.dp_layered.proofs.layered.LayeredBoardBoardView.copy_part.Goals as goal

pub copy_part-requires-clause-fits : goal.copy_part-requires-clause-fits
copy_part-requires-clause-fits g c =
    let inside = c.self.inside in
    fit_found (g.C.LayerPixels.fits inside.width inside.height) inside.tree c.args.id
    c.in-Some.content.now
    c.self.invariant.each (sym c.in-Some.ensures.value)

pub returns-in-Some : goal.returns-in-Some
returns-in-Some g c =
    let inside = c.self.inside in
    subst
    (λ (board : Board). c.copy_part.new.part ≡ part_of_row board.width
    (pixels_of board c.args.id) c.args.x c.args.y (length c.args.part.now)) c.self.view_is
    (c.copy_part.ensures ∙ ap (λ pixels. part_of_row inside.width pixels c.args.x c.args.y
    (length c.args.part.now))
    (sym
    (pixels_seen (g.C.LayerPixels.pixels inside.width inside.height) inside.tree c.args.id
    c.in-Some.content.now (sym c.in-Some.ensures.value))))

pub returns-in_default : goal.returns-in_default
returns-in_default g c =
    let inside = c.self.inside in
    let paint : is_paint_row (layers_of inside.tree) c.args.id ≡ true =
    ap (λ layers. is_paint_row layers c.args.id)
    (sym (layers_seen (g.C.LayerPixels.pixels inside.width inside.height) inside.tree))
    ∙ subst (λ (board : Board). is_paint_row (layers_of board.rows) c.args.id ≡ true)
    (sym c.self.view_is) c.requires.paint in
    absurd (false≢true (c.in_default.ensures.paint ∙ paint))
