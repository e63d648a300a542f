use Rattle.std.proofs.Common.{◌≡◌, true, sym, subst}
use Rattle.std.specs.Prelude.{is_some}
use Rattle.dp_layers.specs.Rows.{content_of}
use Rattle.dp_plain.specs.Board.{Board}
use Rattle.dp_plain.proofs.Holds.{fit_found, held_filled}
use Rattle.dp_layered.proofs.Views.{paint_seen}
use Rattle.dp_layered.proofs.layered.LayeredBoard.put_content.Goals as goal

pub invariant_of-self : goal.invariant_of-self
invariant_of-self g c =
    let inside = c.self.inside in
    let fits = g.C.LayerPixels.fits in
    let id = c.args.id in
    held_filled fits inside.width inside.height inside.tree c.put_content.new.self
    c.self.invariant c.trees_stay_trees.ensures.filled id c.args.content
    (paint_seen (g.C.LayerPixels.pixels inside.width inside.height) inside.tree id
    c.content.result c.content.ensures.value c.content.ensures.paint
    (subst (λ (b : Board). is_some (content_of b.rows id) ≡ true) (sym c.self.view_is)
    c.requires.present))
    (subst (λ (b : Board). fits b.width b.height c.args.content) (sym c.self.view_is)
    c.requires.fits)
    c.put_content.ensures.new

pub returns-clause-old_fits : goal.returns-clause-old_fits
returns-clause-old_fits g c =
    let inside = c.self.inside in
    let fits = g.C.LayerPixels.fits in
    subst (λ (b : Board). fits b.width b.height c.put_content.result) c.self.view_is
    (fit_found (fits inside.width inside.height) inside.tree c.args.id c.put_content.result
    c.self.invariant.each c.put_content.ensures.old)
