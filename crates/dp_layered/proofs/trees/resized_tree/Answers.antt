use Rattle.std.proofs.Common.{◌∙◌, ap, map, sym, subst}
use Rattle.std.specs.Prelude.{All}
use Rattle.dp_pixels.specs.Resizes.{pixels_resized}
use Rattle.dp_plain.proofs.Holds.{fit_contents}
use Rattle.dp_layered.proofs.Remaking.{changed_tree}
use Rattle.dp_layered.proofs.trees.resized_tree.Goals as goal

pub returns-clause-fit : goal.returns-clause-fit
returns-clause-fit g c =
    let fits = g.C.LayerPixels.fits c.args.change.new_width c.args.change.new_height in
    fit_contents fits c.in_ok-resized.resized
    (subst (All fits) (sym c.in_ok-resized.ensures.contents) c.in_ok-resized_contents.ensures.fit)

pub returns-clause-pixels : goal.returns-clause-pixels
returns-clause-pixels g c =
    let change = c.args.change in
    let new = g.C.LayerPixels.pixels change.new_width change.new_height in
    changed_tree (g.C.LayerPixels.pixels change.width change.height) new
    (pixels_resized change) c.args.tree.now c.in_ok-resized.resized
    c.one_tree.ensures c.rows-rows.ensures.tree c.rows-resized_rows.ensures.tree
    c.in_ok-resized.ensures.rows
    (ap (map new) c.in_ok-resized.ensures.contents ∙ c.in_ok-resized_contents.ensures.pixels)
