use Rattle.std.proofs.Common.{◌≡◌, ◌++◌, ◌∷◌, [], sym, subst, arith, length, ◌<◌}
use Rattle.std.specs.Prelude.{All}
use Rattle.std.proofs.lemmas.List.Elements.{All-push}
use Rattle.dp_layers.specs.declared.row.LayerRow.{LayerRow}
use Rattle.dp_layers.specs.Rows.{content_of}
use Rattle.dp_pixels.specs.Resizes.{pixels_resized}
use Rattle.dp_plain.proofs.Holds.{fit_found}
use Rattle.dp_layered.proofs.Remaking.{none_next, changed_next}
use Rattle.dp_layered.proofs.trees.resized_contents.Goals as goal
use Rattle.dp_layered.proofs.trees.resized_contents.Goals.{in-Some+in_ok-resize+in_ok-push}
use Rattle.dp_layered.proofs.trees.resized_contents.Goals.{in_default}

pub resize-requires : goal.resize-requires
resize-requires g c = record {
  fits = fit_found (g.C.LayerPixels.fits c.args.change.width c.args.change.height) c.args.tree.now
      c.row-item.result.id c.in-Some.content.now c.requires
      (sym c.in-Some.ensures.value);
}

pub loop-row-preserved : goal.loop-row-preserved
loop-row-preserved g c =
    let change = c.args.change in
    let old = g.C.LayerPixels.pixels change.width change.height in
    let new = g.C.LayerPixels.pixels change.new_width change.new_height in
    let rows = c.rows-row-items.result.now in
    let held = λ (row : LayerRow). content_of c.args.tree.now row.id in
    let i = c.loop-row.row-index in
    let in_list : i < length rows = omega arith in
    let made = c.loop-row.contents.items in
    elim c.match-content.branch [
      | in-Some+in_ok-resize+in_ok-push w ↦
          let y = w.in_ok-resize.field-0 in
          let added : c.match-content.contents.items ≡ made ++ y ∷ [] = rw w.contents-is
          w.in_ok-push.ensures.items in
          record {
            fit = subst (All (g.C.LayerPixels.fits change.new_width change.new_height)) (sym added)
                (All-push (g.C.LayerPixels.fits change.new_width change.new_height) made y
                c.loop-row.invariant.fit w.in_ok-resize.ensures.fits);
            pixels = changed_next held rows i c.row-item.result in_list c.row-item.is old new
                (pixels_resized change) w.in-Some.content.now y made
                c.match-content.contents.items (sym w.in-Some.ensures.value)
                c.loop-row.invariant.pixels
                added w.in_ok-resize.ensures.pixels;
            rise = omega arith;
            few = omega arith;
          }
      | in_default w ↦
          record {
            fit = rw w.contents-is c.loop-row.invariant.fit;
            pixels = rw (
              w.contents-is,
              none_next held rows i c.row-item.result in_list c.row-item.is
                  (sym w.in_default.ensures.value),
            )
                c.loop-row.invariant.pixels;
            rise = omega arith;
            few = omega arith;
          }
    ]
