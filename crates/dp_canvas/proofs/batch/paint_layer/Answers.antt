use Rattle.std.proofs.Common.{◌∙◌, List, ap, sym, subst}
use Rattle.std.specs.Prelude.{All}
use Rattle.dp_blend.specs.Color.{Channels, IsPixel}
use Rattle.dp_layers.specs.Rows.{with_content}
use Rattle.dp_plain.proofs.Runs.{run-All}
use Rattle.dp_tile.specs.Tiles.{grid_pixels}
use Rattle.dp_canvas.proofs.Batches.{are_named, found_pixels, run_on}
use Rattle.dp_canvas.proofs.batch.paint_layer.Goals as goal

pub put_grid-requires-clause-pixels : goal.put_grid-requires-clause-pixels
put_grid-requires-clause-pixels g c =
    let board = c.args.canvas.now in
    let run = c.args.run.now in
    let old = grid_pixels board.width board.height c.in-Some.grid.now in
    subst (All IsPixel)
    (sym (run_on board c.width-width.result c.height-height.result run c.in-Some.grid.now
    c.in_ok-painted.painted c.width-width.ensures.value c.height-height.ensures.value
    c.in_ok-painted.ensures.pixels))
    (run-All c.pixels_stay_pixels.ensures board.width board.height run old
    c.known_commands.ensures
    (found_pixels board c.args.layer old c.known_pixels.ensures c.in-Some.ensures.pixels))

pub returns-clause-board : goal.returns-clause-board
returns-clause-board g c =
    let board = c.args.canvas.now in
    let run = c.args.run.now in
    let layer = c.args.layer in
    let old = grid_pixels board.width board.height c.in-Some.grid.now in
    c.put_grid.ensures
    ∙ ap (λ (pixels : List Channels).
    record board { rows = with_content board.rows layer pixels })
    (run_on board c.width-width.result c.height-height.result run c.in-Some.grid.now
    c.in_ok-painted.painted c.width-width.ensures.value c.height-height.ensures.value
    c.in_ok-painted.ensures.pixels)
    ∙ sym (c.runs_change_one_layer.ensures.present board layer run old c.known.ensures
    (are_named layer run c.requires.on) (sym c.in-Some.ensures.pixels))
