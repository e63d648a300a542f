use Rattle.std.proofs.Common.{ap, ◌∙◌, sym}
use Rattle.dp_pixels.specs.declared.rect.Rect.{Rect}
use Rattle.dp_pixels.specs.Rectangles.{clipped, is_in}
use Rattle.dp_pixels.specs.Tiles.{tiles_rect}
use Rattle.dp_pixels.proofs.TileLaws.{tiles_stay}
use Rattle.dp_pixels.proofs.tiles.TileRunPaint.bounds.Goals as goal

pub returns-clause-stays : goal.returns-clause-stays
returns-clause-stays c = λ x y old out.
    let t = c.args.self.now in
    let is = c.clipped.ensures ∙ (ap (λ (r : Rect). clipped r c.canvas.result) c.rect.ensures
    ∙ ap (clipped (tiles_rect t.width t.col t.row t.repeat)) c.canvas.ensures) in
    tiles_stay t.width t.height t.col t.row t.repeat t.content.now x y old
    (sym (ap (λ (r : Rect). is_in r x y) is) ∙ out)
