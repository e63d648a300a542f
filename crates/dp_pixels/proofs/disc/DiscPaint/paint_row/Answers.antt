use Rattle.std.proofs.Common.{◌≡◌, ℕ, ◌+◌, ◌-◌, ◌^◌, refl, drop, length, get_or, cond, Bool}
use Rattle.std.proofs.Common.{◌&&◌, leb, ltb, ap, ◌∙◌, sym, subst, arith}
use Rattle.std.specs.Prelude.{ℤ, pos, ◌+ℤ◌, ◌-ℤ◌, ◌≤ℤ◌}
use Rattle.std.proofs.lemmas.List.{length-take, length-drop}
use borrow.Rule.Slice.PartMut.{mid_of}
use Rattle.dp_blend.specs.Color.{Channels}
use Rattle.dp_blend.specs.Blending.{blend}
use Rattle.dp_pixels.specs.declared.rect.Rect.{Rect}
use Rattle.dp_pixels.specs.Dabs.{dab_rect, is_in_disc}
use Rattle.dp_pixels.proofs.Rectangles.{row_in}
use Rattle.dp_pixels.proofs.Cells.{round_covers_cell, near_corner, near_corner_below, row_cell}
use Rattle.dp_pixels.proofs.Cells.{cell_row}
use Rattle.dp_pixels.proofs.SpanLemmas.{same_test, in_span}
use Rattle.dp_pixels.proofs.Regions.{part_written}
use Rattle.dp_pixels.proofs.disc.DiscPaint.paint_row.Goals as goal

pub offset-from-requires-clause-near_x : goal.offset-from-requires-clause-near_x
offset-from-requires-clause-near_x c =
    let dab = c.args.self.now.dab in
    let left = ap (λ (r : Rect). r.x0 +ℤ pos (2 ^ 40)) c.rect.ensures in
    subst (λ (z : ℤ). c.args.place.x ≤ℤ z) (sym left) (near_corner c.args.place.x (dab_rect dab).x0
    (length c.args.row.now) dab.size c.requires.right (omega arith))

pub offset-from-requires-clause-near_y : goal.offset-from-requires-clause-near_y
offset-from-requires-clause-near_y c =
    let dab = c.args.self.now.dab in
    let top = ap (λ (r : Rect). r.y0 +ℤ pos (2 ^ 40)) c.rect.ensures in
    subst (λ (z : ℤ). c.args.place.y ≤ℤ z) (sym top) (near_corner_below c.args.place.y
    (dab_rect dab).y0 dab.size c.requires.bottom (omega arith))

pub disc_row-requires : goal.disc_row-requires
disc_row-requires c =
    let dab = c.args.self.now.dab in
    cell_row c.args.place.y (dab_rect dab).y0 c.offset-from.result.1 dab.size c.requires.bottom
    (c.offset-from.ensures.rows ∙ ap (λ (r : Rect). c.args.place.y -ℤ r.y0) c.rect.ensures)

pub returns : goal.returns
returns c = λ k d within.
    let disc = c.args.self.now in
    let place = c.args.place in
    let part = c.part-cells.result in
    let i = c.offset-from.result.0 + k in
    let j = c.offset-from.result.1 in
    let square = dab_rect disc.dab in
    let inside = row_in square place (length c.args.row.now) k c.requires within in
    let from_is = c.offset-from.ensures.columns ∙ ap (λ (r : Rect). place.x -ℤ r.x0) c.rect.ensures
    in
    let row_is = c.offset-from.ensures.rows ∙ ap (λ (r : Rect). place.y -ℤ r.y0) c.rect.ensures in
    let cell = row_cell place.x square.x0 c.offset-from.result.0 (length c.args.row.now)
    disc.dab.size k c.requires.right from_is within in
    let covered = round_covers_cell disc.dab square (place.x +ℤ pos k) place.y i j refl inside
    cell.0 row_is in
    let ends = in_span part k in
    let columns = c.part-cells.ensures.columns k within in
    let cells = c.disc_row.ensures.cells i cell.1 in
    let test = same_test (leb part.start k && ltb k part.end)
    (is_in_disc disc.dab.size (pos i) (pos j))
    (λ t. cells.1 (columns.0 (ends.0 t))) (λ t. ends.1 (columns.1 (cells.0 t))) in
    let order = part.order in
    let fits = c.part-cells.ensures.within in
    let size = part.end - part.start in
    let part_len : length (mid_of part.start size c.args.row.now)
    ≡ size = omega (
      arith,
      length-take size (drop part.start c.args.row.now),
      length-drop
          part.start c.args.row.now,
    ) in
    part_written (λ (n : ℕ) (p : Channels). blend disc.mode disc.source p) c.args.row.now
    c.row_fill.new.row part.start part.end k d order fits within
    (c.row_fill.auto.row ∙ part_len)
    (λ n in_part. c.row_fill.ensures.places n d (omega (arith, part_len)))
    ∙ ap (λ (t : Bool). cond t (blend disc.mode disc.source (get_or c.args.row.now k d))
    (get_or c.args.row.now k d)) (test ∙ covered)
