use Rattle.std.proofs.Common.{◌≡◌, ℕ, ◌+◌, ◌-◌, length, get_or, drop, ◌&&◌, leb, ltb, ap, ◌∙◌}
use Rattle.std.proofs.Common.{arith, rules, SFits, w64, to_z, of_z}
use Rattle.std.specs.Prelude.{ℤ, pos, ◌+ℤ◌, ◌≤ℤ◌, unsigned_abs}
use Rattle.std.specs.Option.{option_map_or}
use Rattle.std.proofs.lemmas.Int.{ints}
use Rattle.std.proofs.lemmas.List.{length-take, length-drop}
use Rattle.dp_blend.specs.Color.{Channels}
use Rattle.dp_msg_draw.specs.declared.lists.TilePixel.{TilePixel}
use Rattle.dp_pixels.specs.Rectangles.{canvas_rect, clipped}
use Rattle.dp_pixels.specs.Tiles.{content_at, replaced_by, tiles_rect}
use Rattle.dp_pixels.proofs.Rectangles.{is_in-true, is_in_by, clipped_in, row_in, row_start}
use Rattle.dp_pixels.proofs.TileLaws.{tiles_put_by}
use Rattle.dp_pixels.proofs.SpanLemmas.{in_span}
use Rattle.dp_pixels.proofs.Regions.{part_written}
use Rattle.dp_pixels.proofs.tiles.TileRunPaint.paint_row.Goals as goal
use borrow.Rule.Slice.PartMut.{mid_of}

-- the column of a place of the row
column_is : (z : ℤ) (k : ℕ) → SFits w64 z → pos 0 ≤ℤ z → unsigned_abs (z +ℤ pos k)
    ≡ unsigned_abs (to_z w64 (of_z w64 z)) + k
column_is z k fits from = omega (arith, ints)

row_is : (z : ℤ) → SFits w64 z → pos 0 ≤ℤ z → unsigned_abs z ≡ unsigned_abs (to_z w64 (of_z w64 z))
row_is z fits from = omega (arith, ints)

pub returns : goal.returns
returns c = λ k d within.
    let t = c.args.self.now in
    let place = c.args.place in
    let row = c.args.row.now in
    let part = c.part-columns.result in
    let order = part.order in
    let fits = c.part-columns.ensures.within in
    let x = unsigned_abs (to_z w64 (of_z w64 place.x)) in
    let y = unsigned_abs (to_z w64 (of_z w64 place.y)) in
    let size = part.end - part.start in
    let part_len : length (mid_of part.start size row) ≡ size = omega
    (arith, length-take size (drop part.start row), length-drop part.start row) in
    let put = λ (n : ℕ) (p : Channels). option_map_or (λ (q : TilePixel). replaced_by q p)
    (content_at t.content.now (x + n) y) p in
    let area = tiles_rect t.width t.col t.row t.repeat in
    let canvas = canvas_rect t.width t.height in
    let inside = clipped_in area canvas (place.x +ℤ pos k) place.y
    (is_in-true (clipped area canvas) (place.x +ℤ pos k) place.y
    (row_in (clipped area canvas) place (length row) k c.requires within)) in
    let first = clipped_in area canvas place.x place.y (row_start (clipped area canvas) place
    (length row) c.requires) in
    let from_x = first.1.x0 in
    let from_y = first.1.y0 in
    let fits_x : SFits w64 place.x = search rules in
    let fits_y : SFits w64 place.y = search rules in
    let ends = in_span part k in
    let columns = c.part-columns.ensures.columns k within in
    let numbers = c.columns.ensures (x + k) in
    let x_is : unsigned_abs (place.x +ℤ pos k) ≡ x + k = column_is place.x k fits_x from_x in
    let y_is : unsigned_abs place.y ≡ y = row_is place.y fits_y from_y in
    part_written put row c.put_content.new.row part.start part.end k d order fits within
    (c.put_content.auto.row ∙ part_len)
    (λ n in_part.
    c.put_content.ensures n d (omega (arith, part_len))
    ∙ ap (λ (m : ℕ). option_map_or (λ (q : TilePixel). replaced_by q
    (get_or (mid_of part.start size row) n d)) (content_at t.content.now m y)
    (get_or (mid_of part.start size row) n d))
    (omega arith))
    ∙ tiles_put_by t.width t.height t.col t.row t.repeat t.content.now (place.x +ℤ pos k) place.y
    (get_or row k d) (x + k) y (leb part.start k && ltb k part.end)
    (is_in_by canvas (place.x +ℤ pos k) place.y inside.1) x_is y_is t.on_canvas
    (λ test. numbers.0 (columns.0 (ends.0 test))) (λ both. ends.1 (columns.1 (numbers.1 both)))
