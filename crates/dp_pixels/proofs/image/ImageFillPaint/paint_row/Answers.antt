use Rattle.std.proofs.Common.{◌≡◌, ℕ, ◌+◌, ◌-◌, length, get_or, take, drop, Option}
use Rattle.std.proofs.Common.{sym, ap, ◌∙◌, arith}
use Rattle.std.specs.Prelude.{pos, ◌+ℤ◌, slice_get, None}
use Rattle.std.specs.Option.{option_map_or}
use Rattle.std.proofs.lemmas.Bool.{cond-true}
use Rattle.std.proofs.lemmas.List.{length-take}
use Rattle.dp_blend.specs.Color.{Channels, of_argb}
use Rattle.dp_blend.specs.Blending.{blend}
use Rattle.dp_pixels.specs.Rectangles.{is_in, rect_at}
use Rattle.dp_pixels.specs.Commands.{image_index}
use Rattle.dp_pixels.proofs.Rectangles.{row_in}
use Rattle.dp_pixels.proofs.Images.{image_index-right, row_colors}
use Rattle.dp_pixels.proofs.image.ImageFillPaint.paint_row.Goals as goal

pub returns : goal.returns
returns c = λ k d within.
    let fill = c.args.self.now in
    let image = fill.image in
    let place = c.args.place in
    let row = c.args.row.now in
    let colors = image.colors.now in
    let old = get_or row k d in
    let f = λ (color : ℕ) (p : Channels). blend fill.mode (of_argb color) p in
    let area = rect_at (pos image.x) (pos image.y) image.w image.h in
    let inside = row_in area place (length row) k c.requires within in
    let index = image_index (pos image.x) (pos image.y) image.w place.x place.y in
    let start = c.min-start.result in
    let len = c.min-len.result in
    let index_is = c.index.ensures in
    let part_len : length (take len row) ≡ len = omega (arith, length-take len row) in
    let size_is : start + len - start ≡ len = omega arith in
    row_colors f colors row c.merge_colors.new.row index start len k d
    (omega arith) (omega arith) within (c.merge_colors.auto.row ∙ part_len)
    (λ n in_part.
    c.merge_colors.ensures n d (omega (arith, part_len))
    ∙ ap (λ (size : ℕ). f (get_or (take size (drop start colors)) n 0) (get_or (take len row) n d))
    size_is)
    ∙ ap (λ (color : Option ℕ). option_map_or (λ (n : ℕ). f n old) color old)
    (ap (λ (n : ℕ). slice_get colors n) (sym (image_index-right (pos image.x) (pos image.y) image.w
    k place.x place.y c.requires.left))
    ∙ sym (cond-true (is_in area (place.x +ℤ pos k) place.y)
    (slice_get colors (image_index (pos image.x) (pos image.y) image.w (place.x +ℤ pos k)
    place.y)) None inside))
