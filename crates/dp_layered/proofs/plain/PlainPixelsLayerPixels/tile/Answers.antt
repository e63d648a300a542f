use Rattle.std.proofs.Common.{◌≡◌, ◌+◌, ◌*◌, ◌-◌, ◌<◌, ◌≤◌, List, length, get_or, take, drop}
use Rattle.std.proofs.Common.{ap, ◌∙◌, arith, ⊎_elim}
use Rattle.std.proofs.lemmas.Bool.{cases_lt}
use Rattle.std.proofs.lemmas.List.{length-take-le, length-drop}
use Rattle.dp_blend.specs.Color.{Channels, clear}
use Rattle.dp_blend.specs.Canvas.{pixel_at}
use Rattle.dp_blend.proofs.Parts.{length-part_of_row, pixel_of_part}
use Rattle.dp_pixels.specs.Tiles.{tile_x, tile_y}
use Rattle.dp_blend.proofs.Written.{part_below, part_within}
use Rattle.dp_layered.proofs.plain.PlainPixelsLayerPixels.tile.Goals as goal

pub loop-j-preserved : goal.loop-j-preserved
loop-j-preserved c = λ k below across.
    let w = c.args.width in
    let col = c.args.col in
    let row = c.args.row in
    let j = c.loop-j.j in
    let pixels = c.args.self.now in
    let start = j * 64 in
    let count = c.min-count.result in
    let buffer = c.loop-j.buffer in
    let part = c.copy_part.new.part in
    let size = start + count - start in
    let long : length buffer ≡ 4096 = c.loop-j.auto.buffer ∙ c.requires.count in
    let in_tile : j < 64 = omega arith in
    let narrow : count ≤ 64 = omega arith in
    let rest : size ≤ length (drop start buffer) = rw length-drop (omega (arith, long)) in
    let n = length (take size (drop start buffer)) in
    let as_long : n ≡ count = length-take-le size (drop start buffer) rest ∙ (omega arith) in
    let fits : start ≤ length buffer = omega (arith, long) in
    ⊎_elim
    (λ before. part_below start size k buffer part clear before fits
    ∙ c.loop-j.invariant k before across)
    (λ after.
    let i = k - start in
    let few : i < n = omega (arith, as_long) in
    let at_x : col * 64 + i ≡ tile_x col k = omega arith in
    let at_y : row * 64 + j ≡ tile_y row k = omega arith in
    let within : i < length part = omega (
      arith,
      few,
      ap length c.copy_part.ensures,
      length-part_of_row w pixels (col * 64) (row * 64 + j) n,
    ) in
    part_within start size k i buffer part clear (omega arith) within fits
    ∙ ap (λ (l : List Channels). get_or l i clear) c.copy_part.ensures
    ∙ pixel_of_part (λ m. pixel_at w pixels (col * 64 + m) (row * 64 + j)) n i few
    ∙ ap (λ m. pixel_at w pixels m (row * 64 + j)) at_x
    ∙ ap (pixel_at w pixels (tile_x col k)) at_y)
    (cases_lt k start)
