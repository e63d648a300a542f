use Rattle.std.proofs.Common.{◌≡◌, ◌∙◌, ◌+◌, ◌*◌, ap, arith, rules, SFits, w64}
use Rattle.std.specs.Prelude.{pos, ◌+ℤ◌, ◌-ℤ◌}
use Rattle.std.proofs.lemmas.Int.{ints, to_z-of_z}
use Rattle.dp_pixels.specs.Rectangles.{is_in}
use Rattle.dp_shift.specs.Reading.{shown}
use Rattle.dp_shift.proofs.Moving.{moved_clear, tile_place}
use Rattle.dp_shift.proofs.movement.MovedRowSource.change.Goals as goal

pub returns-then-misses_square : goal.returns-then-misses_square
returns-then-misses_square c = λ pixels count of_color.
    let m = c.args.self.now in
    let col = c.args.col in
    let row = c.args.row in
    let right : SFits w64 m.right = search rules in
    let down : SFits w64 m.down = search rules in
    let x : SFits w64 c.tile_start-x.result = search rules in
    let y : SFits w64 c.tile_start-y.result = search rules in
    let back_x : SFits w64 c.place_back-back_x.result = search rules in
    let back_y : SFits w64 c.place_back-back_y.result = search rules in
    let at_x = c.tile_start-x.ensures.value in
    let at_y = c.tile_start-y.ensures.value in
    let at_back_x = (simp to_z-of_z at c.place_back-back_x.ensures.value)
    ∙ ap (λ z. z -ℤ m.right) at_x in
    let at_back_y = (simp to_z-of_z at c.place_back-back_y.ensures.value)
    ∙ ap (λ z. z -ℤ m.down) at_y in
    let has = (simp to_z-of_z at c.has_square.ensures) c.if-has_square.true in
    let misses = (simp to_z-of_z at c.misses_square.ensures) c.if-misses_square.true in
    moved_clear m.source m.right m.down (shown m.old.width m.old.height m.old.grid.now) col row
    (λ i j in_x in_y.
    let here_x : pos (col * 64 + i) ≡ c.tile_start-x.result +ℤ pos i = omega (arith, ints, at_x) in
    let here_y : pos (row * 64 + j) ≡ c.tile_start-y.result +ℤ pos j = omega (arith, ints, at_y) in
    ap (λ z. is_in m.source z (pos (row * 64 + j))) here_x
    ∙ ap (is_in m.source (c.tile_start-x.result +ℤ pos i)) here_y ∙ has i j in_x in_y)
    (λ i j in_x in_y.
    ap (λ z. is_in m.source z (pos (row * 64 + j) -ℤ m.down))
    (tile_place col i m.right c.place_back-back_x.result at_back_x)
    ∙ ap (is_in m.source (c.place_back-back_x.result +ℤ pos i))
    (tile_place row j m.down c.place_back-back_y.result at_back_y)
    ∙ misses i j in_x in_y)
