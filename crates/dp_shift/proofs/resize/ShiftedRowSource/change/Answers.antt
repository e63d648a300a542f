use Rattle.std.proofs.Common.{◌∙◌, ◌+◌, ◌*◌, ap, sym, arith, rules, SFits, w32, w64}
use Rattle.std.specs.Prelude.{pos, ◌+ℤ◌, ◌-ℤ◌}
use Rattle.std.proofs.lemmas.Int.{to_z-of_z}
use Rattle.dp_blend.specs.Color.{clear}
use Rattle.dp_blend.specs.Canvas.{pixel_at}
use Rattle.dp_tile.proofs.Tiles.{pixel-tile_of}
use Rattle.dp_shift.specs.Reading.{shown}
use Rattle.dp_shift.proofs.Moving.{tile_place}
use Rattle.dp_shift.proofs.Tiles.{is_tile_from}
use Rattle.dp_shift.proofs.resize.ShiftedRowSource.change.Goals as goal

pub returns-then-is_clear : goal.returns-then-is_clear
returns-then-is_clear c = λ pixels count of_color.
    let s = c.args.self.now in
    let left : SFits w32 s.left = search rules in
    let top : SFits w32 s.top = search rules in
    let x : SFits w64 c.tile_back-x.result = search rules in
    let y : SFits w64 c.tile_back-y.result = search rules in
    let at_x = simp to_z-of_z at c.tile_back-x.ensures.value in
    let at_y = simp to_z-of_z at c.tile_back-y.ensures.value in
    let plain = of_color clear (c.is_clear_color.ensures c.if-is_clear_color.true) in
    let old = shown s.old.width s.old.height s.old.grid.now in
    sym (is_tile_from (λ x y. old (x -ℤ s.left) (y -ℤ s.top)) c.args.col c.args.row pixels count
    (λ i j in_x in_y. ap (λ all. pixel_at 64 all i j) plain
    ∙ pixel-tile_of clear (j * 64 + i) (omega (arith, in_x, in_y))
    ∙ sym (ap (λ z. old z (pos (c.args.row * 64 + j) -ℤ s.top))
    (tile_place c.args.col i s.left c.tile_back-x.result at_x)
    ∙ ap (old (c.tile_back-x.result +ℤ pos i))
    (tile_place c.args.row j s.top c.tile_back-y.result at_y)
    ∙ (simp to_z-of_z at c.is_clear.ensures) c.if-is_clear.true i j in_x in_y)))
