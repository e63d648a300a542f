use Rattle.std.proofs.Common.{◌≡◌, ◌∙◌, ◌*◌, ◌+◌, ◌-◌, ap, length, take, drop, sym, subst, arith}
use Rattle.std.proofs.Common.{replicate}
use Rattle.dp_blend.specs.Canvas.{part_of_row}
use Rattle.dp_tile.specs.Tiles.{tile_of, tile_pixels}
use Rattle.dp_blend.proofs.Parts.{part_in_list}
use Rattle.dp_tile.proofs.Stretches.{part_of_one_color}
use Rattle.dp_tile.proofs.tile.Tile.stretch.Goals as goal

pub returns-in-Some : goal.returns-in-Some
returns-in-Some c =
    let p = c.in-Some.p in
    let x = c.args.x in
    let y = c.args.y in
    let n = c.args.count in
    let pixels : tile_of p ≡ c.args.self.now =
    sym (ap (λ color. tile_pixels color c.self.inside.pixels.items) c.in-Some.is)
    ∙ c.self.view_is in
    subst
    (λ pixels. part_of_row 64 pixels x y n ≡ replicate (length (part_of_row 64 pixels x y n)) p)
    pixels (part_of_one_color p x y n c.requires.within c.requires.y)

pub returns-in-None : goal.returns-in-None
returns-in-None c =
    let x = c.args.x in
    let y = c.args.y in
    let n = c.args.count in
    let held : c.self.inside.pixels.items ≡ c.args.self.now =
    sym (ap (λ color. tile_pixels color c.self.inside.pixels.items) c.in-None.is)
    ∙ c.self.view_is in
    let pixels = c.deref.ensures.value ∙ held in
    ap (λ all. take (y * 64 + x + n - (y * 64 + x)) (drop (y * 64 + x) all)) pixels
    ∙ part_in_list 64 x y n c.args.self.now
    (omega (
      arith,
      ap length c.self.view_is,
      c.self.invariant.count,
      c.requires.within,
      c.requires.y,
    ))
