use Rattle.std.proofs.Common.{◌≡◌, ◌∙◌, ap, length, replicate, sym, subst}
use Rattle.std.specs.Option.{option_map_or}
use Rattle.dp_blend.specs.Color.{clear}
use Rattle.dp_blend.specs.Canvas.{part_of_row}
use Rattle.dp_tile.specs.Tiles.{tile_of}
use Rattle.dp_tile.proofs.Stretches.{part_of_one_color}
use Rattle.dp_tile.proofs.slot.Slot.stretch.Goals as goal

pub returns-in-None : goal.returns-in-None
returns-in-None c =
    let x = c.args.x in
    let y = c.args.y in
    let n = c.args.count in
    let none : c.args.self.now ≡ tile_of clear =
    sym c.self.view_is ∙ ap (λ tile. option_map_or (λ t. t.value) tile (tile_of clear)) c.in-None.is
    in
    subst (λ pixels. part_of_row 64 pixels x y n
    ≡ replicate (length (part_of_row 64 pixels x y n)) clear)
    (sym none) (part_of_one_color clear x y n c.requires.within c.requires.y)
