use Rattle.std.proofs.Common.{◌∙◌, sym, arith}
use Rattle.std.proofs.lemmas.List.{ext_get_or}
use Rattle.dp_blend.specs.Color.{clear}
use Rattle.dp_tile.proofs.Tiles.{length-tile_of, pixel-tile_of}
use Rattle.dp_tile.proofs.tile.color_of.Goals as goal

pub returns-clause-color : goal.returns-clause-color
returns-clause-color c =
    ext_get_or clear _ _ (c.requires ∙ sym (length-tile_of _))
    (λ k below. c.loop-pixel.invariant k (omega arith)
    ∙ sym (pixel-tile_of _ k (omega (arith, below, c.requires))))
