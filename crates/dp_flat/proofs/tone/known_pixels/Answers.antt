-- The next one is a pixel, and in the end all are.
use Rattle.std.proofs.Common.{All, subst, arith}
use Rattle.std.proofs.lemmas.List.{take_all}
use Rattle.std.proofs.lemmas.List.Elements.{All-more}
use Rattle.dp_blend.specs.Color.{IsPixel}
use Rattle.dp_flat.proofs.tone.known_pixels.Goals as goal

pub loop-pixel-preserved : goal.loop-pixel-preserved
loop-pixel-preserved c =
    All-more IsPixel c.args.pixels.now c.loop-pixel.pixel-index c.pixel-item.result (omega arith)
    c.loop-pixel.invariant (subst IsPixel c.pixel-item.is c.a-alpha.ensures.pixel)

pub returns : goal.returns
returns c =
    subst (All IsPixel) (take_all c.loop-pixel.pixel-index c.args.pixels.now (omega arith))
    c.loop-pixel.invariant
