use Rattle.std.proofs.Common.{◌∙◌, ◌+◌, ◌*◌, ◌-◌, ap, take, drop, arith, List, length}
use Rattle.std.proofs.lemmas.Nat.{mul-le}
use Rattle.dp_blend.specs.Color.{Channels}
use Rattle.dp_blend.proofs.Parts.{part_in_list}
use Rattle.dp_layered.proofs.plain.PlainPixelsLayerPixels.copy_part.Goals as goal

pub returns : goal.returns
returns c =
    let w = c.args.width in
    let x = c.args.x in
    let y = c.args.y in
    let n = length c.args.part.now in
    c.copy_from_slice.ensures.after
    ∙ ap (λ (pixels : List Channels). take (y * w + x + n - (y * w + x)) (drop (y * w + x) pixels))
    (c.deref.ensures.value ∙ c.self.view_is)
    ∙ part_in_list w x y n c.args.self.now
    (omega (
      arith,
      mul-le (y + 1) w c.args._height w (omega arith) (omega arith),
      c.requires.fits.0,
    ))
