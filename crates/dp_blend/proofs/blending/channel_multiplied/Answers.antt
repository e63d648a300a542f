use Rattle.std.proofs.Common.{arith}
use Rattle.dp_blend.proofs.Products.{multiply_within}
use Rattle.dp_blend.proofs.blending.channel_multiplied.Goals as goal

pub returns-clause-within : goal.returns-clause-within
returns-clause-within c =
    omega (
      arith,
      multiply_within c.args.sc c.args.sa c.args.dc c.args.da c.requires.source
          c.requires.source_alpha c.requires.destination c.requires.destination_alpha,
    )
