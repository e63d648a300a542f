use Rattle.std.proofs.Common.{arith, refl, ◌/◌}
use Rattle.dp_pixels.specs.declared.disc.TheConstants.{ROOTS}
use Rattle.dp_pixels.proofs.Roots.{quarter, root_in_table}
use Rattle.dp_pixels.proofs.disc.low_root.Goals as goal

pub returns-then-square-lt4096-clause-square : goal.returns-then-square-lt4096-clause-square
returns-then-square-lt4096-clause-square c =
    quarter c.root_at.result c.args.square
    (root_in_table ROOTS (c.args.square / 16) _ c.root_at.ensures.value refl refl (omega arith))

pub returns-else-square-lt4096-clause-square : goal.returns-else-square-lt4096-clause-square
returns-else-square-lt4096-clause-square c =
    let root = c.root_at-else-square-lt4096 in
    omega (
      arith,
      root_in_table ROOTS (c.args.square / 256) _ root.ensures.value refl refl
          (omega arith),
    )
