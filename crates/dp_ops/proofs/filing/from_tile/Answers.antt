use Rattle.std.proofs.Common.{◌≡◌, ◌∙◌, SFits, arith, rules, w16, w64, ◌*◌}
use Rattle.std.specs.Prelude.{pos, ◌-ℤ◌, ℤ}
use Rattle.std.specs.Int.{int_max, int_min}
use Rattle.std.proofs.lemmas.Int.{clamps, int_max_is, int_min_is, ints, to_z-of_z}
use Rattle.dp_ops.proofs.filing.from_tile.Goals as goal

pub returns : goal.returns
returns c =
    let z : ℤ = c.args.at -ℤ pos (c.args.tile * 64) in
    let n : SFits w16 c.narrowed.result = search rules in
    let k : SFits w64 c.clamp.result = search rules in
    let moved : c.clamp.result ≡ int_max (pos 0 -ℤ pos 128) (int_min z (pos 191)) =
    omega (
      arith,
      ints,
      clamps,
      int_max_is (pos 0 -ℤ pos 128) (int_min z (pos 191)),
      int_min_is z (pos 191),
    ) in
    let same : c.narrowed.result ≡ c.clamp.result =
    omega (arith, ints, c.narrowed.ensures, to_z-of_z w64 c.clamp.result k) in
    rw (to_z-of_z w16 c.narrowed.result n) (same ∙ moved)
