use Rattle.std.proofs.Common.{rules, sym, w32, SFits}
use Rattle.std.specs.Prelude.{pos, ◌+ℤ◌}
use Rattle.std.proofs.lemmas.Int.{to_z-of_z}
use Rattle.std.proofs.lemmas.Option.{cond_some}
use Rattle.dp_pixels.specs.Resizes.{is_side, side}
use Rattle.dp_pixels.proofs.resize.Resize.of_sides.Goals as goal

pub returns-clause-value : goal.returns-clause-value
returns-clause-value c =
    let top : SFits w32 c.args.top = search rules in
    let right : SFits w32 c.args.right = search rules in
    let bottom : SFits w32 c.args.bottom = search rules in
    let left : SFits w32 c.args.left = search rules in
    let wide = simp to_z-of_z at c.in_ok-new_width.ensures.value in
    let high = simp to_z-of_z at c.in_ok-new_height.ensures.value in
    let w = cond_some (is_side (pos c.args.width +ℤ c.args.left +ℤ c.args.right))
    (side (pos c.args.width +ℤ c.args.left +ℤ c.args.right)) c.in_ok-new_width.new_width
    (sym wide) in
    let h = cond_some (is_side (pos c.args.height +ℤ c.args.top +ℤ c.args.bottom))
    (side (pos c.args.height +ℤ c.args.top +ℤ c.args.bottom)) c.in_ok-new_height.new_height
    (sym high) in
    record {
      from_width = search rules;
      from_height = search rules;
      wide = w.0;
      high = h.0;
      to_width = sym w.1;
      to_height = sym h.1;
      across = to_z-of_z w32 c.args.left left;
      down = to_z-of_z w32 c.args.top top;
    }
