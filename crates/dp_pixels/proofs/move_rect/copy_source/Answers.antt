use Rattle.std.proofs.Common.{◌≡◌, ℕ, ◌+◌, ◌-◌, ◌*◌, ◌≤◌, List, length, get_or, take}
use Rattle.std.proofs.Common.{drop, ap, ◌∙◌, arith}
use Rattle.std.proofs.lemmas.List.{length-append, length-take, length-drop}
use Rattle.std.proofs.Math.Nat.{mul-le-mul_right}
use Rattle.dp_blend.specs.Color.{Channels}
use Rattle.dp_pixels.proofs.Moves.{copied_more}
use Rattle.dp_pixels.proofs.move_rect.copy_source.Goals as goal

pub loop-j-preserved : goal.loop-j-preserved
loop-j-preserved c =
    let s = c.args.source in
    let j = c.loop-j.j in
    let width = c.args.width in
    let pixels = c.args.pixels.now in
    let copied = c.loop-j.copied.items in
    let start = (s.y + j) * width + s.x in
    let size = start + s.w - start in
    let size_is : size ≡ s.w = omega arith in
    let rows : (s.y + j + 1) * width ≤ (s.y + s.h) * width = mul-le-mul_right width
    (omega (arith, c.loop-j-test.true)) in
    let columns = c.requires.columns in
    let fits : start + s.w ≤ length pixels = omega (arith, c.requires.rows) in
    let len = c.loop-j.invariant.len in
    let items = c.in_ok-extend_from_slice.ensures.items in
    record {
      len = ap length items ∙ (length-append copied (take size (drop start pixels))
          ∙ omega (arith, length-take size (drop start pixels), length-drop start pixels));
      copied = λ i k d in_w in_rows.
          ap (λ (l : List Channels). get_or l (k * s.w + i) d) items
          ∙ copied_more pixels copied (take size (drop start pixels)) width s.x s.y s.w j i k d len
          (ap (λ (n : ℕ). take n (drop start pixels)) size_is) c.loop-j.invariant.copied in_w
          in_rows;
    }
