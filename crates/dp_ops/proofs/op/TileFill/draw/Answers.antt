use Rattle.std.proofs.Common.{◌≡◌, ℕ, ◌+◌, ◌-◌, ◌*◌, ◌%◌, ◌<◌, ◌≤◌, ◌∙◌, ◌&&◌, inl, inr, ap, arith}
use Rattle.std.proofs.Common.{cond, leb, ltb, length, get_or, min, refl}
use Rattle.dp_blend.specs.Color.{Channels, of_argb}
use Rattle.dp_blend.specs.Blending.{blend}
use Rattle.dp_tile.proofs.Areas.{get_or-part, length-part}
use Rattle.dp_ops.proofs.Ops.{none_filled, rows_filled}
use Rattle.dp_ops.proofs.op.TileFill.draw.Goals as goal
use Rattle.dp_ops.proofs.op.TileFill.draw.Goals.{else-left-right-via-else-left-right}
use Rattle.dp_ops.proofs.op.TileFill.draw.Goals.{
  else-left-right-via-then-left-right+else-top-bottom,
}

pub returns-then-top-bottom : goal.returns-then-top-bottom
returns-then-top-bottom c = λ t.
    let f = c.args.self in
    let old = c.args.pixels.now in
    let part = c.rows_fill.new.rows in
    let left = f.left in
    let right = c.min-right.result in
    let top = f.top in
    let bottom = c.min-bottom.result in
    let at_right : right ≡ min f.right 64 = omega (arith, c.min-right.ensures) in
    let at_bottom : bottom ≡ min f.bottom 64 = omega (arith, c.min-bottom.ensures) in
    let rising : top * 64 ≤ bottom * 64 = omega (arith, c.if-top-bottom.true) in
    let fits : bottom * 64 ≤ length old = omega (arith, c.requires, at_bottom) in
    let count = length-part (top * 64) (bottom * 64) old rising fits in
    let each : (k : ℕ) (d : Channels) → k < bottom * 64 - top * 64 → get_or part k d
    ≡ cond (leb left (k % 64) && ltb (k % 64) right)
    (blend f.mode (of_argb f.color) (get_or old (top * 64 + k) d)) (get_or old (top * 64 + k) d) =
    λ k d below.
    c.rows_fill.ensures.places k d (omega (arith, below, count))
    ∙ ap (λ (p : Channels). cond (leb left (k % 64) && ltb (k % 64) right)
    (blend f.mode c.of_argb.result p) p)
    (get_or-part (top * 64) (bottom * 64) old rising fits k d below)
    ∙ ap (λ (s : Channels). cond (leb left (k % 64) && ltb (k % 64) right)
    (blend f.mode s (get_or old (top * 64 + k) d)) (get_or old (top * 64 + k) d))
    c.of_argb.ensures.value in
    rows_filled t f left right top bottom old part refl at_right refl at_bottom c.if-top-bottom.true
    c.requires (omega (arith, c.rows_fill.ensures.count, count)) each

pub returns-else-left-right : goal.returns-else-left-right
returns-else-left-right c = λ t.
    let f = c.args.self in
    let old = c.args.pixels.now in
    elim c.else-left-right.branch [
      | else-left-right-via-then-left-right+else-top-bottom w ↦
          none_filled t f old c.requires
          (inr (omega (arith, w.if-top-bottom.false, c.min-bottom.ensures)))
      | else-left-right-via-else-left-right w ↦
          none_filled t f old c.requires
          (inl (omega (arith, w.if-left-right.false, c.min-right.ensures)))
    ]
