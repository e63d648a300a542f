use Rattle.std.proofs.Common.{ℕ, ◌^◌, ◌≡◌, ◌+◌, ◌-◌, ◌*◌, ◌<◌, ◌≤◌, ap, ◌∙◌, subst, arith}
use Rattle.std.proofs.Common.{length, get_or, to_z, of_z, w64}
use Rattle.std.specs.Prelude.{ℤ, pos, ◌+ℤ◌}
use Rattle.std.proofs.lemmas.Int.{ints}
use Rattle.dp_pixels.specs.declared.rect.Rect.{Rect}
use Rattle.dp_pixels.specs.declared.rect.Place.{Place}
use Rattle.dp_pixels.specs.Regions.{IsRowIn}
use Rattle.dp_pixels.proofs.Clips.{part_empty, part_start, part_more, part_end, part_row}
use Rattle.dp_pixels.proofs.Regions.{length-row}
use borrow.Rule.Slice.PartMut.{mid_of}
use Rattle.dp_pixels.proofs.paint.paint_region.Goals as goal

pub returns-then-clip : goal.returns-then-clip
returns-then-clip g c =
    part_empty c.args.region.now c.bounds.result c.clip-clip.result c.clip-clip.ensures
    (g.P.Paint.change c.args.paint.now)
    c.bounds.ensures.stays c.args.stride c.args.pixels.now c.if-clip.true

pub loop-j-init : goal.loop-j-init
loop-j-init g c =
    part_start c.args.region.now c.bounds.result c.clip-clip.result c.clip-clip.ensures
    (g.P.Paint.change c.args.paint.now)
    c.bounds.ensures.stays c.args.stride c.args.pixels.now

-- where a row begins
row_start : (from k : ℕ) → from < 2 ^ 32 → k ≤ 2 ^ 32 → to_z w64
    (of_z w64 (to_z w64 from +ℤ to_z w64 k)) ≡ pos (from + k)
row_start from k near short = omega (arith, ints)

pub paint_row-requires : goal.paint_row-requires
paint_row-requires g c =
    let w = c.args.region.now in
    let p = c.clip-clip.result in
    let in_width = c.clip-clip.ensures.right.within in
    let in_height = c.clip-clip.ensures.bottom.within in
    let row = mid_of (c.loop-j.j * c.args.stride + p.left)
    (c.loop-j.j * c.args.stride + p.right - (c.loop-j.j * c.args.stride + p.left))
    c.loop-j.pixels in
    let place : Place = record {
      x = to_z w64 (of_z w64 (to_z w64 w.x +ℤ to_z w64 p.left));
      y = to_z w64 (of_z w64 (to_z w64 w.y +ℤ to_z w64 c.loop-j.j));
    } in
    let row_len : length row ≡ p.right - p.left =
    length-row c.loop-j.pixels w.width w.height c.args.stride c.loop-j.j p.left p.right
    c.requires.wide (omega (arith, c.requires.long, c.loop-j.auto.pixels))
    (omega (arith, c.if-clip.false)) in_width
    (omega (arith, c.loop-j-test.true)) in
    subst (λ (bounds : Rect). IsRowIn bounds place (length row)) c.bounds.ensures.value
    (part_row w c.bounds.result p c.clip-clip.ensures c.loop-j.j place (length row) c.if-clip.false
    c.loop-j.auto.j c.loop-j-test.true row_len
    (row_start w.x p.left (omega arith) (omega arith)) (row_start w.y c.loop-j.j (omega arith)
    (omega arith)))

pub loop-j-preserved : goal.loop-j-preserved
loop-j-preserved g c =
    let w = c.args.region.now in
    let p = c.clip-clip.result in
    let k = c.loop-j.j in
    let size = k * c.args.stride + p.right - (k * c.args.stride + p.left) in
    let some = c.if-clip.false in
    let in_width = c.clip-clip.ensures.right.within in
    let in_height = c.clip-clip.ensures.bottom.within in
    let row = mid_of (k * c.args.stride + p.left) size c.loop-j.pixels in
    let row_len : length row ≡ p.right - p.left =
    length-row c.loop-j.pixels w.width w.height c.args.stride k p.left p.right c.requires.wide
    (omega (arith, c.requires.long, c.loop-j.auto.pixels)) (omega (arith, some)) in_width
    (omega (arith, c.loop-j-test.true)) in
    let change = g.P.Paint.change c.args.paint.now in
    let x_is = row_start w.x p.left (omega arith) (omega arith) in
    let y_is = row_start w.y k (omega arith) (omega (arith, c.loop-j-test.true)) in
    part_more w c.bounds.result p c.clip-clip.ensures (g.P.Paint.change c.args.paint.now)
    c.bounds.ensures.stays c.args.stride c.args.pixels.now c.loop-j.pixels c.paint_row.new.row k
    size
    c.requires.wide c.requires.long some c.loop-j.auto.j c.loop-j-test.true (omega arith)
    c.loop-j.invariant
    (omega (arith, c.paint_row.auto.row, row_len))
    (λ n d in_row.
    c.paint_row.ensures n d (omega (arith, row_len))
    ∙ (ap (λ (x : ℤ). change (x +ℤ pos n) (to_z w64 (of_z w64 (to_z w64 w.y +ℤ to_z w64 k)))
    (get_or row n d)) x_is
    ∙ ap (λ (y : ℤ). change (pos (w.x + p.left + n)) y (get_or row n d)) y_is))

pub returns : goal.returns
returns g c =
    part_end c.args.region.now c.bounds.result c.clip-clip.result c.clip-clip.ensures
    (g.P.Paint.change c.args.paint.now)
    c.bounds.ensures.stays c.args.stride c.args.pixels.now c.loop-j.pixels c.loop-j.j
    c.loop-j-test.false c.loop-j.invariant
