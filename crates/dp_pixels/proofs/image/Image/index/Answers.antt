use Rattle.std.proofs.Common.{◌*◌, ◌+◌, ap, ◌∙◌, arith, rules, SFits, w64}
use Rattle.std.specs.Prelude.{ℕ, pos, ◌-ℤ◌, unsigned_abs}
use Rattle.dp_pixels.specs.Rectangles.{rect_at}
use Rattle.dp_pixels.proofs.Rectangles.{is_in-true}
use Rattle.dp_pixels.proofs.Images.{IsOffset, offset, offset_is, index_fits}
use Rattle.dp_pixels.proofs.image.Image.index.Goals as goal
use Rattle.dp_pixels.proofs.image.Image.index.Goals.{Start}

-- the place is so far right of the corner
column : (c : Start) → IsOffset c.args.place.x c.args.self.x c.args.self.w
column c =
    let s = c.args.self in
    let inside = is_in-true (rect_at (pos s.x) (pos s.y) s.w s.h) c.args.place.x c.args.place.y
    c.requires in
    let fits : SFits w64 c.args.place.x = search rules in
    offset_is c.args.place.x s.x s.w fits (omega arith) (omega arith) inside.x0 inside.x1

-- and so far below it
row : (c : Start) → IsOffset c.args.place.y c.args.self.y c.args.self.h
row c =
    let s = c.args.self in
    let inside = is_in-true (rect_at (pos s.x) (pos s.y) s.w s.h) c.args.place.x c.args.place.y
    c.requires in
    let fits : SFits w64 c.args.place.y = search rules in
    offset_is c.args.place.y s.y s.h fits (omega arith) (omega arith) inside.y0 inside.y1

pub overflow_add-result : goal.overflow_add-result
overflow_add-result c =
    let s = c.args.self in
    let across = column (goal.at.overflow_add-result c).Start in
    let down = row (goal.at.overflow_add-result c).Start in
    record {
      fits = index_fits (offset c.args.place.y s.y) (offset c.args.place.x s.x) s.w s.h
          down.small across.small (omega arith) (omega arith);
    }

pub returns : goal.returns
returns c =
    let s = c.args.self in
    let across = column (goal.at.returns c).Start in
    let down = row (goal.at.returns c).Start in
    ap (λ (n : ℕ). n * s.w + offset c.args.place.x s.x) down.value
    ∙ ap (λ (n : ℕ). unsigned_abs (c.args.place.y -ℤ pos s.y) * s.w + n) across.value
