use Rattle.std.proofs.Common.{◌≡◌, ◌∙◌, ap, sym, arith, rules, Bool, true, SFits, w64}
use Rattle.std.specs.Prelude.{◌&&◌, int_lt}
use Rattle.std.specs.Int.{int_max, int_min}
use Rattle.std.proofs.lemmas.Int.{to_z-of_z}
use Rattle.dp_pixels.proofs.rect.Rect.shares_place.Goals as goal

pub returns-then-overlap : goal.returns-then-overlap
returns-then-overlap c =
    let a = c.args.self in
    let b = c.args.other in
    let y0 : SFits w64 a.y0 = search rules in
    let y1 : SFits w64 a.y1 = search rules in
    let v0 : SFits w64 b.y0 = search rules in
    let v1 : SFits w64 b.y1 = search rules in
    let down : c.overlap-then-overlap.result ≡ int_lt (int_max a.y0 b.y0) (int_min a.y1 b.y1) =
    simp to_z-of_z at c.overlap-then-overlap.ensures in
    let across : int_lt (int_max a.x0 b.x0) (int_min a.x1 b.x1) ≡ true =
    first_of (cc, search rules, grind arith) in
    down ∙ ap (λ (p : Bool). p && int_lt (int_max a.y0 b.y0) (int_min a.y1 b.y1)) (sym across)
