use Rattle.std.proofs.Common.{◌≡◌, ℕ, ◌+◌, ◌-◌, length, get_or, take, drop, ap, ◌∙◌, sym, arith}
use Rattle.std.specs.Prelude.{pos, ◌+ℤ◌}
use Rattle.std.proofs.lemmas.Bool.{cond-true}
use Rattle.std.proofs.lemmas.List.{get_or-take, get_or-drop}
use Rattle.dp_blend.specs.Color.{Channels, clear}
use Rattle.dp_blend.specs.Blending.{blend}
use Rattle.dp_blend.specs.declared.modes.Mode.TheVariants.{Normal}
use Rattle.dp_pixels.specs.Rectangles.{is_in, rect_at}
use Rattle.dp_pixels.specs.Commands.{image_index}
use Rattle.dp_pixels.proofs.Rectangles.{row_in}
use Rattle.dp_pixels.proofs.Images.{image_index-right}
use Rattle.dp_pixels.proofs.Merges.{fade_one}
use Rattle.dp_pixels.proofs.patch.PatchPaint.paint_row.Goals as goal

pub returns : goal.returns
returns c = λ k d within.
    let p = c.args.self.now in
    let place = c.args.place in
    let row = c.args.row.now in
    let area = rect_at p.corner.x p.corner.y p.w p.h in
    let start = c.start-start.result in
    let size_is : start + length row - start ≡ length row = omega arith in
    let at : image_index p.corner.x p.corner.y p.w (place.x +ℤ pos k) place.y ≡ start + k =
    image_index-right p.corner.x p.corner.y p.w k place.x place.y c.requires.left
    ∙ ap (λ (n : ℕ). n + k) (sym c.start-start.ensures.value) in
    let source : get_or (take (start + length row - start) (drop start p.pixels.now)) k clear
    ≡ get_or p.pixels.now (image_index p.corner.x p.corner.y p.w (place.x +ℤ pos k) place.y)
    clear =
    get_or-take (start + length row - start) (drop start p.pixels.now) k clear (omega arith)
    ∙ (get_or-drop start p.pixels.now k clear ∙ ap (λ (n : ℕ). get_or p.pixels.now n clear)
    (sym at)) in
    c.row_merge.ensures.places k clear d within
    ∙ (ap (λ (q : Channels). blend Normal q (get_or row k d))
    (fade_one (get_or (take (start + length row - start) (drop start p.pixels.now)) k clear)
    ∙ source)
    ∙ sym (cond-true (is_in area (place.x +ℤ pos k) place.y) _ (get_or row k d)
    (row_in area place (length row) k c.requires within)))
