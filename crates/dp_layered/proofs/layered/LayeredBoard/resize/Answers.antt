use Rattle.std.proofs.Common.{◌≡◌, ◌∙◌, ℕ, ap, subst, w32}
use Rattle.std.specs.Prelude.{FitsSigned}
use Rattle.std.proofs.lemmas.Int.{to_z-of_z}
use Rattle.dp_layers.specs.Rows.{map_contents}
use Rattle.dp_pixels.specs.Resizes.{pixels_resized}
use Rattle.dp_plain.specs.Board.{Board}
use Rattle.dp_plain.specs.Commands.{resized}
use Rattle.dp_plain.proofs.Resizes.{resized_by}
use Rattle.dp_layered.proofs.layered.LayeredBoard.resize.Goals as goal

pub returns-clause-ok : goal.returns-clause-ok
returns-clause-ok g c =
    let top : FitsSigned w32 c.args.top = c.ranges.top in
    let right : FitsSigned w32 c.args.right = c.ranges.right in
    let bottom : FitsSigned w32 c.args.bottom = c.ranges.bottom in
    let left : FitsSigned w32 c.args.left = c.ranges.left in
    let change = c.in-Some.change in
    let of = simp to_z-of_z at c.in-Some.ensures.value in
    let inside = c.self.inside in
    let contents = λ (w h : ℕ). map_contents (g.C.LayerPixels.pixels w h) inside.tree in
    let view : Board = record {
      width = inside.width;
      height = inside.height;
      background = inside.background;
      rows = contents inside.width inside.height;
    } in
    let rows = map_contents (g.C.LayerPixels.pixels change.new_width change.new_height)
    c.in_ok-self-inside.field-0 in
    let new : Board = record {
      width = change.new_width;
      height = change.new_height;
      background = inside.background;
      rows = rows;
    } in
    subst (λ (b : Board). new ≡ resized b c.args.top c.args.right c.args.bottom c.args.left)
    c.self.view_is
    (resized_by view c.args.top c.args.right c.args.bottom c.args.left change rows of
    (c.in_ok-self-inside.ensures.pixels
    ∙ ap (λ (n : ℕ). map_contents (pixels_resized change) (contents n change.height)) of.from_width
    ∙ ap (λ (n : ℕ). map_contents (pixels_resized change) (contents inside.width n))
    of.from_height))
