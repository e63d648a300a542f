use Rattle.std.proofs.Common.{◌≡◌, ◌+◌, ◌<◌, ◌≤◌, ap, sym, ◌∙◌, ⊎_elim, arith, true, subst}
use Rattle.std.proofs.Common.{map}
use Rattle.std.specs.List.{list_all}
use Rattle.std.proofs.lemmas.Bool.{false_from_ne_true, false≢true, cases_lt}
use Rattle.dp_blend.specs.Canvas.{below, pixel_at}
use Rattle.dp_snap.specs.Tiles.{is_same, on_canvas}
use Rattle.dp_snap.proofs.Tests.{row_passes, row_at, canvas_passes, canvas_at, row_of_tile}
use Rattle.dp_snap.proofs.tile.are_same.Goals as goal

pub returns-then-not-is_row_same : goal.returns-then-not-is_row_same
returns-then-not-is_row_same c =
    let test = is_same c.args.pixel in
    let tile = c.args.tile.now in
    let y = c.loop-y.y in
    let cols = c.args.cols in
    sym (false_from_ne_true (list_all test (on_canvas cols c.args.rows tile)) (λ pass.
    false≢true (sym c.if-not-is_row_same.true ∙ c.is_row_same.ensures
    ∙ ap (list_all test) (row_of_tile tile y cols (omega arith))
    ∙ row_passes test cols (λ x. pixel_at 64 tile x y) (λ x in_x.
    canvas_at test cols c.args.rows (pixel_at 64 tile) pass x y in_x (omega arith)))))

pub loop-y-preserved : goal.loop-y-preserved
loop-y-preserved c =
    let test = is_same c.args.pixel in
    let tile = c.args.tile.now in
    let y = c.loop-y.y in
    let cols = c.args.cols in
    let row : list_all test (map (λ x. pixel_at 64 tile x y) (below cols)) ≡ true =
    sym (ap (list_all test) (row_of_tile tile y cols (omega arith)))
    ∙ sym c.is_row_same.ensures ∙ c.if-not-is_row_same.false in
    canvas_passes test cols (y + 1) (pixel_at 64 tile) (λ x k in_x in_k.
    ⊎_elim
    (λ (above : k < y).
    canvas_at test cols y (pixel_at 64 tile) c.loop-y.invariant x k in_x above)
    (λ (not_above : y ≤ k).
    let here : y ≡ k = omega arith in
    subst (λ j. test (pixel_at 64 tile x j) ≡ true) here
    (row_at test cols (λ i. pixel_at 64 tile i y) row x in_x))
    (cases_lt k y))
