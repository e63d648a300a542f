use Rattle.std.proofs.Common.{◌+◌, ◌*◌, ◌≤◌, List, ◌∙◌, ap, arith, length, map, refl, sym, take}
use Rattle.std.specs.Prelude.{pos}
use Rattle.std.proofs.lemmas.Bool.{false_from_ne_true}
use Rattle.std.proofs.lemmas.List.{length-map, take_all}
use Rattle.dp_blend.specs.Color.{of_argb}
use Rattle.dp_pixels.specs.declared.dabs.NearDab.{NearDab}
use Rattle.dp_pixels.specs.declared.dabs.PlacedDab.{PlacedDab}
use Rattle.dp_pixels.specs.declared.rect.Rect.{Rect}
use Rattle.dp_pixels.specs.Commands.{dab_blended, dabs_blended, pixel_after}
use Rattle.dp_pixels.specs.Dabs.{dab_rect}
use Rattle.dp_pixels.specs.Rectangles.{is_in}
use Rattle.dp_pixels.proofs.FootLemmas.{dab_stays}
use Rattle.dp_ops.specs.Lists.{anywhere}
use Rattle.dp_ops.proofs.Filed.{adds_none, adds_same, adds_then, dabs_next}
use Rattle.dp_ops.proofs.Waits.{has_fewer}
use Rattle.dp_ops.proofs.filing.add_dabs.Goals as goal

pub loop-dab-init : goal.loop-dab-init
loop-dab-init c = record {
  first = refl;
  len = refl;
  same = λ col row few. refl;
  others = λ col row few out. refl;
  added = adds_none anywhere c.args.area _ c.args.lists.now (λ x y p. refl);
}

pub loop-dab-preserved : goal.loop-dab-preserved
loop-dab-preserved c =
    let s = c.in-Some.stroke in
    let color = of_argb s.color in
    let items = c.deref-dab-items.result.now in
    let placed = map (λ (near : NearDab). near.dab) items in
    let k = c.loop-dab.dab-index in
    let d = c.dab-item.result in
    let add = c.in_ok-add.ensures in
    let before = c.loop-dab.invariant in
    let met = c.cells_met.result in
    let is = c.cells_met.ensures in
    record {
      first = add.first ∙ before.first;
      len = add.len ∙ before.len;
      same = λ col row few. add.same col row few ∙ before.same col row few;
      others = λ col row few out.
          add.others col row few (λ i. out (record {
            left = omega (arith, i.left, is.left);
            right = omega (arith, i.right, is.right);
            top = omega (arith, i.top, is.top);
            bottom = omega (arith, i.bottom, is.bottom);
          }))
          ∙ before.others col row few out;
      added =
          adds_then anywhere c.args.area met (dabs_blended s.shape s.mode color (take k placed))
          (dab_blended s.shape s.mode color d.dab)
          (dabs_blended s.shape s.mode color (take (k + 1) placed)) c.args.lists.now
          c.loop-dab.lists c.add.new.self
          (λ col row i. record {
            left = omega (arith, i.left, is.left);
            right = omega (arith, i.right, is.right);
            top = omega (arith, i.top, is.top);
            bottom = omega (arith, i.bottom, is.bottom);
          })
          c.requires.cols
          (λ col row i j p inside out in_x in_y.
          let x = pos (col * 64 + i) in
          let y = pos (row * 64 + j) in
          dab_stays s.shape s.mode color d.dab x y p
          (false_from_ne_true (is_in (dab_rect d.dab) x y)
          (λ t. out (is.all col row i j inside in_x in_y
          (ap (λ (r : Rect). is_in r x y) c.rect.ensures ∙ t)))))
          (dabs_next s.shape s.mode color items k d c.loop-dab-test.true c.dab-item.is)
          before.added add.added;
    }

pub returns-clause-added : goal.returns-clause-added
returns-clause-added c =
    let s = c.in-Some.stroke in
    let color = of_argb s.color in
    let items = c.deref-dab-items.result.now in
    let f = λ (near : NearDab). near.dab in
    let placed = map f items in
    let k = c.loop-dab.dab-index in
    let end : length placed ≤ k = omega (arith, length-map items f) in
    adds_same anywhere c.args.area (dabs_blended s.shape s.mode color (take k placed))
    (pixel_after c.args.command.now) c.args.lists.now c.loop-dab.lists
    (λ x y p.
    ap (λ (dabs : List PlacedDab). dabs_blended s.shape s.mode color dabs x y p)
    (take_all k placed end ∙ ap (map f) c.deref-dab-items.ensures.value ∙ c.in_ok-dabs.ensures)
    ∙ sym (c.messages_are_their_dabs.ensures.drawn c.args.command.now _ x y p
    c.in-Some.ensures.some))
    c.loop-dab.invariant.added

pub add-requires-clause-room : goal.add-requires-clause-room
add-requires-clause-room c =
    let area = c.args.area in
    let met = c.cells_met.result in
    has_fewer area.right area.bottom met.right met.bottom c.args.lists.now c.loop-dab.lists
    c.loop-dab.invariant.first c.loop-dab.invariant.len c.cells_met.ensures.right
    c.cells_met.ensures.bottom c.requires.room
