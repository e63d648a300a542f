use Rattle.std.proofs.Common.{◌≡◌, ◌||◌, false, List, get_or, arith, ap, ◌∙◌, sym}
use Rattle.std.specs.List.{list_any}
use Rattle.std.proofs.lemmas.List.{take_all}
use Rattle.std.proofs.lemmas.List.Folds.{list_any_more, list_any_at}
use Rattle.dp_pixels.specs.declared.dabs.PlacedDab.{PlacedDab}
use Rattle.dp_pixels.specs.Dabs.{dab_covers, placed_dabs}
use Rattle.dp_pixels.proofs.Strokes.{IsNext, next_is, length-placed_dabs}
use Rattle.dp_pixels.proofs.dabs.DabRun.covers.Goals as goal
use Rattle.dp_pixels.proofs.dabs.DabRun.covers.Goals.{After-placed_after-placed}

-- the dab is the next of the list
next : (c : After-placed_after-placed) → IsNext c.args.self.at.x c.args.self.at.y
    c.args.self.dabs.now c.loop-dab.dab-index c.placed_after-placed.result
next c =
    let s = c.args.self in
    let made = c.placed_after-placed.ensures in
    next_is s.at.x s.at.y s.dabs.now c.loop-dab.dab-index c.loop-dab.last
    c.placed_after-placed.result c.loop-dab-test.true made.value made.near_x made.near_y
    c.loop-dab.invariant.last

pub covers-requires : goal.covers-requires
covers-requires c =
    let near = (next (goal.at.covers-requires c).After-placed_after-placed).last.near in
    let short = c.args.self.short in
    let test = c.loop-dab-test.true in
    record { x = omega (arith, near.x, short, test); y = omega (arith, near.y, short, test) }

pub returns-then-covers : goal.returns-then-covers
returns-then-covers c =
    let s = c.args.self in
    let is_next = next (goal.at.returns-then-covers c).After-placed_after-placed in
    let covers_place = λ (dab : PlacedDab). dab_covers s.shape dab c.args.place.x c.args.place.y in
    sym (list_any_at covers_place (placed_dabs s.at.x s.at.y s.dabs.now) c.loop-dab.dab-index
    c.placed_after-placed.result is_next.within
    (ap covers_place is_next.is ∙ (sym c.covers.ensures ∙ c.if-covers.true)))

pub loop-dab-preserved : goal.loop-dab-preserved
loop-dab-preserved c =
    let s = c.args.self in
    let is_next = next (goal.at.loop-dab-preserved c).After-placed_after-placed in
    let covers_place = λ (dab : PlacedDab). dab_covers s.shape dab c.args.place.x c.args.place.y in
    let here : covers_place (get_or (placed_dabs s.at.x s.at.y s.dabs.now) c.loop-dab.dab-index
    c.placed_after-placed.result) ≡ false =
    ap covers_place is_next.is ∙ (sym c.covers.ensures ∙ c.if-covers.false) in
    record {
      last = is_next.last;
      none = list_any_more covers_place (placed_dabs s.at.x s.at.y s.dabs.now) c.loop-dab.dab-index
          c.placed_after-placed.result is_next.within
          ∙ (ap (λ (t : _). t || covers_place (get_or (placed_dabs s.at.x s.at.y s.dabs.now)
          c.loop-dab.dab-index c.placed_after-placed.result)) c.loop-dab.invariant.none ∙ here);
    }

pub returns : goal.returns
returns c =
    let s = c.args.self in
    let covers_place = λ (dab : PlacedDab). dab_covers s.shape dab c.args.place.x c.args.place.y in
    sym c.loop-dab.invariant.none
    ∙ ap (λ (l : List PlacedDab). list_any covers_place l)
    (take_all c.loop-dab.dab-index (placed_dabs s.at.x s.at.y s.dabs.now)
    (omega (arith, length-placed_dabs s.at.x s.at.y s.dabs.now)))
