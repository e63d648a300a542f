use Rattle.std.proofs.Common.{◌≡◌, ◌∙◌, ◌+◌, ◌≤◌, ℕ, length, ap, sym, arith, add_assoc}
use Rattle.std.proofs.Common.{List}
use Rattle.dp_blend.proofs.Parts.{is_part, parts_same}
use Rattle.dp_tile.specs.Tiles.{grid_pixel, part_of_grid}
use Rattle.dp_tile.specs.Areas.{part}
use Rattle.dp_tile.proofs.Areas.{length-part}
use Rattle.dp_tile.proofs.Stretches.{copied_more, length-copied, length-part_of_grid}
use Rattle.dp_tile.proofs.grid.Grid.copy_part.Goals as goal

-- the n places of a list from a on
length-next : {X : Type 0} (a n : ℕ) (xs : List X) → a + n ≤ length xs
    → length (part a (a + n) xs) ≡ n
length-next a n xs within = length-part a (a + n) xs (omega arith) within ∙ omega arith

pub put_stretch-requires : goal.put_stretch-requires
put_stretch-requires c =
    let g = c.args.self.now in
    let at = c.args.x + c.loop-done.done in
    let n = c.min-count.result in
    let few : c.loop-done.done + n ≤ length c.loop-done.part =
    omega (arith, c.min-count.ensures, c.loop-done-test.true) in (
      part_of_grid g at c.args.y n,
      c.stretch-stretch.ensures,
      length-part_of_grid g at c.args.y n
          ∙ sym (length-next c.loop-done.done n c.loop-done.part few),
    )

pub loop-done-preserved : goal.loop-done-preserved
loop-done-preserved c =
    let g = c.args.self.now in
    let done = c.loop-done.done in
    let at = c.args.x + done in
    let n = c.min-count.result in
    let few : done + n ≤ length c.loop-done.part =
    omega (arith, c.min-count.ensures, c.loop-done-test.true) in
    let f : ℕ → _ = λ i. grid_pixel g (c.args.x + i) c.args.y in
    let are = c.put_stretch.ensures (part_of_grid g at c.args.y n) c.stretch-stretch.ensures
    (length-part_of_grid g at c.args.y n ∙ sym (length-next done n c.loop-done.part few))
    ∙ parts_same (λ i. grid_pixel g (at + i) c.args.y) (λ i. f (done + i)) n
    (λ i _. ap (λ x. grid_pixel g x c.args.y) (add_assoc c.args.x done i)) in
    let len = length-copied f done n c.loop-done.part c.put_stretch.new.part few are in (
      len ∙ c.loop-done.invariant.0,
      omega (arith, len, few),
      copied_more f done n c.loop-done.part c.put_stretch.new.part few are c.loop-done.invariant.2,
    )

pub returns : goal.returns
returns c =
    let f : ℕ → _ = λ i. grid_pixel c.args.self.now (c.args.x + i) c.args.y in
    is_part f (length c.args.part.now) c.loop-done.part c.loop-done.invariant.0
    (λ i few. c.loop-done.invariant.2 i
    (omega (arith, few, c.loop-done.invariant.0, c.loop-done-test.false)))
