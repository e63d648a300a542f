-- One pixel after the other.
use Rattle.std.proofs.Common.{◌≡◌, ◌+◌, ◌*◌, [], ◌∷◌, ap, arith, map, ◌∙◌}
use Rattle.dp_blend.specs.Canvas.{below}
use Rattle.dp_plain.specs.Picture.{seen}
use Rattle.dp_drill.specs.Summary.{plus, sums_of}
use Rattle.dp_drill.proofs.Sums.{at-more, pixel-more, plus-none}
use Rattle.dp_drill.proofs.summary.with_row.Goals as goal

pub loop-x-init : goal.loop-x-init
loop-x-init g c = record {
  sums = plus-none c.args.before;
  small = λ most h. at-more most (most + 0 * 255) c.args.before (omega arith) h;
}

pub with_pixel-sums-requires : goal.with_pixel-sums-requires
with_pixel-sums-requires g c =
    let wide = c.width-x-end.ensures.board.width in
    at-more (4278190080 + c.loop-x.x * 255) 8589934592 c.loop-x.sums
    (omega (arith, wide, c.width-x-end.ensures.value, c.loop-x-test.true))
    (c.loop-x.invariant.small 4278190080 c.requires.small)

pub loop-x-preserved : goal.loop-x-preserved
loop-x-preserved g c =
    let board = g.V.BoardView.board c.args.board.now in
    let x = c.loop-x.x in
    let now = c.loop-x.sums in
    let next = c.with_pixel-sums.result in record {
      sums = pixel-more (λ i. seen board i c.args.y) c.args.before now next x
          c.loop-x.invariant.sums
          (c.with_pixel-sums.ensures.sums
          ∙ ap (λ p. plus now (sums_of (p ∷ []))) c.flatten.ensures);
      small = λ most h.
          at-more (most + x * 255 + 255) (most + (x + 1) * 255) next (omega arith)
          (c.with_pixel-sums.ensures.more (most + x * 255) (c.loop-x.invariant.small most h));
    }

pub returns-clause-sums : goal.returns-clause-sums
returns-clause-sums g c =
    let board = g.V.BoardView.board c.args.board.now in
    let end : c.loop-x.x ≡ board.width =
    omega (arith, c.loop-x-test.false, c.loop-x.auto.x-end, c.width-x-end.ensures.value) in
    c.loop-x.invariant.sums
    ∙ ap (λ n. plus c.args.before (sums_of (map (λ x. seen board x c.args.y) (below n)))) end

pub returns-clause-more : goal.returns-clause-more
returns-clause-more g c = λ most h.
    let wide = c.width-x-end.ensures.board.width in
    at-more (most + c.loop-x.x * 255) (most + 1044480) c.loop-x.sums
    (omega (arith, wide, c.width-x-end.ensures.value, c.loop-x.auto.x-end))
    (c.loop-x.invariant.small most h)
