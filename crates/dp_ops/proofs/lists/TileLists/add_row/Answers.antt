use Rattle.std.proofs.Common.{arith, refl, ◌+◌, ◌∙◌}
use Rattle.dp_ops.specs.Lists.{AddsMore}
use Rattle.dp_ops.proofs.Waits.{has_fewer, row_next, row_none}
use Rattle.dp_ops.proofs.lists.TileLists.add_row.Goals as goal

pub loop-col-init : goal.loop-col-init
loop-col-init g c = record {
  first = refl;
  len = refl;
  same = λ col row few. refl;
  others = λ col row few out. refl;
  added = row_none (AddsMore (g.S.TileSource.among c.args.source.now)
      (g.S.TileSource.change c.args.source.now)) c.args.row c.args.left
      c.args.self.now;
}

pub loop-col-preserved : goal.loop-col-preserved
loop-col-preserved g c = record {
  first = c.in_ok-add_at.ensures.first ∙ c.loop-col.invariant.first;
  len = c.in_ok-add_at.ensures.len ∙ c.loop-col.invariant.len;
  same = λ col row few. c.in_ok-add_at.ensures.same col row few
      ∙ c.loop-col.invariant.same col row few;
  others = λ col row few out.
      c.in_ok-add_at.ensures.others col row few (λ i. out (record {
        left = omega (arith, i.left, c.loop-col.auto.col);
        right = omega (arith, i.right, c.loop-col-test.true);
        top = i.top;
        bottom = i.bottom;
      }))
      ∙ c.loop-col.invariant.others col row few out;
  added = row_next (AddsMore (g.S.TileSource.among c.args.source.now)
      (g.S.TileSource.change c.args.source.now)) c.args.row c.args.left
      c.loop-col.col c.args.self.now c.loop-col.self c.add_at.new.self
      (omega (arith, c.loop-col.auto.col)) (omega (arith, c.loop-col-test.true, c.requires.cols))
      c.loop-col.invariant.added c.in_ok-add_at.ensures.added;
}

pub returns-in_err-add_at-clause-others : goal.returns-in_err-add_at-clause-others
returns-in_err-add_at-clause-others g c = λ col row few out.
    c.in_err-add_at.ensures.others col row few (λ i. out (record {
      left = omega (arith, i.left, c.loop-col.auto.col);
      right = omega (arith, i.right, c.loop-col-test.true);
      top = i.top;
      bottom = i.bottom;
    }))
    ∙ c.loop-col.invariant.others col row few out

pub add_at-requires-clause-room : goal.add_at-requires-clause-room
add_at-requires-clause-room g c =
    has_fewer c.args.right (c.args.row + 1) c.args.right (c.args.row + 1) c.args.self.now
    c.loop-col.self c.loop-col.invariant.first c.loop-col.invariant.len (omega arith)
    (omega arith) c.requires.room c.loop-col.col c.args.row c.loop-col-test.true
    (omega (arith, c.loop-col.invariant.first, c.requires.first)) (omega arith)
