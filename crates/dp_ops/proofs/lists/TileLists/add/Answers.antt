use Rattle.std.proofs.Common.{ap, arith, length, subst, sym, ◌+◌, ◌∙◌}
use Rattle.dp_ops.specs.Lists.{AddsMore, IsChangedOn, Lists, list_at, listed_at}
use Rattle.dp_ops.proofs.Waits.{has_fewer, rows_next, rows_none, rows_to}
use Rattle.dp_ops.proofs.lists.TileLists.add.Goals as goal

pub loop-row-init : goal.loop-row-init
loop-row-init g c =
    let view = c.self.view_is in
    let change = AddsMore (g.S.TileSource.among c.args.source.now)
    (g.S.TileSource.change c.args.source.now) in
    let area = c.args.area in
    record {
      first = ap (λ (l : Lists). l.first) view;
      len = ap (λ (l : Lists). length l.lists) view;
      same = λ col row few. ap (λ (l : Lists). listed_at l col row) view;
      others = λ col row few out. ap (λ (l : Lists). list_at l col row) view;
      added = subst (IsChangedOn (rows_to area area.top) change c.args.self.now) (sym view)
          (rows_none change area c.args.self.now);
    }

pub loop-row-preserved : goal.loop-row-preserved
loop-row-preserved g c = record {
  first = c.in_ok-add_row.ensures.first ∙ c.loop-row.invariant.first;
  len = c.in_ok-add_row.ensures.len ∙ c.loop-row.invariant.len;
  same = λ col row few. c.in_ok-add_row.ensures.same col row few
      ∙ c.loop-row.invariant.same col row few;
  others = λ col row few out.
      c.in_ok-add_row.ensures.others col row few (λ i. out (record {
        left = i.left;
        right = i.right;
        top = omega (arith, i.top, c.loop-row.auto.row);
        bottom = omega (arith, i.bottom, c.loop-row-test.true);
      }))
      ∙ c.loop-row.invariant.others col row few out;
  added = rows_next (AddsMore (g.S.TileSource.among c.args.source.now)
      (g.S.TileSource.change c.args.source.now)) c.args.area c.loop-row.row
      c.args.self.now c.loop-row.self c.add_row.new.self (omega (arith, c.loop-row.auto.row))
      c.requires.cols c.loop-row.invariant.added c.in_ok-add_row.ensures.added;
}

pub returns-in_err-add_row-clause-others : goal.returns-in_err-add_row-clause-others
returns-in_err-add_row-clause-others g c = λ col row few out.
    c.in_err-add_row.ensures.others col row few (λ i. out (record {
      left = i.left;
      right = i.right;
      top = omega (arith, i.top, c.loop-row.auto.row);
      bottom = omega (arith, i.bottom, c.loop-row-test.true);
    }))
    ∙ c.loop-row.invariant.others col row few out

pub add_row-requires-clause-room : goal.add_row-requires-clause-room
add_row-requires-clause-room g c =
    let area = c.args.area in
    has_fewer area.right area.bottom area.right (c.loop-row.row + 1) c.args.self.now
    c.loop-row.self c.loop-row.invariant.first c.loop-row.invariant.len (omega arith)
    (omega (arith, c.loop-row-test.true)) c.requires.room
