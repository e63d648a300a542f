use Rattle.std.proofs.Common.{◌∙◌}
use Rattle.std.specs.Vec.Iter.{into_iter_items}
use Rattle.dp_layers.proofs.Pairing.{paired_none, paired_next}
use Rattle.dp_layers.proofs.held.paired.Goals as goal
use Rattle.dp_layers.proofs.held.paired.Goals.{then-row, else-row}

pub loop-row-preserved : goal.loop-row-preserved
loop-row-preserved g c =
    let rows = c.args.rows.now in
    let i = c.loop-row.row-index in
    let row = c.row-item.result in
    let held = c.loop-row.held.items in
    elim c.if-row.branch [
      | then-row w ↦ rw (c.in_ok-hold.ensures.ok, w.x-is, w.rest-is)
          (paired_none rows i row held (into_iter_items c.loop-row.rest) c.loop-row-test.true
          c.row-item.is w.if-row.true ∙ c.loop-row.invariant)
      | else-row w ↦ rw (c.in_ok-hold.ensures.ok, w.x-is, w.rest-is)
          (paired_next rows i row held w.next-x.result (into_iter_items c.loop-row.rest)
          (into_iter_items w.next-x.new.self) c.loop-row.rest.rest.len w.next-x.new.self.rest.len
          c.loop-row.rest.rest.ok.0 w.next-x.new.self.rest.ok.0 c.loop-row-test.true c.row-item.is
          w.if-row.false w.next-x.ensures.cases ∙ c.loop-row.invariant)
    ]
