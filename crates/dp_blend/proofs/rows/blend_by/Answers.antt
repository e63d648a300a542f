use Rattle.std.proofs.Common.{◌+◌, ◌-◌, ◌*◌, length, sym, ◌∙◌, arith}
use Rattle.dp_blend.specs.Color.{clear}
use Rattle.dp_blend.specs.Blending.{masked}
use Rattle.dp_blend.proofs.RowLemmas.{changed-all, changed-last, changed-two, row_blended-is}
use Rattle.dp_blend.proofs.RowLemmas.{row_blended-places}
use Rattle.dp_blend.proofs.rows.blend_by.Goals as goal

pub loop-k-preserved : goal.loop-k-preserved
loop-k-preserved g c =
    let f = masked g.K.Kernel.mode c.args.src in
    let mask = c.args.mask.now in
    let at = 2 * c.loop-k.k in
    let made = c.blend_two-first.ensures in
    changed-two f mask c.args.row.now c.loop-k.row at (2 * (c.loop-k.k + 1)) 0 0 clear clear _ _
    (omega arith) (omega arith) (omega arith) c.loop-k.invariant made.first made.second

pub returns-then-row-eq1 : goal.returns-then-row-eq1
returns-then-row-eq1 g c =
    let f = masked g.K.Kernel.mode c.args.src in
    let mask = c.args.mask.now in
    let last = length c.loop-k.row - 1 in
    let whole = changed-last f mask c.args.row.now c.loop-k.row (2 * c.loop-k.k) last 0 clear _
    (omega arith) (omega arith) (omega arith) c.loop-k.invariant c.blend_two-only.ensures.first in
    let value = whole ∙ sym (row_blended-is _ _ mask c.args.row.now) in
    record {
      value = value;
      places = row_blended-places _ _ mask c.args.row.now _ value
          c.requires.same_length;
    }

pub returns-else-row-eq1 : goal.returns-else-row-eq1
returns-else-row-eq1 g c =
    let f = masked g.K.Kernel.mode c.args.src in
    let mask = c.args.mask.now in
    let value = changed-all f mask c.args.row.now c.loop-k.row (2 * c.loop-k.k) (omega arith)
    c.loop-k.invariant ∙ sym (row_blended-is _ _ mask c.args.row.now) in
    record {
      value = value;
      places = row_blended-places _ _ mask c.args.row.now _ value
          c.requires.same_length;
    }
