use Rattle.std.proofs.Common.{◌≡◌, ◌*◌, take}
use Rattle.dp_blend.specs.Blending.{masked}
use Rattle.dp_blend.proofs.RowLemmas.{changed}
use Rattle.dp_blend.proofs.rows.blend_by.Given as goal

-- the places before two times k are blended, and the others are as they were
abbrev pub invariant-loop-k : goal.invariant-loop-k
invariant-loop-k g l = l.row ≡ changed (masked g.K.Kernel.mode l.src) (take (2 * l.k) l.mask)
    l.initial.row
