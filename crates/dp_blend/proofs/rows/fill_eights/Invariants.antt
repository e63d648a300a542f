use Rattle.std.proofs.Common.{◌≡◌, ◌*◌, take}
use Rattle.dp_blend.specs.Blending.{blend}
use Rattle.dp_blend.proofs.RowLemmas.{changed}
use Rattle.dp_blend.proofs.rows.fill_eights.Given as goal

-- the places before eight times k are blended, and the others are as they were
abbrev pub invariant-loop-k : goal.invariant-loop-k
invariant-loop-k g l =
    l.row ≡ changed (λ _ d. blend (g.F.Fill.mode l.fill) (g.F.Fill.source l.fill) d)
    (take (8 * l.k) l.initial.row) l.initial.row
