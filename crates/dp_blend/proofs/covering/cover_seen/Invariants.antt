use Rattle.std.proofs.Common.{◌≡◌, ◌*◌, take}
use Rattle.dp_blend.specs.Color.{fade}
use Rattle.dp_blend.specs.Blending.{blend}
use Rattle.dp_blend.specs.declared.modes.Mode.{Mode}
use Rattle.dp_blend.proofs.RowLemmas.{changed}
use Rattle.dp_blend.proofs.covering.cover_seen.Given as goal

-- the places before eight times k are blended, and the others are as they were
abbrev pub invariant-loop-k : goal.invariant-loop-k
invariant-loop-k l =
    l.row ≡ changed (λ s d. blend Mode.Normal (fade s 32768) d) (take (8 * l.k) l.sources)
    l.initial.row
