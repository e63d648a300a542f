use Rattle.std.proofs.Common.{◌≡◌, ◌*◌, take}
use Rattle.dp_blend.specs.Color.{fade}
use Rattle.dp_blend.specs.Blending.{blend}
use Rattle.dp_blend.specs.declared.modes.Mode.{Mode}
use Rattle.dp_blend.proofs.RowLemmas.{changed}
use Rattle.dp_blend.proofs.covering.cover.Given as goal

-- k stretches are blended, and the rest is as it was
abbrev pub invariant-loop-k : goal.invariant-loop-k
invariant-loop-k l =
    l.row ≡ changed (λ s d. blend Mode.Normal (fade s 32768) d) (take (l.k * 64) l.sources)
    l.initial.row
