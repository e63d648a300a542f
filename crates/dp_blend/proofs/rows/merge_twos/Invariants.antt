use Rattle.std.proofs.Common.{◌≡◌, ◌*◌, take}
use Rattle.dp_blend.specs.Color.{fade}
use Rattle.dp_blend.specs.Blending.{blend}
use Rattle.dp_blend.proofs.RowLemmas.{changed}
use Rattle.dp_blend.proofs.rows.merge_twos.Given as goal

-- the places before two times k are blended, and the others are as they were
abbrev pub invariant-loop-k : goal.invariant-loop-k
invariant-loop-k g l =
    l.row ≡ changed (λ s d. blend g.K.Kernel.mode (fade s (g.F.Fading.by l.fading)) d)
    (take (2 * l.k) l.sources) l.initial.row
