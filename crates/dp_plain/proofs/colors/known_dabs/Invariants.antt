use Rattle.std.proofs.Common.{◌<◌, ◌^◌}
use Rattle.std.specs.List.{AllWithin}
use Rattle.dp_msg_draw.specs.declared.lists.Dab.{Dab}
use Rattle.dp_plain.proofs.colors.known_dabs.Given as goal

-- the dabs before the place fit
abbrev pub invariant-loop-dab : goal.invariant-loop-dab
invariant-loop-dab l = AllWithin (λ (dab : Dab). dab.opacity < 2 ^ 8) l.dabs 0 l.dab-index
