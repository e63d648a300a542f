use Rattle.std.proofs.Common.{◌≡◌, length, map, take}
use Rattle.dp_blend.specs.Color.{of_argb}
use Rattle.dp_pixels.specs.declared.dabs.NearDab.{NearDab}
use Rattle.dp_pixels.specs.Commands.{dabs_blended}
use Rattle.dp_ops.specs.Lists.{AddsMore, HaveSame, IsChangedOn, StayOutside, anywhere}
use Rattle.dp_ops.proofs.filing.add_dabs.Given as goal

-- the dabs before the index were added
abbrev pub invariant-loop-dab : goal.invariant-loop-dab
invariant-loop-dab l =
    record {
      first : l.lists.first ≡ l.fn.lists.first;
      len : length l.lists.lists ≡ length l.fn.lists.lists;
      same : HaveSame l.fn.lists l.lists;
      others : StayOutside l.area l.fn.lists l.lists;
      added : IsChangedOn l.area
          (AddsMore anywhere (dabs_blended l.stroke.shape l.stroke.mode (of_argb l.stroke.color)
          (take l.dab-index (map (λ (near : NearDab). near.dab) l.dab-items))))
          l.fn.lists l.lists;
    }
