use Rattle.std.proofs.Common.{ap, sym, ◌∙◌}
use Rattle.std.proofs.lemmas.List.Sorted.{list_any-IsPermutation}
use Rattle.dp_board.specs.Strokes.{is_among}
use Rattle.dp_board.proofs.sorted.SortedGroups.new.Goals as goal

pub returns : goal.returns
returns c = λ group.
    sym (list_any-IsPermutation _ _ _ c.sort_unstable.ensures.permutation)
    ∙ ap (λ xs. is_among xs group) c.in_ok-groups.ensures.items
