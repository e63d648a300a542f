use Rattle.std.proofs.Common.{ap, ◌∙◌, subst}
use Rattle.std.specs.List.Sorted.{IsBinarySearchResult}
use Rattle.std.specs.Ordering.{nat_cmp}
use Rattle.dp_board.specs.Strokes.{is_among}
use Rattle.dp_board.proofs.SortedLemmas.{is_ok-search}
use Rattle.dp_board.proofs.sorted.SortedGroups.contains.Goals as goal

pub returns : goal.returns
returns c =
    let xs = c.self.inside.groups.items in
    let found = subst (λ ys. IsBinarySearchResult (λ y. nat_cmp y c.args.group) ys
    c.binary_search.result) c.deref.ensures.value c.binary_search.ensures.position in
    c.is_ok.ensures.value
    ∙ is_ok-search xs c.args.group c.binary_search.result c.self.invariant found
    ∙ ap (λ ys. is_among ys c.args.group) c.self.view_is
