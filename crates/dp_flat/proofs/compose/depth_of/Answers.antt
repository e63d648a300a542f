-- If no row is a group, one level is enough.
use Rattle.std.proofs.Common.{◌≡◌, true, false, rules, tests, subst, length, List}
use Rattle.std.specs.List.{AllWithin}
use Rattle.std.proofs.lemmas.Bool.{MatchBool-at_false}
use Rattle.std.proofs.lemmas.Iterator.{cases_from_any, YieldsList-from_slice}
use Rattle.dp_layers.specs.declared.row.LayerRow.{LayerRow}
use Rattle.dp_flat.proofs.Composed.{deep_flat}
use Rattle.dp_flat.proofs.compose.depth_of.Goals as goal

pub returns-else-any-clause-deep : goal.returns-else-any-clause-deep
returns-else-any-clause-deep g c =
    let rows = c.rows.result.now in
    let paints : AllWithin (λ (r : LayerRow). r.group ≡ false) rows 0 (length rows) =
    MatchBool-at_false _ _ c.if-any.false
    (cases_from_any _ _ _ (λ (r : LayerRow). r.group ≡ true) (λ r. r.group ≡ false)
    c.any.ensures.ran (YieldsList-from_slice rows cc)
    (λ x q k. search (rules, tests)) (λ x q k. search (rules, tests))) in
    deep_flat (g.V.BoardView.board c.args.board.now)
    (subst (λ (l : List LayerRow). AllWithin (λ (r : LayerRow). r.group ≡ false) l 0 (length l))
    c.rows.ensures paints)
