use Rattle.std.proofs.Common.{◌≡◌, ◌∙◌, [], ap, arith, sym}
use Rattle.std.proofs.lemmas.List.{nil_from_length}
use Rattle.std.specs.List.{fold}
use Rattle.dp_plain.specs.Commands.{draw}
use Rattle.dp_savepoints.specs.Kept.{drawn_among}
use Rattle.dp_player.proofs.ahead.read_beside.Goals as goal

pub returns-then-is_empty-clause-drawn : goal.returns-then-is_empty-clause-drawn
returns-then-is_empty-clause-drawn g c = λ drawn.
    let acts = c.as_slice.result.now in
    let none : acts ≡ [] =
    nil_from_length acts (grind (arith, c.is_empty.ensures, c.if-is_empty.true)) in
    ap (λ xs. fold draw c.args.behind.now.board (drawn_among xs))
    (sym (sym c.as_slice.ensures.value ∙ none))
