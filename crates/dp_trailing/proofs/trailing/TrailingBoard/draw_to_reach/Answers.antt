use Rattle.std.proofs.Common.{◌≡◌, ◌-◌, ap, arith, length}
use Rattle.dp_savepoints.specs.Kept.{commands_among}
use Rattle.dp_trailing.proofs.TrailingLemmas.{length-drawn_up_to}
use Rattle.dp_trailing.proofs.trailing.TrailingBoard.draw_to_reach.Goals as goal

pub returns-clause-few_draws : goal.returns-clause-few_draws
returns-clause-few_draws g c =
    let count = c.oldest-first.result - c.self.inside.base in
    let kept = c.self.inside.kept.items in
    let same : kept ≡ c.args.self.now.kept = ap (λ t. t.kept) c.self.view_is in
    omega (
      arith,
      c.draw_kept.ensures.few_draws,
      ap (λ xs. length (commands_among xs)) c.deref.ensures.value,
      ap (λ xs. length (commands_among xs)) c.in_ok-given.ensures.given,
      ap (λ xs. length (commands_among xs)) c.in_ok-given.ensures.items,
      length-drawn_up_to count kept,
      ap (λ xs. length (commands_among xs)) same,
    )
