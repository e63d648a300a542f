use Rattle.std.proofs.Common.{◌-◌, ◌++◌, take, drop, length, ap, sym, ◌∙◌}
use Rattle.dp_keeper.proofs.LogLemmas.{page-both}
use Rattle.dp_keeper.proofs.sure.SureKeeper.page.Goals as goal

pub returns : goal.returns
returns c =
    let max = c.args.max in
    let from = c.args.from in
    let first = c.self.inside.first in
    let log = c.self.inside.log in
    c.in_ok-put_page.ensures
    ∙ ap (λ p. p ++ take c.saturating_sub-more.result (drop c.saturating_sub-from.result log))
    c.in_ok-page.ensures
    ∙ ap (λ k. take max (drop from first) ++ take k (drop c.saturating_sub-from.result log))
    (c.saturating_sub-more.ensures
    ∙ ap (λ xs. max - length xs) (c.as_slice.ensures ∙ c.in_ok-page.ensures))
    ∙ ap (λ k. take max (drop from first)
    ++ take (max - length (take max (drop from first))) (drop k log))
    (c.saturating_sub-from.ensures ∙ ap (λ xs. from - length xs) c.as_slice-2.ensures)
    ∙ sym (page-both from max first log)
    ∙ ap (λ rows. take max (drop from rows)) c.self.view_is
