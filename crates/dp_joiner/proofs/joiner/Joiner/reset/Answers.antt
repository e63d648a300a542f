use Rattle.std.proofs.Common.{refl}
use Rattle.std.proofs.lemmas.Result.{err_from_is_err_and}
use Rattle.dp_joiner.specs.Joining.{Joining, reset_by}
use Rattle.dp_joiner.proofs.Moving.{changes_last, drew_none, fails_first, resets_adds, resets_leads}
use Rattle.dp_joiner.proofs.joiner.Joiner.reset.Goals as goal

pub returns-in_err-count-clause-changes : goal.returns-in_err-count-clause-changes
returns-in_err-count-clause-changes g c = λ draws tiles.
    let p = err_from_is_err_and c.from_residual.result c.from_residual.ensures.1 in
    rw (p.1, p.2, ← c.self.view_is) (fails_first _ _ (λ (j : Joining). reset_by c.args.keeps j)
    _ _ _
    (resets_adds c.self.inside.client c.self.inside.chats c.args.keeps _ refl)
    (drew_none _ draws tiles) refl c.in_err-count.field-0.0 c.in_err-count.ensures.prefix refl refl
    c.in_err-count.ensures.fault)

pub returns-clause-changes : goal.returns-clause-changes
returns-clause-changes g c = λ draws tiles.
    rw (← c.self.view_is) (changes_last _ _ (λ (j : Joining). reset_by c.args.keeps j) _ _ _
    (resets_adds c.self.inside.client c.self.inside.chats c.args.keeps c.in_ok-count.count
    c.in_ok-count.ensures.count)
    (drew_none _ draws tiles) refl c.print_sent.result
    (resets_leads c.self.inside.client c.self.inside.chats c.args.keeps)
    c.in_ok-count.ensures.written c.in_ok-count.ensures.kept
    c.print_sent.ensures.written c.print_sent.ensures.prefix c.print_sent.ensures.kept
    c.print_sent.ensures.fault)
