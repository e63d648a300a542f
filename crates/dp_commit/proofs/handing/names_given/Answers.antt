use Rattle.std.proofs.Common.{◌≡◌, ◌↔◌, true, is_some, refl, sym, ap, subst, ◌∙◌}
use Rattle.dp_epochs.specs.Resumed.{NamesGiven}
use Rattle.dp_epochs.specs.State.{connection_in}
use Rattle.dp_commit.proofs.handing.names_given.Goals as goal

pub returns-in-Open : goal.returns-in-Open
returns-in-Open c = λ s same.
    subst (λ e. (true ≡ true) ↔ NamesGiven s e) (sym c.in-Open.is) ((λ is. tt), (λ is. refl))

pub returns-in-Say : goal.returns-in-Say
returns-in-Say c = λ s same.
    let is = c.is_some.ensures ∙ ap is_some c.connection.ensures
    ∙ ap (λ cs. is_some (connection_in cs c.in-Say.conn)) same in
    subst (λ e. (c.is_some.result ≡ true) ↔ NamesGiven s e) (sym c.in-Say.is)
    ((λ some. sym is ∙ some), (λ given. is ∙ given))

pub returns-in-Close : goal.returns-in-Close
returns-in-Close c = λ s same.
    let is = c.is_some-in-Close.ensures ∙ ap is_some c.connection-in-Close.ensures
    ∙ ap (λ cs. is_some (connection_in cs c.in-Close.conn)) same in
    subst (λ e. (c.is_some-in-Close.result ≡ true) ↔ NamesGiven s e) (sym c.in-Close.is)
    ((λ some. sym is ∙ some), (λ given. is ∙ given))
