use Rattle.std.proofs.Common.{sym, ap, subst, ◌∙◌}
use Rattle.dp_epochs.specs.State.{is_name}
use Rattle.dp_epochs.specs.Effects.{IsEffect}
use Rattle.dp_tables.specs.SessionLog.{state_in}
use Rattle.dp_tables.proofs.tables.Tables.effect.Goals as goal

pub returns-in_ok-named-in-Open : goal.returns-in_ok-named-in-Open
returns-in_ok-named-in-Open c =
    subst (λ e. IsEffect (state_in c.args.self.now) e c.open_effect.result) (sym c.in-Open.is)
    (c.open_effect.ensures c.in-Open.name c.in-Open.registered
    (c.in_ok-named-in-Open.ensures ∙ ap is_name c.as_slice.ensures))
