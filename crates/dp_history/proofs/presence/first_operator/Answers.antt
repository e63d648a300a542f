use Rattle.std.proofs.Common.{None, Some, is_some, if◌then◌else◌, sym, ap, ◌∙◌}
use Rattle.dp_epochs.specs.State.{user_ids}
use Rattle.dp_history.specs.Users.{mark}
use Rattle.dp_history.proofs.Ranges.{list_any-find}
use Rattle.dp_history.proofs.presence.first_operator.Goals as goal

pub returns-in-Some : goal.returns-in-Some
returns-in-Some c =
    sym (ap (λ b. if b then None else Some c.args.user)
    (list_any-find (mark c.args.present.now) user_ids ∙ ap is_some (sym c.in-Some.ensures)))

pub returns-in-None : goal.returns-in-None
returns-in-None c =
    sym (ap (λ b. if b then None else Some c.args.user)
    (list_any-find (mark c.args.present.now) user_ids ∙ ap is_some (sym c.in-None.ensures)))
