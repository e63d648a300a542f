use Rattle.std.proofs.Common.{refl, ◌∙◌}
use Rattle.dp_session.proofs.SessionLemmas.{quieted-is, quieted-other}
use Rattle.dp_session.proofs.session.Session.take.Goals as goal

pub same-self : goal.same-self
same-self g c = refl

pub same-self-in-Err : goal.same-self-in-Err
same-self-in-Err g c = refl

pub returns-in-Ok : goal.returns-in-Ok
returns-in-Ok g c = c.in-Ok.ensures.served

pub returns-in-Close : goal.returns-in-Close
returns-in-Close g c =
    quieted-is c.args.self.now c.self.inside.tables c.quieten.new.self _ c.args.event.now
    c.in-Close.conn c.self.inside.first_fault _ _ _ (c.self.view_is ∙ c.in-Err.ensures.err)
    c.in-Close.is c.quieten.ensures

pub returns-in_default : goal.returns-in_default
returns-in_default g c =
    c.in-Err.ensures.err ∙ quieted-other c.args.self.now c.args.event.now c.in_default.not-Close
