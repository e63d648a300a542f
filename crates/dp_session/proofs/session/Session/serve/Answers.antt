use Rattle.std.proofs.Common.{refl, ap, sym, ◌∙◌}
use Rattle.dp_session.proofs.SessionLemmas.{past-kept, past-failed, past-undone, past-ended}
use Rattle.dp_session.proofs.SessionLemmas.{past-broken, none-of, on-err}
use Rattle.dp_session.proofs.session.Session.serve.Goals as goal

pub same-self : goal.same-self
same-self g c = refl

pub same-self-in_err-ready : goal.same-self-in_err-ready
same-self-in_err-ready g c = refl

pub same-self-in_default-2 : goal.same-self-in_default-2
same-self-in_default-2 g c = refl

pub returns-in-Some-clause-served : goal.returns-in-Some-clause-served
returns-in-Some-clause-served g c =
    past-broken c.args.self.now c.refuse.new.self c.args.event.now c.refuse.result c.in-Some.count
    (ap (λ p. p.first_fault) (sym c.self.view_is) ∙ c.in-Some.is) c.refuse.ensures.refused

pub returns-in-Some-clause-err : goal.returns-in-Some-clause-err
returns-in-Some-clause-err g c = c.refuse.ensures.err

pub returns-in_err-ready-clause-err : goal.returns-in_err-ready-clause-err
returns-in_err-ready-clause-err g c = on-err c.from_residual.result _ refl

pub returns-in_default-2-clause-served : goal.returns-in_default-2-clause-served
returns-in_default-2-clause-served g c =
    past-ended c.args.self.now c.self.inside.tables c.args.event.now c.self.inside.first_fault _ _
    _ c.self.view_is c.in_default.not-Some c.refuse-in_default-2.new.self
    c.refuse-in_default-2.result
    (none-of c.in_ok-ready.field-0 _ _ c.in_default-2.not-Some c.in_ok-ready.ensures)
    c.refuse-in_default-2.ensures.refused

pub returns-in_default-2-clause-err : goal.returns-in_default-2-clause-err
returns-in_default-2-clause-err g c = c.refuse-in_default-2.ensures.err

pub put-requires : goal.put-requires
put-requires g c = rw c.in-Some-2.is at c.in_ok-ready.ensures

pub returns-in-Ok-clause-served : goal.returns-in-Ok-clause-served
returns-in-Ok-clause-served g c =
    let ready = rw c.in-Some-2.is at c.in_ok-ready.ensures in
    past-kept c.args.self.now c.self.inside.tables c.args.event.now c.self.inside.first_fault _ _
    _ c.self.view_is c.in_default.not-Some c.put.new.tables _ _ _ c.in-Some-2.ready ready
    c.in-Ok.reply c.in-Ok.ensures.outcome c.in-Ok.ensures.rows c.in-Ok.ensures.count
    c.put.ensures.others

pub returns-in-Err-Memory-clause-err : goal.returns-in-Err-Memory-clause-err
returns-in-Err-Memory-clause-err g c =
    let undone = rw c.in-Err-Memory.field-0-is at c.in-Err-Memory.ensures.outcome in
    let rows = rw c.in-Err-Memory.field-0-is at c.in-Err-Memory.ensures.rows in
    let counts = rw c.in-Err-Memory.field-0-is at c.in-Err-Memory.ensures.count in
    past-undone c.args.self.now c.self.inside.tables c.put.new.tables c.args.event.now
    c.self.inside.first_fault _ _ _ _ _ _ c.self.view_is undone rows counts c.put.ensures.others

pub returns-in-Err-Failed-clause-served : goal.returns-in-Err-Failed-clause-served
returns-in-Err-Failed-clause-served g c =
    let ready = rw c.in-Some-2.is at c.in_ok-ready.ensures in
    let out = rw c.in-Err-Failed.field-0-is at c.in-Err-Failed.ensures.outcome in
    let rows = rw c.in-Err-Failed.field-0-is at c.in-Err-Failed.ensures.rows in
    let rose = rw c.in-Err-Failed.field-0-is at c.in-Err-Failed.ensures.count in
    past-failed c.args.self.now c.self.inside.tables c.args.event.now c.self.inside.first_fault _ _
    _ c.self.view_is c.in_default.not-Some c.put.new.tables _ _ _ c.in-Some-2.ready ready
    c.count-count.result out rows rose c.put.ensures.others c.count-count.ensures
