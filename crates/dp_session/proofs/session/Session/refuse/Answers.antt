use Rattle.std.proofs.Common.{refl, ap}
use Rattle.dp_epochs.specs.Past.{refused}
use Rattle.dp_session.proofs.SessionLemmas.{on-err}
use Rattle.dp_session.proofs.session.Session.refuse.Goals as goal

pub returns-in_err-make_room-clause-err : goal.returns-in_err-make_room-clause-err
returns-in_err-make_room-clause-err g c =
    on-err c.from_residual.result _ (rw c.make_room.ensures.same c.self.view_is)

pub returns-clause-refused : goal.returns-clause-refused
returns-clause-refused g c = record {
  reply = refl;
  after = rw (c.leave_out.ensures, c.make_room.ensures.same)
      (ap (λ p. refused p c.args.event.now) c.self.view_is);
}
