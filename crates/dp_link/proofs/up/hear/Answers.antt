use Rattle.std.proofs.Common.{false, subst, sym, le_refl, arith}
use Rattle.dp_link.specs.Hearing.{HeardMore}
use Rattle.dp_link.proofs.Turns.{heard-nothing, heard-one, heard-end}
use Rattle.dp_link.proofs.up.hear.Goals as goal

pub messages-init : goal.messages-init
messages-init c = record {
  limit = c.requires.limit;
  held = c.requires.held;
  at = le_refl c.args.link.now.stream.at;
  hears = λ left unread start entries given.
      subst (λ l. HeardMore left unread start entries c.args.conn l false c.args.link.now)
      (sym c.clear.ensures.items)
      (heard-nothing left unread start entries c.args.conn c.args.link.now given);
}

pub messages-preserved : goal.messages-preserved
messages-preserved c =
    let was = c.messages.invariant in record {
      limit = c.hear_one.ensures.limit;
      held = c.holds_frame.ensures.0 c.if-not-holds_frame.false;
      at = omega (arith, was.at, c.in-Ok-false.ensures.further);
      hears = λ left unread start entries given.
          let q = was.hears left unread start entries given in
          subst (λ leaves. HeardMore left unread start entries c.args.conn
          c.hear_one.new.says.items leaves c.hear_one.new.link) c.in-Ok-false.field-0-test
          (heard-one left unread start entries c.args.conn c.messages.says.items
          c.hear_one.new.says.items _ c.messages.link c.hear_one.new.link q
          (c.in-Ok-false.ensures.more left unread start _ q.given));
    }

pub returns-in-Ok-true-clause-more : goal.returns-in-Ok-true-clause-more
returns-in-Ok-true-clause-more c = λ left unread start entries given.
    let q = c.messages.invariant.hears left unread start entries given in
    subst (λ leaves. HeardMore left unread start entries c.args.conn
    c.hear_one.new.says.items leaves c.hear_one.new.link) c.in-Ok-true.field-0-test
    (heard-one left unread start entries c.args.conn c.messages.says.items
    c.hear_one.new.says.items _ c.messages.link c.hear_one.new.link q
    (c.in-Ok-true.ensures.more left unread start _ q.given))

pub returns-then-not-holds_frame-clause-more : goal.returns-then-not-holds_frame-clause-more
returns-then-not-holds_frame-clause-more c = λ left unread start entries given.
    let q = c.messages.invariant.hears left unread start entries given in
    subst (λ leaves. HeardMore left unread start entries c.args.conn
    c.hear_one.new.says.items leaves c.hear_one.new.link) c.in-Ok-false.field-0-test
    (heard-one left unread start entries c.args.conn c.messages.says.items
    c.hear_one.new.says.items _ c.messages.link c.hear_one.new.link q
    (c.in-Ok-false.ensures.more left unread start _ q.given))

pub returns-in-Err-clause-ended : goal.returns-in-Err-clause-ended
returns-in-Err-clause-ended c = λ left unread start entries given.
    let q = c.messages.invariant.hears left unread start entries given in
    heard-end left unread start entries c.args.conn c.messages.says.items
    c.hear_one.new.says.items c.in-Err.end c.messages.link q c.in-Err.ensures.same
    (c.in-Err.ensures.ended left unread start _ q.given)
