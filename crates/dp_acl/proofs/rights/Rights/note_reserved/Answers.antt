use Rattle.std.proofs.Common.{sym, subst, arith}
use Rattle.dp_acl.specs.Step.{IsKeptAfter}
use Rattle.dp_acl.proofs.StepLemmas.{stands-push, kept-other}
use Rattle.dp_acl.proofs.rights.Rights.note_reserved.Goals as goal

pub returns-in-Meta-clause-stands : goal.returns-in-Meta-clause-stands
returns-in-Meta-clause-stands c = λ history stands.
    stands-push c.args.self.now c.note_meta.new.self history c.args.entry.now
    (subst (λ m. IsKeptAfter c.args.self.now
    (record { user = c.args.entry.now.user; msg = m }) c.note_meta.new.self)
    (sym c.in-Meta.is) c.note_meta.ensures.kept) stands

pub returns-in_default : goal.returns-in_default
returns-in_default c = record {
  stands = λ history stands. stands-push c.args.self.now c.args.self.now history c.args.entry.now
      (kept-other c.args.self.now c.args.entry.now.user c.args.entry.now.msg c.in_default.not-Meta)
      stands;
  room = omega arith;
}
