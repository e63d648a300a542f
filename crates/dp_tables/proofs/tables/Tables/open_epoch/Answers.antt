use Rattle.std.proofs.Common.{◌+◌, ap, sym, subst, ◌∙◌, arith, IfOk}
use Rattle.dp_acl.specs.Opening.{opening}
use Rattle.dp_epochs.specs.State.{epoch_of, kept_by, present_users, sent_commands}
use Rattle.dp_history.specs.Openings.{Holds}
use Rattle.dp_commit.specs.Tables.{AreOf, seen_in}
use Rattle.dp_tables.specs.SessionLog.{state_in}
use Rattle.dp_tables.proofs.TableLemmas.{of-ledger, live-fits, epoch-fits}
use Rattle.dp_tables.proofs.tables.Tables.open_epoch.Goals as goal

pub open_next-requires-clause-of : goal.open_next-requires-clause-of
open_next-requires-clause-of c =
    let t = c.self.inside in
    let s = state_in c.args.self.now in (
      s,
      subst (λ j. AreOf s (seen_in j t.roster t.sending t.live)) (sym c.deref.ensures.value)
          (of-ledger t c.args.self.now c.self.invariant c.self.view_is),
    )

pub open_next-requires-clause-few : goal.open_next-requires-clause-few
open_next-requires-clause-few c =
    omega (arith, epoch-fits c.epochs_are_few.ensures c.self.inside c.self.invariant)

pub open_next-requires-clause-short : goal.open_next-requires-clause-short
open_next-requires-clause-short c =
    live-fits c.histories_are_short.ensures c.self.inside c.self.invariant

pub returns : goal.returns
returns c =
    let t = c.self.inside in
    let s = state_in c.args.self.now in
    subst (λ j. IfOk c.open_next.result (λ o. Holds j o
    (opening (epoch_of s + 1) s.live (present_users s) (sent_commands s.stream)
    (kept_by s.stream s.live))))
    (c.deref.ensures.value ∙ ap (λ l. l.journal) c.self.view_is)
    (c.open_next.ensures s
    (subst (λ j. AreOf s (seen_in j t.roster t.sending t.live)) (sym c.deref.ensures.value)
    (of-ledger t c.args.self.now c.self.invariant c.self.view_is)))
