use Rattle.std.proofs.Common.{All, IfOk, sym, subst, ap, ◌≡◌}
use Rattle.dp_history.specs.Items.{IsIn}
use Rattle.dp_epochs.specs.Pull.{pulled_where}
use Rattle.dp_epochs.specs.State.{connection_of}
use Rattle.dp_tables.specs.SessionLog.{state_in}
use Rattle.dp_commit.specs.Pages.{AreRead}
use Rattle.dp_tables.proofs.TableLemmas.{are-read}
use Rattle.dp_tables.proofs.tables.Tables.pull.Goals as goal

pub pull-requires : goal.pull-requires
pull-requires c =
    subst (λ j. All (IsIn j) c.self.inside.live.history.items) (sym c.deref.ensures.value)
    c.self.invariant.of.said

pub returns : goal.returns
returns c =
    let t = c.self.inside in
    let s = state_in c.args.self.now in
    subst (λ quiet. IfOk c.pull.result (λ answer. answer ≡ pulled_where s quiet c.args.conn
    c.args.epoch c.args.at c.args.most (connection_of s c.args.conn)))
    (ap (λ l. l.quiet) c.self.view_is)
    (c.pull.ensures s (subst (λ j. AreRead s j t.roster t.live) (sym c.deref.ensures.value)
    (are-read t c.args.self.now c.self.invariant c.self.view_is)))
