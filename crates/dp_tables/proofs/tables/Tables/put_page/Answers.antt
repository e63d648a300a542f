use Rattle.std.proofs.Common.{All, IfOk, map, sym, subst, ap}
use Rattle.dp_history.specs.Items.{entry_in, IsIn}
use Rattle.dp_history.specs.Made.{AreMadeOf}
use Rattle.dp_history.specs.Pages.{IsPage}
use Rattle.dp_epochs.specs.Pull.{pulled_where}
use Rattle.dp_epochs.specs.State.{connection_of}
use Rattle.dp_tables.specs.SessionLog.{state_in}
use Rattle.dp_commit.specs.Pages.{AreRead}
use Rattle.dp_tables.proofs.TableLemmas.{are-read}
use Rattle.dp_tables.proofs.tables.Tables.put_page.Goals as goal

pub put_page-requires-clause-said : goal.put_page-requires-clause-said
put_page-requires-clause-said c =
    subst (λ j. All (IsIn j) c.self.inside.live.history.items) (sym c.deref.ensures.value)
    c.self.invariant.of.said

pub put_page-requires-clause-made : goal.put_page-requires-clause-made
put_page-requires-clause-made c =
    let t = c.self.inside in
    subst (λ j. AreMadeOf t.live.frames (map (entry_in j) t.live.history.items))
    (sym c.deref.ensures.value)
    (subst (AreMadeOf t.live.frames) (sym c.self.invariant.of.entries) c.self.invariant.frames)

pub returns-clause-page : goal.returns-clause-page
returns-clause-page c =
    let t = c.self.inside in
    let s = state_in c.args.self.now in
    subst (λ quiet. IfOk c.put_page.result (λ found. IsPage (λ most. pulled_where s quiet
    c.args.conn c.args.epoch c.args.at most (connection_of s c.args.conn)) found
    c.put_page.new.page))
    (ap (λ l. l.quiet) c.self.view_is)
    (c.put_page.ensures.page s (subst (λ j. AreRead s j t.roster t.live)
    (sym c.deref.ensures.value) (are-read t c.args.self.now c.self.invariant c.self.view_is)))
