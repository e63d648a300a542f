use Rattle.std.proofs.Common.{sym, subst}
use Rattle.dp_tables.specs.Ready.{IsReady}
use Rattle.dp_session.specs.Puts.{IsPut}
use Rattle.std.proofs.Common.{Ok}
use Rattle.dp_session.proofs.session.finish.Goals as goal

pub keep-requires-clause-ready : goal.keep-requires-clause-ready
keep-requires-clause-ready c =
    subst (λ e. IsReady c.args.tables.now e c.args.ready) (sym c.requires.ready.event)
    c.requires.ready

pub returns-in-Ok-clause-put : goal.returns-in-Ok-clause-put
returns-in-Ok-clause-put c =
    subst (λ e. IsPut c.args.tables.now e (Ok c.keep.result) c.keep.new.self)
    c.requires.ready.event (c.keep.ensures.kept, c.keep.ensures.reply)
