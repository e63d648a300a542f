use Rattle.std.proofs.Common.{◌≢◌, [], refl}
use Rattle.std.proofs.lemmas.List.Elements.{All-nil}
use Rattle.dp_lines.specs.Lines.{Lacks, newline}
use Rattle.dp_joining.proofs.Starting.{failed_leaves, failed_unread, nothing_read, welcomed_by}
use Rattle.dp_joining.proofs.Starting.{welcomed_unread}
use Rattle.dp_joining.proofs.link.join_link.Goals as goal

pub returns-in-Ok-clause-leaves : goal.returns-in-Ok-clause-leaves
returns-in-Ok-clause-leaves g c =
    c.do_script.ensures.leaves c.args.name.now (g.R.Source.left c.args.link.0) _ _
    (welcomed_by g.O.Sink.held g.O.Sink.faults c.args.output.now c.args.draws.now c.args.tiles.now
    c.args.name.now (g.R.Source.left c.args.link.0) (g.R.Source.faults c.args.link.0)
    (g.S.Sink.held c.args.link.1) (g.S.Sink.faults c.args.link.1) c.new-joiner.result _
    c.new-joiner.ensures c.in-Ok.ensures.welcome c.in-Ok.ensures.chats
    c.in-Ok.ensures.hello c.in-Ok.ensures.sink)

pub returns-in-Ok-clause-fault : goal.returns-in-Ok-clause-fault
returns-in-Ok-clause-fault g c =
    c.do_script.ensures.fault c.args.name.now (g.R.Source.left c.args.link.0) _ _
    (welcomed_by g.O.Sink.held g.O.Sink.faults c.args.output.now c.args.draws.now c.args.tiles.now
    c.args.name.now (g.R.Source.left c.args.link.0) (g.R.Source.faults c.args.link.0)
    (g.S.Sink.held c.args.link.1) (g.S.Sink.faults c.args.link.1) c.new-joiner.result _
    c.new-joiner.ensures c.in-Ok.ensures.welcome c.in-Ok.ensures.chats
    c.in-Ok.ensures.hello c.in-Ok.ensures.sink)

pub returns-in-Ok-clause-output_later : goal.returns-in-Ok-clause-output_later
returns-in-Ok-clause-output_later g c =
    c.do_script.ensures.output_later c.args.name.now (g.R.Source.left c.args.link.0) _ _
    (welcomed_by g.O.Sink.held g.O.Sink.faults c.args.output.now c.args.draws.now c.args.tiles.now
    c.args.name.now (g.R.Source.left c.args.link.0) (g.R.Source.faults c.args.link.0)
    (g.S.Sink.held c.args.link.1) (g.S.Sink.faults c.args.link.1) c.new-joiner.result _
    c.new-joiner.ensures c.in-Ok.ensures.welcome c.in-Ok.ensures.chats
    c.in-Ok.ensures.hello c.in-Ok.ensures.sink)

pub returns-in-Err-clause-leaves : goal.returns-in-Err-clause-leaves
returns-in-Err-clause-leaves g c =
    rw c.run_end-end.ensures
    (failed_leaves c.args.name.now _ _ _ _ _ c.in-Err.stop c.in-Err.ensures.err refl (refl, refl))

pub returns-in-Ok-clause-unread : goal.returns-in-Ok-clause-unread
returns-in-Ok-clause-unread g c =
    welcomed_unread c.args.name.now (g.R.Source.left c.args.link.0) _ _
    (g.R.Source.faults c.args.link.0) _ _ c.in-Ok.ensures.welcome

pub returns-in-Err-clause-unread : goal.returns-in-Err-clause-unread
returns-in-Err-clause-unread g c =
    failed_unread c.args.name.now (g.R.Source.left c.args.link.0) _ _ refl

pub returns-in-Err-clause-took : goal.returns-in-Err-clause-took
returns-in-Err-clause-took g c =
    nothing_read (c.whole_lines.ensures.only [] [] (All-nil (Lacks newline))
    (All-nil (λ byte. byte ≢ newline))) _
