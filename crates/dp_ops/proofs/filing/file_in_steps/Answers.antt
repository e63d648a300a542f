use Rattle.std.proofs.Common.{◌∙◌, ap}
use Rattle.dp_ops.specs.declared.lists.Finish.TheVariants.{Drop, Keep}
use Rattle.dp_ops.specs.Lists.{StandsOn, Waiting, filed_at}
use Rattle.dp_ops.proofs.Filed.{dropped_same, filed_drawn, is_filed}
use Rattle.dp_ops.proofs.Waits.{all_counts}
use Rattle.dp_ops.proofs.filing.file_in_steps.Goals as goal

pub returns-in_err-grow-clause-counts : goal.returns-in_err-grow-clause-counts
returns-in_err-grow-clause-counts c = λ col row few.
    ap (λ (w : Waiting). w.more) (c.in_err-grow.ensures.same col row few)
    ∙ c.requires.counts col row few

pub returns-in-Ok-clause-filed : goal.returns-in-Ok-clause-filed
returns-in-Ok-clause-filed c =
    let source = c.args.source.now in
    let op = source.command.now in
    is_filed (StandsOn source.width source.height source.number op) op
    (filed_at source.width source.height op) c.args.area c.args.lists.now c.grow.new.self
    c.add_command.new.lists c.finish.new.self c.requires.cols
    (filed_drawn source.width source.height source.number op) c.in_ok-grow.ensures.same
    c.requires.counts c.in-Ok.ensures.added c.finish.ensures

pub returns-in-Ok-clause-counts : goal.returns-in-Ok-clause-counts
returns-in-Ok-clause-counts c =
    all_counts c.args.area Keep c.add_command.new.lists c.finish.new.self c.finish.ensures
    (λ col row few out.
    ap (λ (w : Waiting). w.more) (c.in-Ok.ensures.others col row few out
    ∙ c.in_ok-grow.ensures.same col row few)
    ∙ c.requires.counts col row few)

pub returns-in-Err-clause-same : goal.returns-in-Err-clause-same
returns-in-Err-clause-same c = λ col row few.
    dropped_same c.args.area c.add_command.new.lists c.finish-in-Err.new.self
    c.finish-in-Err.ensures col row
    few
    ∙ c.in-Err.ensures.same col row few
    ∙ ap (λ (w : Waiting). w.ops) (c.in_ok-grow.ensures.same col row few)

pub returns-in-Err-clause-counts : goal.returns-in-Err-clause-counts
returns-in-Err-clause-counts c =
    all_counts c.args.area Drop c.add_command.new.lists c.finish-in-Err.new.self
    c.finish-in-Err.ensures
    (λ col row few out.
    ap (λ (w : Waiting). w.more) (c.in-Err.ensures.others col row few out
    ∙ c.in_ok-grow.ensures.same col row few)
    ∙ c.requires.counts col row few)
