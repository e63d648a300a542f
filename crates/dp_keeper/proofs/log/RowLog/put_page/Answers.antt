use Rattle.std.proofs.Common.{◌≡◌, ◌++◌, take, drop, OnOk, ap, subst, ◌∙◌}
use Rattle.dp_keeper.specs.Log.{rows_from, log_end}
use Rattle.dp_keeper.proofs.LogLemmas.{rows-cut}
use Rattle.dp_keeper.proofs.log.RowLog.put_page.Goals as goal

pub returns : goal.returns
returns c =
    let bytes = c.self.inside.bytes.items in
    let numbers = c.self.inside.numbers in
    let ends = c.self.inside.ends.items in
    let from = c.args.from in
    subst (λ rows. OnOk c.put_rows.result (c.put_rows.new.page ≡ c.args.page.now ++ rows))
    (ap (λ b. rows_from b numbers from c.log_end-start.result c.prefix_of-ends.result.now)
    c.deref-3.ensures.value
    ∙ ap (λ at. rows_from bytes numbers from at c.prefix_of-ends.result.now)
    (c.log_end-start.ensures
    ∙ ap (log_end 0) (c.prefix_of.ensures ∙ ap (take from) c.deref.ensures.value))
    ∙ ap (rows_from bytes numbers from (log_end 0 (take from ends)))
    (c.prefix_of-ends.ensures
    ∙ ap (take c.args.most) (c.rest_of.ensures ∙ ap (drop from) c.deref-2.ensures.value))
    ∙ rows-cut bytes numbers from c.args.most ends
    ∙ ap (λ rows. take c.args.most (drop from rows)) c.self.view_is)
    c.put_rows.ensures
