use Rattle.std.proofs.Common.{map, sym, ap, subst, ◌∙◌, arith, IfOk}
use Rattle.std.proofs.lemmas.List.{take-map}
use Rattle.dp_history.specs.Items.{entry_in}
use Rattle.dp_history.specs.Pages.{IsPageOf}
use Rattle.dp_history.proofs.MadeLemmas.{made-within}
use Rattle.dp_history.proofs.PageLemmas.{made-put}
use Rattle.dp_history.proofs.frames.HistoryFrames.put_page.Goals as goal

pub returns-then-made-gt0-clause-put : goal.returns-then-made-gt0-clause-put
returns-then-made-gt0-clause-put c =
    let f = c.args.self.now in
    let history = map (entry_in c.args.journal.now) c.args.live.now in
    let are = c.requires.made in
    made-put c.put.result f history c.args.end c.args.at c.min.result c.put.new.page
    (omega (
      arith,
      made-within f history c.args.at are
          (omega (arith, c.made_at.ensures, c.min-made.ensures)),
      c.made_at.ensures,
      c.min-made.ensures,
      c.min.ensures,
    ))
    (omega (arith, c.min.ensures, c.min-made.ensures, c.saturating_sub.ensures))
    are c.put.ensures.some c.put.ensures.most c.put.ensures.put

pub returns-else-made-gt0-clause-put : goal.returns-else-made-gt0-clause-put
returns-else-made-gt0-clause-put c =
    let f = entry_in c.args.journal.now in
    subst (λ history. IfOk c.put_one.result (λ count.
    IsPageOf history c.args.at count c.put_one.new.page))
    (ap (map f) c.prefix_of.ensures ∙ sym (take-map f c.args.end c.args.live.now))
    c.put_one.ensures.put
