use Rattle.dp_history.proofs.ItemLemmas.{found-at}
use Rattle.dp_history.proofs.PageLemmas.{page-of-one}
use Rattle.dp_history.proofs.frames.put_one.Goals as goal

pub returns-in_ok-put_item-in-Some-clause-put : goal.returns-in_ok-put_item-in-Some-clause-put
returns-in_ok-put_item-in-Some-clause-put c =
    let item = c.in-Some.item.now in
    page-of-one c.args.journal.now c.args.items.now c.args.at item c.put_item.new.page
    (found-at c.args.items.now c.args.at item c.in-Some.ensures.lookup.3.0
    c.in-Some.ensures.lookup.1)
    c.in_ok-put_item-in-Some.ensures.ok
