use Rattle.std.proofs.Common.{refl, sym, ap, ◌∙◌}
use Rattle.std.specs.List.{slice_get}
use Rattle.dp_history.specs.Items.{entry_in}
use Rattle.dp_history.proofs.ItemLemmas.{written-more, found-at}
use Rattle.dp_history.proofs.item.write_at.Goals as goal

pub returns-in_ok-append_item-in-Some : goal.returns-in_ok-append_item-in-Some
returns-in_ok-append_item-in-Some c = λ are.
    written-more c.args.frames.now c.append_item.new.frames c.args.journal.now c.args.live.now
    c.in-Some.item.now (entry_in c.args.journal.now c.in-Some.item.now) are
    (ap (slice_get c.args.live.now) (sym (c.len.ensures.entries are.written are.of))
    ∙ found-at c.args.live.now c.len.result c.in-Some.item.now c.in-Some.ensures.lookup.3.0
    c.in-Some.ensures.lookup.1)
    refl c.in_ok-append_item-in-Some.ensures.ok
