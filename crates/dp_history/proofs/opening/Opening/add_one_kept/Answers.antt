use Rattle.std.proofs.Common.{refl, sym, ◌∙◌}
use Rattle.dp_history.specs.declared.opening.Opening.{Opening}
use Rattle.dp_history.proofs.ItemLemmas.{holds-kept, holds-still}
use Rattle.dp_history.proofs.opening.Opening.add_one_kept.Goals as goal

pub returns-then-not-is_kept : goal.returns-then-not-is_kept
returns-then-not-is_kept c = λ history h.
    holds-still c.args.journal.now c.args.self.now history c.args.item.now
    (sym c.is_kept.ensures ∙ c.if-not-is_kept.true) h

pub returns : goal.returns
returns c = λ history h.
    let journal = c.args.journal.now in
    let new : Opening = record {
      live = c.push.new.self;
      rights = c.args.self.now.rights;
    } in
    holds-kept journal c.kept_change_no_right.ensures c.args.self.now new history c.args.item.now
    c.in_ok-copy.copy (sym c.is_kept.ensures ∙ c.if-not-is_kept.false)
    (c.in_ok-copy.ensures.same journal) (c.in_ok-copy.ensures.said journal c.requires) refl
    c.in_ok-push.ensures.items h
