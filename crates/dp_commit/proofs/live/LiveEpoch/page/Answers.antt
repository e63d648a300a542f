use Rattle.std.proofs.Common.{◌≡◌, max, subst, IfOk}
use Rattle.dp_commit.proofs.ReadLemmas.{page-is}
use Rattle.dp_commit.proofs.live.LiveEpoch.page.Goals as goal

pub returns : goal.returns
returns c =
    let copied = rw (
      c.prefix_of-items.ensures,
      c.rest_of.ensures,
      c.prefix_of-history.ensures,
      c.deref.ensures.value,
      c.max-most.ensures,
    ) at c.copies.ensures
    in
    subst (λ xs. IfOk c.copies.result (λ copies. copies ≡ xs))
    (page-is c.args.journal.now c.args.self.now.history.items c.args.end c.args.at
    (max 1 c.args.most))
    copied
