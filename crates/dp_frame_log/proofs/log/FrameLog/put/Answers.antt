use Rattle.std.proofs.Common.{sym, ap, subst, ◌∙◌, arith, length-append, length}
use Rattle.dp_frame_log.specs.Frames.{AreSealedOf}
use Rattle.dp_frame_log.proofs.LogLemmas.{sealed-count, copied-put}
use Rattle.dp_frame_log.proofs.log.FrameLog.put.Goals as goal

pub share_of-requires-clause-are : goal.share_of-requires-clause-are
share_of-requires-clause-are c =
    let are = c.requires.are.1 in (
      are.before,
      subst (λ s. AreSealedOf s are.before)
          (sym (c.deref.ensures.value ∙ ap (λ l. l.sealed) c.self.view_is)) are.sealed,
      omega (
        arith,
        c.if-at-before.true,
        c.before-before.ensures,
        sealed-count c.args.self.now.sealed are.before are.sealed,
      ),
    )

pub copy_of-requires-clause-are : goal.copy_of-requires-clause-are
copy_of-requires-clause-are c =
    let are = c.requires.are.1 in (
      are.rest,
      are.last,
      omega (
        arith,
        c.if-at-before.false,
        c.requires.are.2,
        c.before-before.ensures,
        sealed-count c.args.self.now.sealed are.before are.sealed,
        ap length are.all,
        length-append are.before are.rest,
      ),
    )

pub returns-else-at-before-clause-put : goal.returns-else-at-before-clause-put
returns-else-at-before-clause-put c =
    copied-put c.copy_of.result c.args.self.now c.args.at c.before-before.result
    c.copy_of.new.page c.before-before.ensures c.if-at-before.false c.copy_of.ensures.put
