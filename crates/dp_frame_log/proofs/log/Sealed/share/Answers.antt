use Rattle.std.proofs.Common.{length, sym, ap, subst, ◌∙◌, arith}
use Rattle.dp_frame_log.specs.Frames.{AreFramesOf}
use Rattle.dp_frame_log.proofs.LogLemmas.{ends-count}
use Rattle.dp_frame_log.proofs.log.Sealed.share.Goals as goal

pub span-start-requires-clause-are : goal.span-start-requires-clause-are
span-start-requires-clause-are c = (
  c.requires.are.0,
  subst (λ f. AreFramesOf f c.requires.are.0) (sym (c.deref.ensures ∙ c.self.view_is))
      c.requires.are.1,
  omega (
    arith,
    c.requires.at,
    c.min-most.ensures,
    c.self.invariant,
    ap (λ f. length f.ends) c.self.view_is,
    ends-count c.args.self.now c.requires.are.0 c.requires.are.1,
  ),
)
