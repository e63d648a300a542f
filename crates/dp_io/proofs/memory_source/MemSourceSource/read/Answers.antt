use Rattle.std.proofs.Common.{sym, ap, ◌∙◌, min, length, arith}
use Rattle.dp_io.specs.Memory.{SourceState}
use Rattle.dp_io.proofs.ReadEnds.{piece_copied, none_copied}
use Rattle.dp_io.proofs.memory_source.MemSourceSource.read.Goals as goal

pub returns-clause-bytes : goal.returns-clause-bytes
returns-clause-bytes c =
    let copied = rw c.deref.ensures.value at c.copy_prefix.ensures in
    let counted = rw c.deref.ensures.value at (c.min-count.ensures
    ∙ ap (λ n. min n (length c.args.buf.now)) c.min.ensures) in (
      piece_copied _ _ _ _ _ (ap (λ (s : SourceState). s.left) (sym c.self.view_is)) copied,
      λ none room. none_copied _ _ _ _ _ counted c.self.invariant.1 none
          (omega (arith, room, c.copy_prefix.auto.to)),
    )
