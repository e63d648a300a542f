use Rattle.std.proofs.Common.{◌++◌, subst, sym}
use Rattle.std.proofs.lemmas.Result.{IfErr-weaker, IfOk-weaker}
use Rattle.dp_recording.specs.declared.header.HeaderError.TheVariants.{Bad}
use Rattle.dp_recording.specs.Headers.{HasNoHeader, IsHeaderRefused}
use Rattle.dp_recording.specs.Recordings.{HoldsHeader}
use Rattle.dp_recording.proofs.Headers.{none-stays}
use Rattle.dp_recording.proofs.Pulled.{begins-reading, stops-by-memory}
use Rattle.dp_recording.proofs.Taken.{took-a-piece}
use Rattle.dp_recording.proofs.reader.open.Goals as goal

pub returns-in-Ok-clause-begun : goal.returns-in-Ok-clause-begun
returns-in-Ok-clause-begun g c =
    let begun = IfOk-weaker c.begin.result _ _
    (λ reading begun bytes e. begun bytes (g.I.Source.left c.pieces.input)
    (subst (HoldsHeader bytes (g.I.Source.left c.pieces.input)) (sym c.as_slice-in-Ok.ensures.value)
    (c.pieces.invariant.0 bytes e))) c.begin.ensures.begun in
    begins-reading _ _ _ _ c.begin.result begun c.begin.ensures.reading c.begin.ensures.limit
    c.begin.ensures.goes_on c.pieces.invariant.1

pub returns-in-Ok-clause-ends : goal.returns-in-Ok-clause-ends
returns-in-Ok-clause-ends g c =
    IfErr-weaker c.begin.result _ _
    (λ error is. stops-by-memory _ _ _ _ error c.pieces.invariant.1 is) c.begin.ensures.memory

pub returns-in-Err-Bad-clause-ends : goal.returns-in-Err-Bad-clause-ends
returns-in-Err-Bad-clause-ends g c =
    record {
      ends =
          λ bytes e.
          let h = c.pieces.invariant.0 bytes e in
          let held = c.as_slice.result.now in
          let bad : IsHeaderRefused held Bad = subst (IsHeaderRefused held) c.in-Err-Bad.field-0-is
          c.in-Err-Bad.ensures.refused in
          let none = subst (λ t. HasNoHeader (t ++ h.untaken)) c.as_slice.ensures.value
          (none-stays held h.untaken bad.0 bad.1) in
          (subst HasNoHeader (sym h.whole) none, took-a-piece h);
      cause = record { inside = tt; fault = c.pieces.invariant.1 };
    }
