use Rattle.std.proofs.Common.{refl, sym, ◌∙◌}
use Rattle.std.proofs.lemmas.Bool.{false≢true}
use Rattle.dp_viewer.proofs.Inputs.{told_done, told_end}
use Rattle.dp_viewer.proofs.Inputs.{told_filled, told_first, told_further}
use Rattle.dp_viewer.proofs.Recordings.{on-no-error}
use Rattle.dp_viewer.proofs.reading.read_frames.Goals as goal

pub entries-init : goal.entries-init
entries-init g c = record {
  told =
      told_first (g.I.Source.left c.args.input.now) c.args.board c.new-reader.result c.requires
      c.new-reader.ensures.begun;
  first = c.new-reader.ensures.first;
  limit = c.new-reader.ensures.limit;
  kept = refl;
}

pub entries-preserved : goal.entries-preserved
entries-preserved g c =
    let filled = told_filled (g.I.Source.left c.args.input.now) (g.I.Source.left c.entries.input)
    (g.I.Source.left c.fill.new.input) c.entries.board c.entries.reader c.fill.new.self
    c.in-Ok-true.ensures.read c.entries.invariant.told in
    let shown = on-no-error c.show-shown.result c.is_err.result c.is_err.ensures.value
    c.if-is_err.false c.show-shown.ensures in
    record {
      told =
          told_further (g.I.Source.left c.args.input.now) (g.I.Source.left c.fill.new.input)
          (g.I.Source.left c.fill.new.input) c.entries.board c.show-shown.new.board c.in-Ok.entry
          c.fill.new.self c.take.new.self
          (λ bytes es had. c.in-Ok.ensures.given bytes (g.I.Source.left c.fill.new.input) es had)
          shown filled;
      first =
          c.take.ensures.source.first ∙ c.fill.ensures.place.first ∙ c.entries.invariant.first;
      limit =
          c.take.ensures.source.limit ∙ c.fill.ensures.place.limit ∙ c.entries.invariant.limit;
      kept = c.in-Ok-true.ensures.kept ∙ c.entries.invariant.kept;
    }

pub returns-in-Ok-false-clause-told : goal.returns-in-Ok-false-clause-told
returns-in-Ok-false-clause-told g c =
    told_done (g.I.Source.left c.args.input.now) (g.I.Source.left c.entries.input)
    (g.I.Source.left c.fill.new.input) c.entries.board c.entries.reader
    c.entries.invariant.first c.entries.invariant.limit
    (c.in-Ok-false.ensures.done (λ more. false≢true (sym c.in-Ok-false.field-0-test ∙ more)))
    c.entries.invariant.told

pub returns-in-Err-clause-told : goal.returns-in-Err-clause-told
returns-in-Err-clause-told g c =
    rw c.run_end-end.ensures
    (told_end (g.I.Source.left c.args.input.now) (g.I.Source.left c.entries.input)
    (g.I.Source.left c.fill.new.input) c.entries.board c.entries.reader c.in-Err.end
    c.entries.invariant.first c.entries.invariant.limit c.in-Err.ensures.ends
    c.entries.invariant.told)

pub returns-in-Err-take-clause-told : goal.returns-in-Err-take-clause-told
returns-in-Err-take-clause-told g c =
    let filled = told_filled (g.I.Source.left c.args.input.now) (g.I.Source.left c.entries.input)
    (g.I.Source.left c.fill.new.input) c.entries.board c.entries.reader c.fill.new.self
    c.in-Ok-true.ensures.read c.entries.invariant.told in
    rw c.run_end-end-in-Err-take.ensures
    (told_end (g.I.Source.left c.args.input.now) (g.I.Source.left c.fill.new.input)
    (g.I.Source.left c.fill.new.input) c.entries.board c.fill.new.self c.in-Err-take.why
    (c.fill.ensures.place.first ∙ c.entries.invariant.first)
    (c.fill.ensures.place.limit ∙ c.entries.invariant.limit)
    (λ bytes es had. c.in-Err-take.ensures.ends bytes (g.I.Source.left c.fill.new.input) es had)
    filled)
