use Rattle.std.proofs.Common.{◌∙◌, refl, rules, sym}
use Rattle.std.proofs.lemmas.Bool.{false≢true}
use Rattle.std.proofs.lemmas.Result.{err_from_is_err_and}
use Rattle.dp_entries.proofs.Onward.{few_held}
use Rattle.dp_entries.proofs.reader.EntryReader.fill.Goals as goal

pub returns-in_err-read_piece-clause-ends : goal.returns-in_err-read_piece-clause-ends
returns-in_err-read_piece-clause-ends g c =
    let residual = c.from_residual in
    let p = err_from_is_err_and residual.result residual.ensures.1 in
    rw (p.1, p.2) (λ bytes entries h.
    rw (← c.pieces.invariant.place.first, ← c.pieces.invariant.place.limit)
    (c.in_err-read_piece.ensures.ends bytes entries (c.pieces.invariant.read bytes entries h)))

pub returns-in_err-check_end-clause-ends : goal.returns-in_err-check_end-clause-ends
returns-in_err-check_end-clause-ends g c =
    let residual = c.from_residual-in_err-check_end in
    let p = err_from_is_err_and residual.result residual.ensures.1 in
    let piece = c.in_ok-read_piece.ensures in
    let first = c.read_piece.ensures.place.first ∙ c.pieces.invariant.place.first in
    let limit = c.read_piece.ensures.place.limit ∙ c.pieces.invariant.place.limit in
    let end = piece.at_end (λ more. false≢true (sym c.if-not-branch.true ∙ more)) in
    rw (p.1, p.2) (λ bytes entries h. rw (← first, ← limit)
    (c.in_err-check_end.ensures.ends bytes (g.I.Source.left c.read_piece.new.input) entries end
    (piece.read bytes entries (c.pieces.invariant.read bytes entries h))))

pub returns-in_err-check_end-clause-fault : goal.returns-in_err-check_end-clause-fault
returns-in_err-check_end-clause-fault g c =
    let residual = c.from_residual-in_err-check_end in
    let p = err_from_is_err_and residual.result residual.ensures.1 in
    let piece = c.in_ok-read_piece.ensures in
    let end = piece.at_end (λ more. false≢true (sym c.if-not-branch.true ∙ more)) in
    let kept = piece.kept ∙ c.pieces.invariant.kept in
    rw (p.1, p.2) (rw kept ((c.in_err-check_end.ensures.inside
    (g.I.Source.left c.read_piece.new.input) end).1 (g.I.Source.faults c.args.input.now)))

pub returns-then-not-branch-clause-done : goal.returns-then-not-branch-clause-done
returns-then-not-branch-clause-done g c = λ no bytes entries h.
    let piece = c.in_ok-read_piece.ensures in
    let first = c.read_piece.ensures.place.first ∙ c.pieces.invariant.place.first in
    let limit = c.read_piece.ensures.place.limit ∙ c.pieces.invariant.place.limit in
    let end = piece.at_end (λ more. false≢true (sym c.if-not-branch.true ∙ more)) in
    rw (← first, ← limit)
    (c.in_ok-check_end.ensures.done bytes (g.I.Source.left c.read_piece.new.input) entries end
    (piece.read bytes entries (c.pieces.invariant.read bytes entries h)))

pub returns-then-not-branch-clause-read : goal.returns-then-not-branch-clause-read
returns-then-not-branch-clause-read g c = λ bytes entries h.
    c.in_ok-read_piece.ensures.read bytes entries (c.pieces.invariant.read bytes entries h)

pub pieces-init : goal.pieces-init
pieces-init g c = record {
  read = λ bytes entries h. h;
  goes_on = λ source start entries h. h;
  place = record { first = refl; limit = refl; at = refl; ended = refl };
  kept = refl;
  idle = λ held. (refl, refl);
  bytes = λ small. small;
  few = few_held c.args.self.now.stream.at c.args.self.now.stream.held;
}

pub pieces-preserved : goal.pieces-preserved
pieces-preserved g c =
    let inv = c.pieces.invariant in
    let piece = c.read_piece.ensures in
    record {
      read = λ bytes entries h.
          c.in_ok-read_piece.ensures.read bytes entries (inv.read bytes entries h);
      goes_on = λ source start entries h.
          c.in_ok-read_piece.ensures.goes_on source start entries
          (inv.goes_on source start entries h);
      bytes = λ small. piece.bytes (inv.bytes small);
      few = λ small none. rw (← inv.place.at) (piece.few (inv.bytes small));
      place = record {
        first = piece.place.first ∙ inv.place.first;
        limit = piece.place.limit ∙ inv.place.limit;
        at = piece.place.at ∙ inv.place.at;
        ended = piece.place.ended ∙ inv.place.ended;
      };
      kept = c.in_ok-read_piece.ensures.kept ∙ inv.kept;
      idle = search rules;
    }

pub returns-then-is_some-clause-goes_on : goal.returns-then-is_some-clause-goes_on
returns-then-is_some-clause-goes_on g c = c.pieces.invariant.goes_on

pub returns-then-is_some-clause-few : goal.returns-then-is_some-clause-few
returns-then-is_some-clause-few g c = c.pieces.invariant.few

pub returns-in_err-read_piece-clause-stops : goal.returns-in_err-read_piece-clause-stops
returns-in_err-read_piece-clause-stops g c =
    let residual = c.from_residual in
    let p = err_from_is_err_and residual.result residual.ensures.1 in
    rw (p.1, p.2) (λ source start entries h. rw (← c.pieces.invariant.place.limit)
    (c.in_err-read_piece.ensures.stops source start entries
    (c.pieces.invariant.goes_on source start entries h)))

pub returns-in_err-read_piece-clause-few : goal.returns-in_err-read_piece-clause-few
returns-in_err-read_piece-clause-few g c = λ small none.
    rw (← c.pieces.invariant.place.at)
    (c.read_piece.ensures.few (c.pieces.invariant.bytes small))

pub returns-in_err-check_end-clause-stops : goal.returns-in_err-check_end-clause-stops
returns-in_err-check_end-clause-stops g c =
    let residual = c.from_residual-in_err-check_end in
    let p = err_from_is_err_and residual.result residual.ensures.1 in
    let limit = c.read_piece.ensures.place.limit ∙ c.pieces.invariant.place.limit in
    rw (p.1, p.2) (λ source start entries h. rw (← limit)
    (c.in_err-check_end.ensures.stops source (g.I.Source.left c.read_piece.new.input) start
    entries (c.in_ok-read_piece.ensures.goes_on source start entries
    (c.pieces.invariant.goes_on source start entries h))))

pub returns-in_err-check_end-clause-few : goal.returns-in_err-check_end-clause-few
returns-in_err-check_end-clause-few g c = λ small none.
    rw (← c.pieces.invariant.place.at)
    (c.read_piece.ensures.few (c.pieces.invariant.bytes small))

pub returns-then-not-branch-clause-goes_on : goal.returns-then-not-branch-clause-goes_on
returns-then-not-branch-clause-goes_on g c = λ source start entries h.
    c.in_ok-read_piece.ensures.goes_on source start entries
    (c.pieces.invariant.goes_on source start entries h)

pub returns-then-not-branch-clause-goes_to_end : goal.returns-then-not-branch-clause-goes_to_end
returns-then-not-branch-clause-goes_to_end g c = λ no source start entries h.
    let limit = c.read_piece.ensures.place.limit ∙ c.pieces.invariant.place.limit in
    rw (← limit)
    (c.in_ok-check_end.ensures.goes_to_end source (g.I.Source.left c.read_piece.new.input) start
    entries (c.in_ok-read_piece.ensures.goes_on source start entries
    (c.pieces.invariant.goes_on source start entries h)))

pub returns-then-not-branch-clause-few : goal.returns-then-not-branch-clause-few
returns-then-not-branch-clause-few g c = λ small none.
    rw (← c.pieces.invariant.place.at)
    (c.read_piece.ensures.few (c.pieces.invariant.bytes small))
