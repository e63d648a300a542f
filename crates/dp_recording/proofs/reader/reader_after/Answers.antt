use Rattle.std.proofs.Common.{◌≡◌, ◌≤◌, IsTrue, [], ◌++◌, ap, length, take, drop, arith, subst, sym}
use Rattle.std.proofs.Common.{refl, Some, ◌∙◌}
use Rattle.std.proofs.lemmas.List.{length-take}
use Rattle.dp_entries.specs.Reader.{HasRead}
use Rattle.dp_recording.specs.Headers.{IsHeader}
use Rattle.dp_recording.proofs.Headers.{goes-on}
use Rattle.dp_recording.proofs.Taken.{parts, rest-is-small}
use Rattle.dp_recording.proofs.reader.reader_after.Goals as goal

pub returns-in-Ok-clause-begun : goal.returns-in-Ok-clause-begun
returns-in-Ok-clause-begun g c = λ bytes left h.
    let held = c.args.held.now in
    let profile = c.args.header.profile in
    let len = c.args.header.len in
    let header = c.requires.header in
    let place : length (take len held) ≡ len = omega (arith, length-take len held, header.whole) in
    let rest = c.rest_of.result.now in
    let rest_is : rest ≡ drop len held = c.rest_of.ensures in
    let whole = parts held len h ∙ ap (λ t. take len held ++ (t ++ h.untaken)) (sym rest_is) in
    let begun = c.new-reader.ensures.begun bytes (take len held) (rest ++ h.untaken) whole place in
    let small = subst (λ t. length t ≤ 4096) (sym rest_is)
    (rest-is-small held profile len header h) in
    let read = c.in-Ok.ensures.read bytes (Some (rest ++ h.untaken)) (Some h.untaken) [] small refl
    begun in
    let first = c.in-Ok.ensures.place.first ∙ c.new-reader.ensures.first in (
      subst (IsHeader bytes profile) (sym first)
          (subst (λ t. IsHeader t profile len) (sym h.whole)
          (goes-on held h.untaken profile len header)),
      c.in-Ok.ensures.place.limit ∙ c.new-reader.ensures.limit,
      subst (λ b. IsTrue b → ⊥) (sym c.in-Ok.ensures.place.ended) c.new-reader.ensures.not_ended,
      subst (λ o. HasRead g.S.Standing.may_stand bytes o [] c.push.new.self) (sym h.left_is) read,
    )
