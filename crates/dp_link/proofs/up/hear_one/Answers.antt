use Rattle.std.proofs.Common.{◌∙◌, sym}
use Rattle.dp_link.proofs.Turns.{heard-unnoted, heard-refused, refused-ends}
use Rattle.dp_link.proofs.up.hear_one.Goals as goal

pub returns-in-Ok-note-clause-more : goal.returns-in-Ok-note-clause-more
returns-in-Ok-note-clause-more c = λ left unread start entries given. record {
  entry = c.in-Ok.entry;
  given = c.in-Ok.ensures.goes_on left unread start entries given;
  says_are = c.in-Ok-note.ensures.said;
  leaves_is = sym c.in-Ok-note.ensures.leaves;
}

pub returns-in-Err-note-clause-ended : goal.returns-in-Err-note-clause-ended
returns-in-Err-note-clause-ended c = λ left unread start entries given.
    heard-unnoted left unread start entries c.in-Ok.entry c.take.new.self
    (c.take.ensures.source.limit ∙ c.requires.limit)
    (c.in-Ok.ensures.goes_on left unread start entries given)

pub returns-in-Err-clause-ended : goal.returns-in-Err-clause-ended
returns-in-Err-clause-ended c = λ left unread start entries given.
    rw c.up_end_of.ensures
    (heard-refused left unread start entries c.args.link.now.limit c.take.new.self.stream.held
    c.in-Err.end c.requires.limit c.one_answer.ensures.either c.in-Err.ensures.refused
    (c.in-Err.ensures.stops left unread start entries given))

pub returns-in-Err-clause-ends : goal.returns-in-Err-clause-ends
returns-in-Err-clause-ends c =
    rw c.up_end_of.ensures (refused-ends c.in-Err.end c.in-Err.ensures.refused)
