use Rattle.dp_acl.proofs.rights.Rights.note.Goals as goal

pub returns-clause-stands : goal.returns-clause-stands
returns-clause-stands c = λ history stands.
    c.note_reserved.ensures.stands history (c.in_ok-reserve.ensures.stands history stands)
