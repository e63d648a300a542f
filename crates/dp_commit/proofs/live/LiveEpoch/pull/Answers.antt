use Rattle.std.proofs.Common.{take, sym, ap, ◌∙◌}
use Rattle.dp_epochs.specs.declared.event.Answer.TheVariants.{Entries}
use Rattle.dp_epochs.specs.Pull.{page}
use Rattle.dp_commit.specs.Pages.{answer_of}
use Rattle.dp_commit.proofs.live.LiveEpoch.pull.Goals as goal

pub returns-in_ok-list-in-Some : goal.returns-in_ok-list-in-Some
returns-in_ok-list-in-Some c = λ s are.
    let due = c.in-Some.field-0 in
    let most = c.args.most in
    ap (Entries due.epoch due.at)
    (c.in_ok-list-in-Some.ensures ∙ ap (λ h. page due.at most (take due.end h)) are.entries)
    ∙ sym (c.due.ensures s c.args.journal.now most are ∙ ap (answer_of s.live most) c.in-Some.is)

pub returns-in-None : goal.returns-in-None
returns-in-None c = λ s are.
    sym (c.due.ensures s c.args.journal.now c.args.most are
    ∙ ap (answer_of s.live c.args.most) c.in-None.is)
