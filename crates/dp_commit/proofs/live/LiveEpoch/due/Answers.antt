use Rattle.std.proofs.Common.{◌≡◌, ◌-◌, Some, take, length, sym, ap, subst, ◌∙◌, arith}
use Rattle.dp_epochs.specs.Pull.{pulled_from}
use Rattle.dp_epochs.specs.State.{connection_in}
use Rattle.dp_history.specs.Users.{mark}
use Rattle.dp_commit.specs.Pages.{answer_of}
use Rattle.dp_commit.proofs.ReadLemmas.{quiet-due, open-due}
use Rattle.dp_commit.proofs.live.LiveEpoch.due.Goals as goal

pub returns-in-Running : goal.returns-in-Running
returns-in-Running c = λ s journal most are.
    let found = c.in_ok-found.ensures
    ∙ ap (λ cs. connection_in cs c.args.conn) c.deref.ensures.value in
    quiet-due s journal c.args.roster.now c.args.self.now are c.args.conn c.args.epoch c.args.at
    most c.in_ok-found.found found c.in-Running.is
    (ap (λ q. mark q (c.args.conn - 1)) (sym c.deref-in-Running-1.ensures.value)
    ∙ sym c.if-is_flagged.ensures)

pub returns-in-Running-2 : goal.returns-in-Running-2
returns-in-Running-2 c = λ s journal most are.
    let live = c.args.self.now in
    let found = c.in_ok-found.ensures
    ∙ ap (λ cs. connection_in cs c.args.conn) c.deref.ensures.value in
    let count : c.len.result ≡ length live.history.items = omega
    (arith, live.history.ok.0, c.len.ensures) in
    open-due s journal c.args.roster.now live are c.args.conn c.args.epoch c.args.at most
    c.in_ok-found.found (Some c.due_before.result) found c.in-Running-2.is
    (ap (λ q. mark q (c.args.conn - 1)) (sym c.deref-in-Running-1.ensures.value)
    ∙ sym c.if-is_flagged.ensures)
    (subst (λ n. pulled_from s c.args.epoch c.args.at most (take n s.live)
    ≡ answer_of s.live most (Some c.due_before.result)) count
    (c.due_before.ensures s most are.epoch))
