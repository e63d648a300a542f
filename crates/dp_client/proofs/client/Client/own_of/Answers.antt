use Rattle.std.proofs.Common.{map, ap, sym, ◌∙◌, subst}
use Rattle.dp_fork.specs.Fork.{Answers}
use Rattle.dp_replay.specs.Replay.{act_of, act_of_message}
use Rattle.dp_client.specs.Client.{State}
use Rattle.dp_client.proofs.Drawing.{answers_own}
use Rattle.dp_client.proofs.client.Client.own_of.Goals as goal

pub returns-then-is_own_answer-clause-answers : goal.returns-then-is_own_answer-clause-answers
returns-then-is_own_answer-clause-answers g c =
    subst (λ (s : State). Answers c.answered.result (act_of c.args.entry.now)
    (map (act_of_message s.user) s.fork)) c.self.view_is
    (answers_own c.answered.result c.self.inside.user c.args.entry.now c.self.inside.fork.items
    (c.is_own_answer.ensures.own c.if-is_own_answer.true
    ∙ sym (ap (λ (s : State). s.user) c.self.view_is)) c.answered.ensures.echo)
