use Rattle.std.proofs.Common.{◌≡◌, length, arith, ap, ◌∙◌}
use Rattle.dp_hall.proofs.ViewLemmas.{has_turn, turn_begun}
use Rattle.dp_hall.proofs.turn.begin.Goals as goal

pub give_back-requires-clause-machine : goal.give_back-requires-clause-machine
give_back-requires-clause-machine g c = has_turn g.M.Machine.may_step _ _ _ _ _ c.requires.idle.1
    c.take-stored.ensures.view c.count.ensures.view

pub returns-clause-hand : goal.returns-clause-hand
returns-clause-hand g c = (
  c.take-stored.result,
  c.put.ensures.hand,
  has_turn g.M.Machine.may_step _ _ _ _ _ c.requires.idle.1 c.take-stored.ensures.view
      (c.put.ensures.view ∙ c.count.ensures.view),
)

pub returns-clause-turn : goal.returns-clause-turn
returns-clause-turn g c = turn_begun g.M.Machine.may_step _ _ _ _ _ c.take-stored.ensures.view
    (c.put.ensures.view ∙ c.count.ensures.view)
    (c.count.ensures.held (ap (λ z. z.holds) c.take-stored.ensures.view.view))

pub returns-clause-room : goal.returns-clause-room
returns-clause-room g c =
    let found : c.count.result ≡ length c.take-stored.new.token.me.0.seen = c.count.ensures.held
    (ap (λ z. z.holds) c.take-stored.ensures.view.view) in
    let long : length c.put.new.token.me.0.seen ≡ length c.take-stored.new.token.me.0.seen = ap
    (λ z. length z.seen) (c.put.ensures.view ∙ c.count.ensures.view) in
    omega (arith, found, long, c.if-count-acts.false, c.count.type_inv)
