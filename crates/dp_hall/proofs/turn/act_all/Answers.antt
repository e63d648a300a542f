use Rattle.std.proofs.Common.{◌≡◌, ◌+◌, [], ◌∷◌, length, arith, ap, sym, ◌∙◌, refl, subst}
use Rattle.std.proofs.Common.{length-append, None}
use Rattle.std.proofs.lemmas.List.{take_all}
use Rattle.dp_hall.specs.Holding.{ActsInTurn}
use Rattle.dp_hall.proofs.ViewLemmas.{none_acted, one_more, last_one}
use Rattle.dp_hall.proofs.turn.act_all.Goals as goal

pub loop-event-init : goal.loop-event-init
loop-event-init g c = record {
  at = c.requires.table;
  hand = c.requires.hand;
  count = refl;
  room = omega (arith, c.requires.room);
  acts = λ v h. none_acted g.M.Machine.may_step g.L.Listener.follows v _ c.args.events.now h;
}

pub act_held-outcome-requires-clause-room : goal.act_held-outcome-requires-clause-room
act_held-outcome-requires-clause-room g c =
    omega (arith, c.loop-event.invariant.room, c.loop-event-test.true)

pub overflow_add-count : goal.overflow_add-count
overflow_add-count g c =
    omega (arith, c.loop-event.invariant.count, c.loop-event-test.true)

pub returns-then-not-hear-clause-acts : goal.returns-then-not-hear-clause-acts
returns-then-not-hear-clause-acts g c = λ v h.
    last_one g.M.Machine.may_step g.L.Listener.follows v c.loop-event.token.me.0
    c.act_held-outcome.new.token.me.0 c.args.events.now c.loop-event.event-index
    c.loop-event.count c.event-item.result c.act_held-outcome.result c.loop-event-test.true
    (sym c.event-item.is) c.act_held-outcome.ensures.acts
    (sym c.hear.ensures ∙ c.if-not-hear.true) (c.loop-event.invariant.acts v h)

pub loop-event-preserved : goal.loop-event-preserved
loop-event-preserved g c =
    let was = c.loop-event.invariant in
    let a = c.act_held-outcome.ensures.acts in
    let u = c.loop-event.token.me.0 in
    let grown : length c.act_held-outcome.new.token.me.0.seen ≡ length u.seen + 1 =
    ap (λ z. length z.seen) a.grows ∙ length-append u.seen (a.entry ∷ []) in record {
      at = c.act_held-outcome.ensures.table;
      hand = c.act_held-outcome.ensures.hand;
      count = ap (λ k. k + 1) was.count;
      room = omega (arith, was.room, grown);
      acts = λ v h. one_more g.M.Machine.may_step g.L.Listener.follows v u
          c.act_held-outcome.new.token.me.0 c.args.events.now c.loop-event.event-index
          c.loop-event.count c.event-item.result c.act_held-outcome.result
          c.loop-event-test.true (sym c.event-item.is) a
          (sym c.hear.ensures ∙ c.if-not-hear.false) (was.acts v h);
    }

pub returns-clause-acts : goal.returns-clause-acts
returns-clause-acts g c = λ v h.
    subst (λ l. ActsInTurn g.M.Machine.may_step g.L.Listener.follows v l
    (record { count = c.loop-event.count; stop = None }) c.loop-event.token.me.0)
    (take_all c.loop-event.event-index c.args.events.now c.loop-event-test.false)
    (c.loop-event.invariant.acts v h)
