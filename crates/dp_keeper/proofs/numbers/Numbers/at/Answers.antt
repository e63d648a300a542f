use Rattle.std.proofs.Common.{get_or, ap, ◌∙◌, arith}
use Rattle.dp_keeper.proofs.LogLemmas.{number-within, number-after, number-past}
use Rattle.dp_keeper.proofs.numbers.Numbers.at.Goals as goal

pub returns-then-place-self : goal.returns-then-place-self
returns-then-place-self c =
    let numbers = c.self.inside in
    number-within numbers.first numbers.count c.args.place numbers.others.items
    c.if-place-self.true
    ∙ ap (λ all. get_or all c.args.place 0) c.self.view_is

pub returns-in-Some : goal.returns-in-Some
returns-in-Some c =
    let numbers = c.self.inside in
    number-after numbers.first numbers.count c.args.place c.in-Some.n.now numbers.others.items
    c.deref.result.now c.deref.ensures.value (omega (arith, c.if-place-self.false))
    c.in-Some.ensures.lookup.3.0 c.in-Some.ensures.lookup.1
    ∙ ap (λ all. get_or all c.args.place 0) c.self.view_is

pub returns-in-None : goal.returns-in-None
returns-in-None c =
    let numbers = c.self.inside in
    number-past numbers.first numbers.count c.args.place numbers.others.items
    c.deref.result.now c.deref.ensures.value (omega (arith, c.if-place-self.false))
    c.in-None.ensures.lookup.3
    ∙ ap (λ all. get_or all c.args.place 0) c.self.view_is
