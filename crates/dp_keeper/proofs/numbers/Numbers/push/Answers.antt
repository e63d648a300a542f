use Rattle.std.proofs.Common.{[], ◌∷◌, ◌++◌, length, ◌≡◌, ap, ◌∙◌, arith}
use Rattle.dp_keeper.proofs.LogLemmas.{number-more}
use Rattle.dp_keeper.proofs.numbers.Numbers.push.Goals as goal

pub returns-then-n-lt18446744073709551615-clause-ok :
    goal.returns-then-n-lt18446744073709551615-clause-ok
returns-then-n-lt18446744073709551615-clause-ok c =
    let numbers = c.self.inside in
    let none : length numbers.others.items ≡ 0 =
    grind (arith, c.is_empty.ensures, c.if-is_empty.true, numbers.others.ok.0) in
    number-more numbers.first numbers.count c.args.n numbers.others.items none
    (omega (arith, c.if-n-next.true))
    ∙ ap (λ all. all ++ c.args.n ∷ []) c.self.view_is
