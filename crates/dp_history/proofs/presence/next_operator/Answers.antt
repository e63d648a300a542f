use Rattle.std.proofs.Common.{◌≡◌, true, false, set, is_some, sym, ◌∙◌, rules}
use Rattle.dp_acl.specs.Rights.{is_operator}
use Rattle.dp_history.proofs.ItemLemmas.{next-is, next-no_operator, next-operator_stays}
use Rattle.dp_history.proofs.presence.next_operator.Goals as goal
use Rattle.dp_history.proofs.presence.next_operator.Goals.{else-is_operator-via-then-is_operator+else-is_none}
use Rattle.dp_history.proofs.presence.next_operator.Goals.{else-is_operator-via-else-is_operator}

pub returns-then-is_none : goal.returns-then-is_none
returns-then-is_none c = λ history stands.
    let present = set c.args.present.now c.args.user false in
    let none : is_some c.lowest_operator.result ≡ false = search rules in
    next-is (is_operator history) present c.args.user c.lowest_operator.result
    c.lowest_present.result
    (sym (c.is_operator.ensures history stands) ∙ c.if-is_operator.true)
    (c.lowest_operator.ensures history stands)
    none c.lowest_present.ensures

pub returns-else-is_operator : goal.returns-else-is_operator
returns-else-is_operator c = λ history stands.
    let present = set c.args.present.now c.args.user false in
    elim c.else-is_operator.branch [
      | else-is_operator-via-then-is_operator+else-is_none w ↦
          let some : is_some w.lowest_operator.result ≡ true = search rules in
          next-operator_stays (is_operator history) present c.args.user w.lowest_operator.result
          (sym (c.is_operator.ensures history stands) ∙ w.if-is_operator.true)
          (w.lowest_operator.ensures history stands)
          some
      | else-is_operator-via-else-is_operator w ↦
          next-no_operator (is_operator history) present c.args.user
          (sym (c.is_operator.ensures history stands) ∙ w.if-is_operator.false)
    ]
