use Rattle.std.proofs.Common.{◌≡◌, ◌+◌, ◌-◌, ◌++◌, List, ℕ, true, false, sym, subst, arith}
use Rattle.std.specs.List.{filter, filter_map, range_with_len}
use Rattle.dp_acl.specs.Opening.{last_join}
use Rattle.dp_history.specs.Openings.{Holds}
use Rattle.dp_history.specs.Users.{mark}
use Rattle.dp_history.proofs.ItemLemmas.{joins-marked, ids-unmarked}
use Rattle.dp_history.proofs.Ranges.{user_ids-are}
use Rattle.dp_history.proofs.opening.Opening.add_joins.Goals as goal
use Rattle.dp_history.proofs.opening.Opening.add_joins.Goals.{then-present-user+in_ok-add_join}
use Rattle.dp_history.proofs.opening.Opening.add_joins.Goals.{else-present-user}

pub loop-user-preserved : goal.loop-user-preserved
loop-user-preserved c = λ history live joined h.
    let journal = c.args.journal.now in
    let p = mark c.args.present.now in
    let k = c.loop-user.user in
    let joins = λ (ids : List ℕ). history ++ filter_map (last_join live) ids in
    let before = c.loop-user.invariant history live joined h in
    elim c.if-present-user.branch [
      | then-present-user+in_ok-add_join w ↦
          let marked : mark c.args.present.now c.loop-user.user ≡ true = w.if-present-user.true in
          let user = joined k (omega arith) (omega arith) marked in
          subst (λ o. Holds journal o (joins (filter p (range_with_len 1 (k + 1 - 1)))))
          (sym w.self-is)
          (subst (Holds journal w.add_join.new.self)
          (joins-marked (last_join live) p k (omega arith) history marked)
          (w.in_ok-add_join.ensures (joins (filter p (range_with_len 1 (k - 1)))) live user.last
          before))
      | else-present-user w ↦
          let unmarked : mark c.args.present.now c.loop-user.user ≡ false =
          w.if-present-user.false in
          subst (λ o. Holds journal o (joins (filter p (range_with_len 1 (k + 1 - 1)))))
          (sym w.self-is)
          (subst (λ ids. Holds journal c.loop-user.self (joins ids))
          (ids-unmarked (last_join live) p k (omega arith) unmarked) before)
    ]

pub add_join-requires : goal.add_join-requires
add_join-requires c =
    c.requires c.loop-user.user (omega arith) (omega arith) c.if-present-user.true

pub returns : goal.returns
returns c = λ history live joined h.
    subst (λ ids. Holds c.args.journal.now c.loop-user.self
    (history ++ filter_map (last_join live) (filter (mark c.args.present.now) ids)))
    (user_ids-are (c.loop-user.user - 1) (omega arith))
    (c.loop-user.invariant history live joined h)
