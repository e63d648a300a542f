use Rattle.std.proofs.Common.{◌≡◌, ◌-◌, ◌++◌, ◌∷◌, [], length, true, false, None}
use Rattle.std.proofs.Common.{ap, ◌∙◌, arith, length-append}
use Rattle.std.specs.List.{filter}
use Rattle.dp_history.specs.Users.{mark}
use Rattle.dp_history.proofs.ItemLemmas.{ids-marked, ids-unmarked}
use Rattle.dp_history.proofs.Ranges.{user_ids-are}
use Rattle.dp_history.proofs.presence.present_ids.Goals as goal
use Rattle.dp_history.proofs.presence.present_ids.Goals.{then-present-user+in_ok-push}
use Rattle.dp_history.proofs.presence.present_ids.Goals.{else-present-user}

pub loop-user-preserved : goal.loop-user-preserved
loop-user-preserved c =
    let p = mark c.args.present.now in
    let k = c.loop-user.user in
    elim c.if-present-user.branch [
      | then-present-user+in_ok-push w ↦
          let marked : mark c.args.present.now c.loop-user.user ≡ true = w.if-present-user.true in
          let more = ap (λ ids. ids.items) w.ids-is ∙ w.in_ok-push.ensures.items in
          record {
            found = more ∙ ap (λ ids. ids ++ k ∷ []) c.loop-user.invariant.found
                ∙ ids-marked (λ id. None) p k (omega arith) marked;
            few = omega (arith, ap length more, length-append c.loop-user.ids.items (k ∷ []));
          }
      | else-present-user w ↦
          let unmarked : mark c.args.present.now c.loop-user.user ≡ false =
          w.if-present-user.false in
          record {
            found = ap (λ ids. ids.items) w.ids-is ∙ c.loop-user.invariant.found
                ∙ ids-unmarked (λ id. None) p k (omega arith) unmarked;
            few = omega (arith, ap (λ ids. length ids.items) w.ids-is);
          }
    ]

pub from_vec-requires : goal.from_vec-requires
from_vec-requires c = omega (arith, c.loop-user.ids.ok.0)

pub returns : goal.returns
returns c =
    c.from_vec.ensures ∙ c.loop-user.invariant.found
    ∙ ap (filter (mark c.args.present.now)) (user_ids-are (c.loop-user.user - 1) (omega arith))
