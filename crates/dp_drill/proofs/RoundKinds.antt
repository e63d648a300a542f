-- Rounds, one after the other.
use Rattle.std.proofs.Common.{◌≡◌, ℕ, suc, ◌+◌, ◌-◌, ◌<◌, sym, ap, ◌∙◌, arith}
use Rattle.std.specs.List.{fold}
use Rattle.std.proofs.lemmas.List.Sums.{fold-append}
use Rattle.dp_drill.specs.Flow.{Flow, drill_flow, first_flow, flow_after, flow_after_all}
use Rattle.dp_drill.specs.Flow.{last_sends}
use Rattle.dp_drill.specs.Schedule.{drill_number, next, round, rounds}
use Rattle.dp_drill.specs.Schedule.{first_actions}

-- the round that comes next, and those that are left after it
pub round-more : (f g : Flow) (x n i : ℕ) → i < n
    → g ≡ fold flow_after f (round (drill_number (next x)) (drill_number (next (next x))))
    → fold flow_after g (rounds (next (next x)) (n - (i + 1)))
    ≡ fold flow_after f (rounds x (n - i))
round-more f g x n i within made =
    let left : suc (n - (i + 1)) ≡ n - i = omega (arith, within) in
    ap (λ h. fold flow_after h (rounds (next (next x)) (n - (i + 1)))) made
    ∙ sym (fold-append flow_after f (round (drill_number (next x)) (drill_number (next (next x))))
    (rounds (next (next x)) (n - (i + 1))))
    ∙ ap (λ k. fold flow_after f (rounds x k)) left

-- the first actions, then rounds, then what is sent in the end
pub drilled : (seed count : ℕ) (a b d : Flow) → a ≡ flow_after_all first_actions
    → b ≡ fold flow_after a (rounds seed count) → d ≡ fold flow_after b (last_sends b)
    → d ≡ drill_flow seed count
drilled seed count a b d began played sent =
    sent ∙ ap (λ f. fold flow_after f (last_sends f)) (played
    ∙ ap (λ f. fold flow_after f (rounds seed count)) began
    ∙ sym (fold-append flow_after first_flow first_actions (rounds seed count)))
