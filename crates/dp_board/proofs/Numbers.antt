-- Numbers that are set at different places.
use Rattle.std.proofs.Common.{◌≡◌, ◌≢◌, ℕ, true, List, rules}
use Rattle.std.proofs.lemmas.List.{set_comm}
use Rattle.dp_board.specs.declared.number_board.SetNumber.{SetNumber}
use Rattle.dp_board.specs.Numbers.{number_drawn, numbers_apart}

-- numbers at different places may be set in either order
pub numbers_commute : (numbers : List ℕ) (a b : SetNumber) → numbers_apart a b ≡ true
    → number_drawn (number_drawn numbers a) b ≡ number_drawn (number_drawn numbers b) a
numbers_commute numbers a b apart =
    let differ : a.place ≢ b.place = search rules in
    set_comm numbers a.place b.place a.value b.value differ
