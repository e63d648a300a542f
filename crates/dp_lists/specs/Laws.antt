-- Laws of items that are numbered from 1.
use Rattle.std.specs.Prelude.{◌≡◌, ◌≢◌, ◌⊎◌, ℕ, ◌+◌, ◌-◌, ◌<◌, Some, None, List, [], ◌∷◌, ◌++◌}
use Rattle.std.specs.Prelude.{length, slice_set}
use Rattle.dp_lists.specs.Numbered.{numbered}

-- items keep their numbers if more come after them
abbrev pub NumbersStay : Type 0 → Type 0
NumbersStay X =
    (xs more : List X) (i : ℕ) (x : X) → numbered xs i ≡ Some x → numbered (xs ++ more) i ≡ Some x

-- the item that comes last has the next number, and each other item is an old one
abbrev pub LastIsNext : Type 0 → Type 0
LastIsNext X =
    (xs : List X) (y : X) (i : ℕ) (x : X) → numbered (xs ++ y ∷ []) i ≡ Some x
    → (numbered xs i ≡ Some x) ⊎ ((i ≡ length xs + 1) × (x ≡ y))

-- if the item of a number is replaced, the others stay
abbrev pub OthersStay : Type 0 → Type 0
OthersStay X =
    (xs : List X) (i j : ℕ) (y : X) → 0 < i → j ≢ i
    → numbered (slice_set xs (i - 1) y) j ≡ numbered xs j
