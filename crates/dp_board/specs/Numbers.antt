-- A board that is a row of numbers.
use Rattle.std.specs.Prelude.{ℕ, Bool, not, ◌==◌, List, slice_set}
use Rattle.dp_board.specs.declared.number_board.SetNumber.{SetNumber}

-- the numbers after one is set; there is no effect past the end
abbrev pub number_drawn : List ℕ → SetNumber → List ℕ
number_drawn numbers op = slice_set numbers op.place op.value

-- the two set different places
abbrev pub numbers_apart : SetNumber → SetNumber → Bool
numbers_apart a b = not (a.place == b.place)
