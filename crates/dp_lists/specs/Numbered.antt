-- Items of a list that are numbered from 1, in order.
use Rattle.std.specs.Prelude.{ℕ, ◌-◌, ◌==◌, if◌then◌else◌, Option, None, List}
use Rattle.std.specs.List.{slice_get}

-- the item of a number, if there is one
abbrev pub numbered : {X : Type 0} → List X → ℕ → Option X
numbered xs number = if number == 0 then None else slice_get xs (number - 1)
