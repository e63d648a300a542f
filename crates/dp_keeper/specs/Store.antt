-- What a store of rows does.
use Rattle.std.specs.Prelude.{◌≡◌, ◌⊎◌, ℕ, List, [], ◌∷◌, ◌++◌, take, drop}
use Rattle.std.specs.Prelude.{Option, option_map, Result, Ok, Err, IfOk, IfSome}
use Rattle.dp_io.specs.Faults.{Rose}
use Rattle.dp_keeper.specs.declared.row.Row.{Row}
use Rattle.dp_keeper.specs.declared.keeper.KeepError.{KeepError}
use Rattle.dp_keeper.specs.declared.keeper.KeepError.TheVariants.{Failed, Memory}

-- the rows with one more after them, if they are known
abbrev pub with_row : Row → Option (List Row) → Option (List Row)
with_row row known = option_map (λ rows. rows ++ row ∷ []) known

-- what a put does: it adds the row; it failed, with the row or without it; or memory ran out, and
-- it did nothing
abbrev pub Puts : {T : Type 0} → Option (List Row) → Row → Result T KeepError → Option (List Row)
    → Type 0
Puts old row (Ok done) new = new ≡ with_row row old
Puts old row (Err Failed) new = (new ≡ old) ⊎ (new ≡ with_row row old)
Puts old row (Err Memory) new = new ≡ old

-- a call that failed is counted, and no other
abbrev pub Counts : {T : Type 0} → ℕ → Result T KeepError → ℕ → Type 0
Counts old (Ok done) new = new ≡ old
Counts old (Err Failed) new = Rose old new
Counts old (Err Memory) new = new ≡ old

-- what is read, if the rows are known, is the rows from that place on, at most that many
abbrev pub IsPage : Option (List Row) → ℕ → ℕ → Result (List Row) KeepError → Type 0
IsPage known from max result =
    IfSome known (λ rows. IfOk result (λ page. page ≡ take max (drop from rows)))
