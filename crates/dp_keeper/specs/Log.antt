-- Rows whose bytes lie one after another in one list.
use Rattle.std.specs.Prelude.{◌≡◌, ◌≤◌, ℕ, ◌+◌, ◌-◌, List, [], ◌∷◌, length, take, drop, slice_get}
use Rattle.std.specs.Prelude.{get_or}
use Rattle.std.specs.Option.{option_map_or}
use Rattle.dp_keeper.specs.declared.row.Row.{Row}

-- the row of a number whose bytes lie between two places
abbrev pub row_at : List ℕ → ℕ → ℕ → ℕ → Row
row_at bytes at end n = record { n = n; bytes = take (end - at) (drop at bytes) }

-- the rows that end at these places, the first of which begins at a place. Their numbers are
-- those from an index on
abbrev pub rows_from : List ℕ → List ℕ → ℕ → ℕ → List ℕ → List Row
rows_from bytes numbers index at [] = []
rows_from bytes numbers index at (end ∷ ends) =
    row_at bytes at end (get_or numbers index 0) ∷ rows_from bytes numbers (index + 1) end ends

-- where the last of these rows ends, if the first one begins at a place
abbrev pub log_end : ℕ → List ℕ → ℕ
log_end at ends = option_map_or (λ end. end) (slice_get ends (length ends - 1)) at

-- the ends rise from a place on, up to the last
abbrev pub RiseTo : ℕ → ℕ → List ℕ → Type 0
RiseTo last at [] = at ≡ last
RiseTo last at (end ∷ ends) = (at ≤ end) × RiseTo last end ends
