-- A store that fails at listed calls.
use Rattle.std.specs.Prelude.{◌≡◌, ℕ, ◌==◌, Bool, Option, None, Some, option_map, if◌then◌else◌}
use Rattle.std.specs.Prelude.{List, [], ◌∷◌, ◌++◌, take, drop, Contains, Result, Ok, Err}
use Rattle.std.specs.List.{find}
use Rattle.dp_io.specs.Faults.{one_more}
use Rattle.dp_keeper.specs.declared.row.Row.{Row}
use Rattle.dp_keeper.specs.declared.keeper.KeepError.{KeepError}
use Rattle.dp_keeper.specs.declared.keeper.KeepError.TheVariants.{Failed, Memory}

-- The rows, and which calls fail, by their numbers from 1. Beside those of put it says whether the
-- row is kept. Then how many calls of each were made, and how many of each failed.
pub record Failing : Type 0 where
  pub rows : List Row
  pub fails : List (ℕ × Bool)
  pub read_fails : List ℕ
  pub puts : ℕ
  pub reads : ℕ
  pub put_faults : ℕ
  pub read_faults : ℕ

-- what is listed of the next put: nothing if it is not to fail, and else whether its row is kept
abbrev pub listed_fault : Failing → Option Bool
listed_fault store =
    option_map (λ listed. listed.1) (find (λ listed. listed.0 == one_more store.puts) store.fails)

-- one more put was made
abbrev pub put_counted : Failing → Failing
put_counted store = record store { puts = one_more store.puts }

-- the store with a row added, or not
abbrev pub with_row_if : Bool → Row → Failing → Failing
with_row_if kept row store = record store {
  rows = if kept then store.rows ++ row ∷ []
      else store.rows;
}

-- A put fails exactly if its number is listed, and then its row stays if the flag says so.
-- One for which memory runs out is counted, and adds nothing.
abbrev pub PutsAsListed : Failing → Row → Result Unit KeepError → Failing → Type 0
PutsAsListed old row (Ok done) new =
    (listed_fault old ≡ None)
    × (new ≡ record (put_counted old) { rows = old.rows ++ row ∷ [] })
PutsAsListed old row (Err Failed) new =
    (kept : Bool) × (listed_fault old ≡ Some kept)
    × (new ≡ record (with_row_if kept row (put_counted old))
    { put_faults = one_more old.put_faults })
PutsAsListed old row (Err Memory) new = new ≡ put_counted old

-- one more reading was made
abbrev pub read_counted : Failing → Failing
read_counted store = record store { reads = one_more store.reads }

-- A reading fails exactly if its number is listed.
abbrev pub ReadsAsListed : Failing → ℕ → ℕ → Result (List Row) KeepError → Failing → Type 0
ReadsAsListed old from max (Ok page) new =
    ¬ Contains old.read_fails (one_more old.reads)
    × (page ≡ take max (drop from old.rows)) × (new ≡ read_counted old)
ReadsAsListed old from max (Err Failed) new =
    Contains old.read_fails (one_more old.reads)
    × (new ≡ record (read_counted old) { read_faults = one_more old.read_faults })
ReadsAsListed old from max (Err Memory) new = new ≡ read_counted old
