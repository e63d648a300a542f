-- The values of options.
use Rattle.std.specs.Prelude.{◌≡◌, ◌≤◌, ℕ, Option, Some, None, ⊤}
use Rattle.clap.specs.Walk.{Text}
use Rattle.dp_lines.specs.Numbers.{IsLongNumber, IsNumber}

-- a number, if there is a word, is the one that the word is
abbrev pub HasAt : Option Text → Option ℕ → Type 0
HasAt None None = ⊤
HasAt (Some word) (Some n) = IsNumber word n
HasAt _ _ = ⊥

-- the number of workers that there is: from 1 to 64
abbrev pub HasWorkers : Option Text → ℕ → Type 0
HasWorkers None n = ⊥
HasWorkers (Some word) n = IsNumber word n × (1 ≤ n) × (n ≤ 64)

-- the number of workers, which is 1 if there is no word
abbrev pub HasWorkersOrOne : Option Text → ℕ → Type 0
HasWorkersOrOne None n = n ≡ 1
HasWorkersOrOne (Some word) n = HasWorkers (Some word) n

-- the number from which a drill is made, of 64 bits
abbrev pub HasSeed : Option Text → ℕ → Type 0
HasSeed None n = ⊥
HasSeed (Some word) n = IsLongNumber word n

-- its number of rounds: at most 100,000
abbrev pub HasRounds : Option Text → ℕ → Type 0
HasRounds None n = ⊥
HasRounds (Some word) n = IsNumber word n × (n ≤ 100000)

-- the number of links is at least 1, if there is one
abbrev pub IsConns : Option ℕ → Type 0
IsConns None = ⊤
IsConns (Some n) = 1 ≤ n
