-- The numbers that a word can be.
use Rattle.std.specs.Prelude.{◌≡◌, ℕ, ◌^◌, ◌<◌, List, decimal}

-- the word is the number as it is printed, which fits 32 bits
pub record IsNumber (word : List ℕ) (n : ℕ) : Type 0 where
  pub fits : n < 2 ^ 32
  pub text : word ≡ decimal n

-- the word is the number as it is printed, which fits 64 bits
pub record IsLongNumber (word : List ℕ) (n : ℕ) : Type 0 where
  pub fits : n < 2 ^ 64
  pub text : word ≡ decimal n
