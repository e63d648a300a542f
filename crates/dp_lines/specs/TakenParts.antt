-- What was taken of an input whose bytes are known.
use Rattle.std.specs.Prelude.{◌≡◌, ℕ, ◌≤◌, List, ◌++◌, length, Option, Some}

-- What was taken of an input of which these bytes are left is a part that meets P, and after it at
-- most `most` bytes.
pub record TookWithin (P : List ℕ → Type 0) (most : ℕ) (input : List ℕ) (left : Option (List ℕ)) :
    Type 0 where
  pub taken : List ℕ
  pub after : List ℕ
  pub untaken : List ℕ
  pub whole : input ≡ taken ++ (after ++ untaken)
  pub left_is : left ≡ Some untaken
  pub meets : P taken
  pub few : length after ≤ most
