-- What contracts see of a splitter.
use Rattle.std.specs.Prelude.{ℕ, List}

-- the bytes that are held, and how many were taken as frames before them
pub record Stream : Type 0 where
  pub held : List ℕ
  pub at : ℕ
