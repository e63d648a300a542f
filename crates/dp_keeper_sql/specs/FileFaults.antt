-- What contracts see of a store in a file.
use Rattle.std.specs.Prelude.{ℕ}

-- how often a put has failed, and how often a reading has
pub record FileFaults : Type 0 where
  pub puts : ℕ
  pub readings : ℕ
