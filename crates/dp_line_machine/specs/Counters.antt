-- The counters of a run: how many commands were drawn, and how many tiles were made.
use Rattle.std.specs.Prelude.{◌≡◌, ℕ}
use Rattle.dp_line_machine.specs.Moments.{Moment}

-- the counters before a run, and after it
pub record Counters : Type 0 where
  pub draws : ℕ
  pub draws_now : ℕ
  pub tiles : ℕ
  pub tiles_now : ℕ

-- the counters before and after, of their parts
abbrev pub counters : ℕ → ℕ → ℕ → ℕ → Counters
counters draws draws_now tiles tiles_now =
    record { draws = draws; draws_now = draws_now; tiles = tiles; tiles_now = tiles_now }

-- from one moment to another
abbrev pub counters_of : {M O : Type 0} → Moment M O ℕ ℕ → Moment M O ℕ ℕ → Counters
counters_of start now = counters start.draws now.draws start.tiles now.tiles

-- nothing was drawn, and no tile was made
abbrev pub NothingIsDrawn : Counters → Type 0
NothingIsDrawn c = (c.draws_now ≡ c.draws) × (c.tiles_now ≡ c.tiles)
