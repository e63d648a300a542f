-- What the counters show after operations are drawn one after the other, all of them, or up to one
-- that is refused.
use Rattle.std.specs.Prelude.{ℕ, ◌+◌, ◌≤◌, List, length, sum_by}

-- each operation is drawn once at most, and makes as many tiles as its weight at most
pub record CountsFew {Op : Type 0} (weight : Op → ℕ) (operations : List Op)
    (old_draws new_draws old_tiles new_tiles : ℕ) : Type 0 where
  pub draws_rise : old_draws ≤ new_draws
  pub few_draws : new_draws ≤ old_draws + length operations
  pub tiles_rise : old_tiles ≤ new_tiles
  pub few_tiles : new_tiles ≤ old_tiles + sum_by weight operations
