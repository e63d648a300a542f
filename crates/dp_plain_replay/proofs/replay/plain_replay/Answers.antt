use Rattle.dp_plain_replay.proofs.Counts.{no_tiles, none_weighs}
use Rattle.dp_plain_replay.proofs.replay.plain_replay.Goals as goal

pub returns-clause-draws_rise : goal.returns-clause-draws_rise
returns-clause-draws_rise g c = c.show_on.ensures.counts.draws_rise

pub returns-clause-few_draws : goal.returns-clause-few_draws
returns-clause-few_draws g c = c.show_on.ensures.counts.few_draws

pub returns-clause-no_tile : goal.returns-clause-no_tile
returns-clause-no_tile g c =
    no_tiles _ _ _ _ _ _ none_weighs c.show_on.ensures.counts
