use Rattle.dp_sim_laws.proofs.KeptShown.{kept-shown}
use Rattle.dp_sim_laws.proofs.laws.keeps_show_the_session.Goals as goal

pub returns : goal.returns
returns c = λ before later number epoch sender each taken in_epoch. kept-shown (record {
  leading = record {
    on_kept = c.steps_lead_on.ensures.kept;
    on_refused = c.steps_lead_on.ensures.refused;
    before = c.steps_lead_on.ensures.before;
    effects = c.events_have_effects.ensures;
    histories = c.histories_grow.ensures;
    epochs = c.epochs_rise.ensures.rise;
    marked = c.histories_are_marked.ensures;
    taking = c.entries_are_taken.ensures;
  };
  speaking = record {
    moves = c.instructions_are_moves.ensures;
    first = c.worlds_stay_worlds.ensures.first;
    stays = c.worlds_stay_worlds.ensures.stays;
    before = c.steps_lead_on.ensures.before;
    histories = c.histories_are_spelled.ensures;
    short = c.histories_are_short.ensures;
    snapshots = c.snapshots_are_spelled.ensures;
  };
  go_on = c.openings_go_on.ensures;
  again = c.snapshots_replay.ensures.again;
}) before later number epoch sender each taken in_epoch
    c.kept_entries_show_the_same.ensures.openings
