use Rattle.std.proofs.Common.{◌≡◌, ◌-◌, length}
use Rattle.dp_epochs.specs.Rows.{event_limit}
use Rattle.dp_session.specs.Resuming.{HasFirst}
use Rattle.dp_session.proofs.resume.read_all.Given as goal

-- the events of the first rows were kept
abbrev pub invariant-pages : goal.invariant-pages
invariant-pages g l = record {
  first : HasFirst (g.K.Keeper.held l.fn.keeper) l.tables;
  held : g.K.Keeper.held l.keeper ≡ g.K.Keeper.held l.fn.keeper;
  count : g.K.Keeper.read_faults l.keeper ≡ g.K.Keeper.read_faults l.fn.keeper;
  puts : g.K.Keeper.put_faults l.keeper ≡ g.K.Keeper.put_faults l.fn.keeper;
}

-- how many events more there is room for
abbrev pub decreases-pages : goal.decreases-pages
decreases-pages g l = event_limit - length l.tables.journal
