-- Each command by the law that its input comes to one end.
use Rattle.dp_local.proofs.LocalRuns.{each-is}
use Rattle.dp_local.proofs.laws.local_commands_are_runs.Goals as goal

pub returns : goal.returns
returns c = each-is
    (record {
      entries = c.one_replay.ensures.entries;
      end = c.one_replay.ensures.end;
      some = c.each_replay_ends.ensures;
    })
    (λ at. record {
      entries = c.one_play.ensures.entries;
      end = c.one_play.ensures.end;
      some = c.each_play_ends.ensures;
    })
    (record {
      actions = c.one_schedule.ensures.actions;
      end = c.one_schedule.ensures.end;
      some = c.every_schedule.ensures;
    })
