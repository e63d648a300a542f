-- The commands on the input and the output alone are runs.
use Rattle.std.proofs.Common.{◌≡◌, ℕ, List, ap, refl, sym, ◌∙◌, arith}
use Rattle.std.specs.Prelude.{Option}
use Rattle.std.specs.Io.KnownBytes.{Appends}
use Rattle.dp_messages.specs.declared.message.Entry.{Entry}
use Rattle.dp_lines.specs.declared.run_end.RunEnd.{RunEnd}
use Rattle.dp_lines.specs.declared.run_end.RunEnd.TheVariants.{Done, Memory, Truncated}
use Rattle.dp_lines.specs.declared.run_end.RunEnd.TheVariants.{WriteFault}
use Rattle.dp_lines.specs.declared.line.Line.{Line}
use Rattle.dp_lines.specs.Ends.{LinesEnd}
use Rattle.dp_schedule.specs.declared.action.Action.{Action}
use Rattle.dp_line_machine.specs.Counters.{Counters}
use Rattle.dp_sim.specs.Report.{report}
use Rattle.dp_viewer.proofs.Given.{appends_nothing, whole_picture}
use Rattle.dp_viewer.specs.Pictures.{PictureLeaves, picture_text}
use Rattle.dp_viewer.specs.Ways.{Way, play_way, replay_way}
use Rattle.dp_words.specs.declared.command_line.LocalCommand.{LocalCommand}
use Rattle.dp_words.specs.declared.command_line.LocalCommand.TheVariants.{Replay, World, Play}
use Rattle.dp_words.specs.declared.command_line.LocalCommand.TheVariants.{Drill}
use Rattle.dp_world.proofs.Due.{no_steps, whole_report}
use Rattle.dp_world.proofs.Leaving.{nothing_leaves}
use Rattle.dp_world.specs.RunEnds.{WorldLeaves, lines_end_of}
use Rattle.dp_world_lines.specs.Schedule.{WorldComesTo}
use Rattle.dp_drill.specs.Leaves.{WritesText}
use Rattle.dp_drill.specs.Summary.{drill_text}
use Rattle.dp_endings.specs.Answer.{answer_for}
use Rattle.dp_local.specs.Runs.{IsReadWhole, IsLocalRun, IsUnfailed, drill_run, picture_run}
use Rattle.dp_local.specs.Runs.{run_of, world_run}

-- ---- pictures

picture-whole : (way : Way) (input left old new : Option (List ℕ)) (end : RunEnd)
    → PictureLeaves way input left old new end → IsReadWhole end left
picture-whole way input left old new Done h = h.0
picture-whole way input left old new (Truncated n) h = h.0
picture-whole way input left old new _ h = tt

-- by the way an input comes to one end, with one list of entries: it can't be that it comes to none
pub record OneReading (way : Way) : Type 0 where
  pub entries : (input : List ℕ) (entries others : List Entry) (end other : RunEnd)
      → way.comes input entries end → way.comes input others other → entries ≡ others
  pub end : (input : List ℕ) (entries others : List Entry) (end other : RunEnd)
      → way.comes input entries end → way.comes input others other → end ≡ other
  pub some : (input : List ℕ)
      → ¬ ((entries : List Entry) (end : RunEnd) → ¬ way.comes input entries end)

picture-is : (way : Way) → OneReading way → IsLocalRun (picture_run way)
picture-is way law = record {
  given = λ bytes left old new c end h unfailed.
      let due = whole_picture IsUnfailed (λ x. x) (λ x. x) (λ x. x) way bytes left old new end h
      unfailed in
      (picture_text way due.0 end, (due.0, end, due.1, refl), due.2);
  one = λ bytes a b x y. x.3
      ∙ ap (λ (es : List Entry). answer_for x.1 (picture_text way es x.1))
      (law.entries bytes x.0 y.0 x.1 y.1 x.2 y.2)
      ∙ ap (λ (end : RunEnd). answer_for end (picture_text way y.0 end))
      (law.end bytes x.0 y.0 x.1 y.1 x.2 y.2) ∙ sym y.3;
  some = λ bytes none. law.some bytes (λ entries end comes.
      none (answer_for end (picture_text way entries end)) (entries, end, comes, refl));
  whole = λ input left old new c end h reads. picture-whole way input left old new end h;
  begun = λ input left old new c unread keeps still. keeps;
  alone = λ input left old new c h. h;
}

-- ---- schedules

world-whole : (input left old new : Option (List ℕ)) (c : Counters) (end : RunEnd)
    → WorldLeaves input left old new c end → IsReadWhole end left
world-whole input left old new c Done h = h.0
world-whole input left old new c (Truncated n) h = absurd h
world-whole input left old new c _ h = tt

-- a schedule comes to one end, with one list of actions: it can't be that it comes to none
pub record OneSchedule : Type 0 where
  pub actions : (input : List ℕ) (done others : List Line) (actions more : List Action)
      (end last : LinesEnd) → WorldComesTo input done actions end
      → WorldComesTo input others more last → actions ≡ more
  pub end : (input : List ℕ) (done others : List Line) (actions more : List Action)
      (end last : LinesEnd) → WorldComesTo input done actions end
      → WorldComesTo input others more last → end ≡ last
  pub some : (input : List ℕ) → ¬ ((done : List Line) (actions : List Action) (end : LinesEnd)
      → ¬ WorldComesTo input done actions end)

world-is : OneSchedule → IsLocalRun world_run
world-is law = record {
  given = λ bytes left old new c end h unfailed.
      let due = whole_report IsUnfailed (λ x. x) (λ x. x) (λ x. x) bytes left old new c end h
      unfailed in (
        report due.1,
        (due.0, due.1, due.2, due.3, ap (λ (e : RunEnd). answer_for e (report due.1)) due.4),
        due.5,
      );
  one = λ bytes a b x y. x.4
      ∙ ap (λ (them : List Action). answer_for (lines_end_of x.2) (report them))
      (law.actions bytes x.0 y.0 x.1 y.1 x.2 y.2 x.3 y.3)
      ∙ ap (λ (end : LinesEnd). answer_for (lines_end_of end) (report y.1))
      (law.end bytes x.0 y.0 x.1 y.1 x.2 y.2 x.3 y.3) ∙ sym y.4;
  some = λ bytes none. law.some bytes (λ done actions end comes.
      none (answer_for (lines_end_of end) (report actions)) (done, actions, end, comes, refl));
  whole = λ input left old new c end h reads. world-whole input left old new c end h;
  begun = λ input left old new c unread keeps still.
      nothing_leaves no_steps input left old new c (appends_nothing old new keeps) still;
  alone = λ input left old new c h. h;
}

-- ---- drills

-- a drill that was not cut short has its summary written
drill-given : (text : List ℕ) (old new : Option (List ℕ)) (end : RunEnd)
    → WritesText text old new end → IsUnfailed end
    → (given : List ℕ) × (answer_for end given ≡ answer_for Done text) × Appends old new given
drill-given text old new Done h unfailed = (text, refl, h)
drill-given text old new WriteFault h unfailed = absurd unfailed
drill-given text old new Memory h unfailed = absurd unfailed
drill-given text old new _ h unfailed = absurd h

drill-is : (seed rounds : ℕ) → IsLocalRun (drill_run seed rounds)
drill-is seed rounds = record {
  given = λ bytes left old new c end h unfailed.
      drill-given (drill_text seed rounds) old new end h.1.text unfailed;
  one = λ bytes a b x y. x ∙ sym y;
  some = λ bytes none. none (answer_for Done (drill_text seed rounds)) refl;
  whole = λ input left old new c end h reads. absurd reads;
  begun = λ input left old new c unread keeps still. (
    unread,
    record {
      text = keeps;
      few = record {
        draws_rise = omega (arith, still.0);
        few_draws = omega (arith, still.0);
        tiles_rise = omega (arith, still.1);
        few_tiles = omega (arith, still.1);
      };
    },
  );
  alone = λ input left old new c h. h.1.text;
}

-- ---- all of them

pub each-is : OneReading replay_way → ((at : Option ℕ) → OneReading (play_way at)) → OneSchedule
    → (command : LocalCommand) → IsLocalRun (run_of command)
each-is replay play world Replay = picture-is replay_way replay
each-is replay play world (Play at workers) = picture-is (play_way at) (play at)
each-is replay play world World = world-is world
each-is replay play world (Drill seed rounds workers) = drill-is seed rounds
