-- Each clause, of how the words ended and of what was said.
use Rattle.std.proofs.Common.{ap}
use Rattle.dp_app.proofs.Ends.{distinct, due-of-world, ends-of, for-known, joins-of, no-link}
use Rattle.dp_app.proofs.Ends.{nothing-kept, other-words, serves-of, to-end, untouched, wires-stay}
use Rattle.dp_app.proofs.Given.{complete, exact, some-due}
use Rattle.dp_app.proofs.Keeping.{connections, rows-kept}
use Rattle.dp_app.proofs.Telling.{by-status}
use Rattle.dp_app.proofs.program.drawpile.Goals as goal

pub returns-clause-other_words : goal.returns-clause-other_words
returns-clause-other_words g c =
    other-words _ c.args.words.now _ _ _ _ _ _ _ c.run_words-ending.ensures.ends
    c.say-status.ensures.says

pub returns-clause-no_link : goal.returns-clause-no_link
returns-clause-no_link g c =
    no-link _ c.args.words.now _ _ _ _ _ _ c.one_command_line.ensures _
    c.run_words-ending.ensures.ends c.say-status.ensures.says

pub returns-clause-ends : goal.returns-clause-ends
returns-clause-ends g c =
    ends-of _ c.args.words.now _ _ _ _ _ _ c.one_command_line.ensures
    c.local_commands_are_runs.ensures _ c.run_words-ending.ensures.ends
    c.say-status.ensures.says

pub returns-clause-joins : goal.returns-clause-joins
returns-clause-joins g c =
    joins-of _ c.args.words.now _ _ _ _ _ _ c.one_command_line.ensures _
    c.run_words-ending.ensures.ends c.say-status.ensures.says

pub returns-clause-serves : goal.returns-clause-serves
returns-clause-serves g c =
    serves-of _ c.args.words.now _ _ _ _ _ _ c.one_command_line.ensures _
    c.run_words-ending.ensures.ends c.say-status.ensures.says

pub returns-clause-headline : goal.returns-clause-headline
returns-clause-headline g c =
    λ world. for-known (g.I.Source.left c.args.input.now) (λ bytes told done after actions parts
    asked. c.headline.ensures actions)

pub returns-clause-forks : goal.returns-clause-forks
returns-clause-forks g c =
    λ world. for-known (g.I.Source.left c.args.input.now) (λ bytes told done after actions
    number parts unended. c.forks_of_lines_are_plain.ensures done actions number unended)

pub returns-clause-due : goal.returns-clause-due
returns-clause-due g c =
    due-of-world _ c.args.words.now _ _ _ _ _ _ c.one_command_line.ensures
    c.local_commands_are_runs.ensures _ c.run_words-ending.ensures.ends
    c.say-status.ensures.says (λ bytes end. c.reports_are_due.ensures.report bytes _ _ _ _ end)

pub returns-clause-due_draws : goal.returns-clause-due_draws
returns-clause-due_draws g c =
    due-of-world _ c.args.words.now _ _ _ _ _ _ c.one_command_line.ensures
    c.local_commands_are_runs.ensures _ c.run_words-ending.ensures.ends
    c.say-status.ensures.says (λ bytes end. c.reports_are_due.ensures.draws bytes _ _ _ _ end)

pub returns-clause-some_due : goal.returns-clause-some_due
returns-clause-some_due g c =
    λ never bytes link. some-due c.local_commands_are_runs.ensures c.each_outcome.ensures
    c.args.words.now bytes link

pub returns-clause-complete : goal.returns-clause-complete
returns-clause-complete g c =
    complete _ c.args.words.now _ _ _ _ _ _ c.local_commands_are_runs.ensures _
    c.run_words-ending.ensures.ends c.say-status.ensures.says

pub returns-clause-exact : goal.returns-clause-exact
returns-clause-exact g c =
    exact _ c.args.words.now _ _ _ _ _ _ c.one_command_line.ensures c.one_outcome.ensures
    c.local_commands_are_runs.ensures _ c.run_words-ending.ensures.ends
    c.say-status.ensures.says

pub returns-clause-usage : goal.returns-clause-usage
returns-clause-usage g c =
    (by-status _ c.args.words.now _ c.local_commands_are_runs.ensures (λ start most old new
    left. c.store_faults_are_counted.ensures _ start most old new left) _ _ _ _ _ _
    c.run_words-ending.ensures.ends c.say-status.ensures.says).0.0

pub returns-clause-lacks : goal.returns-clause-lacks
returns-clause-lacks g c =
    (by-status _ c.args.words.now _ c.local_commands_are_runs.ensures (λ start most old new
    left. c.store_faults_are_counted.ensures _ start most old new left) _ _ _ _ _ _
    c.run_words-ending.ensures.ends c.say-status.ensures.says).0.1

pub returns-clause-link_fault : goal.returns-clause-link_fault
returns-clause-link_fault g c =
    (by-status _ c.args.words.now _ c.local_commands_are_runs.ensures (λ start most old new
    left. c.store_faults_are_counted.ensures _ start most old new left) _ _ _ _ _ _
    c.run_words-ending.ensures.ends c.say-status.ensures.says).0.2

pub returns-clause-untouched : goal.returns-clause-untouched
returns-clause-untouched g c =
    λ none never. let same = untouched _ c.args.words.now _ _ c.run_words-ending.ensures.ends
    none never in (same.0, same.1)

pub returns-clause-uncounted : goal.returns-clause-uncounted
returns-clause-uncounted g c =
    λ none never. let same = untouched _ c.args.words.now _ _ c.run_words-ending.ensures.ends
    none never in (same.2, same.3)

pub returns-clause-undrawn : goal.returns-clause-undrawn
returns-clause-undrawn g c =
    λ none never. (untouched _ c.args.words.now _ _ c.run_words-ending.ensures.ends none
    never).4

pub returns-clause-nothing_kept : goal.returns-clause-nothing_kept
returns-clause-nothing_kept g c =
    nothing-kept _ c.args.words.now _ _ c.run_words-ending.ensures.ends

pub returns-clause-distinct : goal.returns-clause-distinct
returns-clause-distinct g c =
    distinct _ c.args.words.now _ (λ start most old new left.
    c.reports_name_distinct_connections.ensures.on _ start most old new left) _
    c.run_words-ending.ensures.ends

pub returns-clause-connections : goal.returns-clause-connections
returns-clause-connections g c =
    connections _ c.args.words.now _ (λ start most old new left.
    c.acts_of_connections.ensures.on _ start most old new left) _
    c.run_words-ending.ensures.ends

pub returns-clause-rows_kept : goal.returns-clause-rows_kept
returns-clause-rows_kept g c =
    rows-kept _ c.args.words.now _ c.one_command_line.ensures (λ start most old new left.
    c.rows_are_kept.ensures _ start most old new left) (λ never. ap g.K.Keeper.held
    (c.run_words-ending.ensures.keeper never)) _ c.run_words-ending.ensures.ends

pub returns-clause-wires_stay : goal.returns-clause-wires_stay
returns-clause-wires_stay g c =
    wires-stay _ c.args.words.now _ _ c.run_words-ending.ensures.ends

pub returns-clause-keeper_stays : goal.returns-clause-keeper_stays
returns-clause-keeper_stays g c =
    c.run_words-ending.ensures.keeper

pub returns-clause-store_fault : goal.returns-clause-store_fault
returns-clause-store_fault g c =
    (by-status _ c.args.words.now _ c.local_commands_are_runs.ensures (λ start most old new
    left. c.store_faults_are_counted.ensures _ start most old new left) _ _ _ _ _ _
    c.run_words-ending.ensures.ends c.say-status.ensures.says).0.3

pub returns-clause-bad_row : goal.returns-clause-bad_row
returns-clause-bad_row g c =
    (by-status _ c.args.words.now _ c.local_commands_are_runs.ensures (λ start most old new
    left. c.store_faults_are_counted.ensures _ start most old new left) _ _ _ _ _ _
    c.run_words-ending.ensures.ends c.say-status.ensures.says).0.4

pub returns-clause-to_end : goal.returns-clause-to_end
returns-clause-to_end g c =
    to-end _ c.args.words.now _ _ _ _ _ _ c.one_command_line.ensures
    c.local_commands_are_runs.ensures _ c.run_words-ending.ensures.ends
    c.say-status.ensures.says

pub returns-clause-fault_told : goal.returns-clause-fault_told
returns-clause-fault_told g c =
    λ command. (by-status _ c.args.words.now _ c.local_commands_are_runs.ensures (λ start most
    old new left. c.store_faults_are_counted.ensures _ start most old new left) _ _ _ _ _ _
    c.run_words-ending.ensures.ends c.say-status.ensures.says).1.3

pub returns-clause-unfailed : goal.returns-clause-unfailed
returns-clause-unfailed g c =
    λ command. (by-status _ c.args.words.now _ c.local_commands_are_runs.ensures (λ start most
    old new left. c.store_faults_are_counted.ensures _ start most old new left) _ _ _ _ _ _
    c.run_words-ending.ensures.ends c.say-status.ensures.says).1.2

pub returns-clause-read_fault : goal.returns-clause-read_fault
returns-clause-read_fault g c =
    (by-status _ c.args.words.now _ c.local_commands_are_runs.ensures (λ start most old new
    left. c.store_faults_are_counted.ensures _ start most old new left) _ _ _ _ _ _
    c.run_words-ending.ensures.ends c.say-status.ensures.says).1.0

pub returns-clause-write_fault : goal.returns-clause-write_fault
returns-clause-write_fault g c =
    (by-status _ c.args.words.now _ c.local_commands_are_runs.ensures (λ start most old new
    left. c.store_faults_are_counted.ensures _ start most old new left) _ _ _ _ _ _
    c.run_words-ending.ensures.ends c.say-status.ensures.says).1.1

pub returns-clause-input_later : goal.returns-clause-input_later
returns-clause-input_later g c =
    c.run_words-ending.ensures.input_later

pub returns-clause-output_later : goal.returns-clause-output_later
returns-clause-output_later g c =
    c.run_words-ending.ensures.output_later

pub returns-clause-diag_later : goal.returns-clause-diag_later
returns-clause-diag_later g c =
    c.say-status.ensures.later
