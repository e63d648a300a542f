use Rattle.dp_base_tests.proofs.steps.a_counter_counts.Given as goal

abbrev pub ghosts-count_to_three : goal.ghosts-count_to_three
ghosts-count_to_three a = record { name = a.blank.name; parts = a.blank.parts }
