use Rattle.dp_screens_tests.proofs.screens.screens_of_two_painters.Given as goal

abbrev pub ghosts-check_all-D-Ledger : goal.ghosts-check_all-D-Ledger
ghosts-check_all-D-Ledger g a = record { name = a.draw_blank.name; parts = a.draw_blank.parts }

abbrev pub ghosts-check_all-T-Ledger : goal.ghosts-check_all-T-Ledger
ghosts-check_all-T-Ledger g a = record { name = a.tile_blank.name; parts = a.tile_blank.parts }
