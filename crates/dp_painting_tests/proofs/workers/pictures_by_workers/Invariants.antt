use Rattle.dp_painting_tests.proofs.workers.pictures_by_workers.Given as goal

abbrev pub ghosts-check_workers-D-Ledger : goal.ghosts-check_workers-D-Ledger
ghosts-check_workers-D-Ledger g a = record { name = a.draw_blank.name; parts = a.draw_blank.parts }

abbrev pub ghosts-check_workers-T-Ledger : goal.ghosts-check_workers-T-Ledger
ghosts-check_workers-T-Ledger g a = record { name = a.tile_blank.name; parts = a.tile_blank.parts }
