use Rattle.dp_painting_tests.proofs.workers.batches_by_workers.Given as goal

abbrev pub ghosts-check_batches-D-Ledger : goal.ghosts-check_batches-D-Ledger
ghosts-check_batches-D-Ledger g a = record { name = a.draw_blank.name; parts = a.draw_blank.parts }

abbrev pub ghosts-check_batches-T-Ledger : goal.ghosts-check_batches-T-Ledger
ghosts-check_batches-T-Ledger g a = record { name = a.tile_blank.name; parts = a.tile_blank.parts }
