use Rattle.dp_painting_tests.proofs.pictures.pictures.Given as goal

abbrev pub ghosts-check_pictures-D-Ledger : goal.ghosts-check_pictures-D-Ledger
ghosts-check_pictures-D-Ledger g a = record { name = a.draw_blank.name; parts = a.draw_blank.parts }

abbrev pub ghosts-check_pictures-T-Ledger : goal.ghosts-check_pictures-T-Ledger
ghosts-check_pictures-T-Ledger g a = record { name = a.tile_blank.name; parts = a.tile_blank.parts }
