use Rattle.dp_painting_tests.proofs.boards.commands_on_all_boards.Given as goal

abbrev pub ghosts-on_all_boards-D-Ledger : goal.ghosts-on_all_boards-D-Ledger
ghosts-on_all_boards-D-Ledger g a = record { name = a.draw_blank.name; parts = a.draw_blank.parts }

abbrev pub ghosts-on_all_boards-T-Ledger : goal.ghosts-on_all_boards-T-Ledger
ghosts-on_all_boards-T-Ledger g a = record { name = a.tile_blank.name; parts = a.tile_blank.parts }
