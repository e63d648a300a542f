use Rattle.dp_clients_tests.proofs.plain.boards.Given as goal

abbrev pub ghosts-check_boards-D-Ledger : goal.ghosts-check_boards-D-Ledger
ghosts-check_boards-D-Ledger g a = record { name = a.draws.name; parts = a.draws.parts }

abbrev pub ghosts-check_boards-T-Ledger : goal.ghosts-check_boards-T-Ledger
ghosts-check_boards-T-Ledger g a = record { name = a.tiles.name; parts = a.tiles.parts }
