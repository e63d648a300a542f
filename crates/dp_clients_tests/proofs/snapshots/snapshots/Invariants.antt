use Rattle.dp_clients_tests.proofs.snapshots.snapshots.Given as goal

abbrev pub ghosts-check_snapshots-D-Ledger : goal.ghosts-check_snapshots-D-Ledger
ghosts-check_snapshots-D-Ledger g a =
    record { name = a.draw_blank.name; parts = a.draw_blank.parts }

abbrev pub ghosts-check_snapshots-T-Ledger : goal.ghosts-check_snapshots-T-Ledger
ghosts-check_snapshots-T-Ledger g a =
    record { name = a.tile_blank.name; parts = a.tile_blank.parts }
