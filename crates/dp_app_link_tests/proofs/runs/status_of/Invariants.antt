use Rattle.dp_app_link_tests.proofs.runs.status_of.Given as goal

abbrev pub ghosts-counted-D-Ledger : goal.ghosts-counted-D-Ledger
ghosts-counted-D-Ledger g a = record { name = a.draws.name; parts = a.draws.parts }

abbrev pub ghosts-counted-T-Ledger : goal.ghosts-counted-T-Ledger
ghosts-counted-T-Ledger g a = record { name = a.tiles.name; parts = a.tiles.parts }
