use Rattle.dp_tile_tests.proofs.tiles.grids_share_tiles.Given as goal

abbrev pub ghosts-check_grids : goal.ghosts-check_grids
ghosts-check_grids g a = record { name = a.blank.name; parts = a.blank.parts }
