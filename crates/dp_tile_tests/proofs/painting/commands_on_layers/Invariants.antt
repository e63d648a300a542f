use Rattle.dp_tile_tests.proofs.painting.commands_on_layers.Given as goal

abbrev pub ghosts-check_layers : goal.ghosts-check_layers
ghosts-check_layers g a = record { name = a.blank.name; parts = a.blank.parts }
