use Rattle.dp_flat.proofs.picture.write_p6_by.Given as goal

-- the type names the board whose picture is written
abbrev pub ghosts-write_by : goal.ghosts-write_by
ghosts-write_by g a = record { shown = g.V.BoardView.board a.board.now }
