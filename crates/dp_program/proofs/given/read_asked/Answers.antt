use Rattle.dp_program.proofs.given.read_asked.Goals as goal

-- the wires are those that the words want
pub returns-clause-wires : goal.returns-clause-wires
returns-clause-wires c = rw c.deref-2.ensures.value at c.in_ok-wires.ensures
