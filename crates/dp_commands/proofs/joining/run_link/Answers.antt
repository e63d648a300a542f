-- What became of the slice became of the vector.
use Rattle.dp_commands.proofs.Leaving.{in-vector, stays-of}
use Rattle.dp_commands.proofs.joining.run_link.Goals as goal

pub returns-clause-ends : goal.returns-clause-ends
returns-clause-ends g c =
    let old = c.args.resources.wires in
    let h = in-vector _ c.args.name.now _ _ _ old.items c.deref_mut.result.now
    c.join_first-ending.new.wires old.len c.join_first-ending.result c.deref_mut.ensures.value
    old.ok.0
    (c.join_first-ending.ensures.ends _ _ (stays-of g.K.Keeper.held g.K.Keeper.put_faults
    g.K.Keeper.read_faults _ _ c.without.ensures.keeper) c.without.ensures.nothing) in
    rw (c.without.ensures.ending, c.without.ensures.wires) h
